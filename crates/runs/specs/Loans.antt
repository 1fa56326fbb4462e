-- The slots of a run as a list: true is on loan.
use Rattle.std.specs.Prelude.{Bool, List}
use Rattle.runs.specs.Bitmap.{bits}
use Rattle.runs.specs.declared.slots.Slots.{Slots}

unfoldable pub loans : Slots → List Bool
loans s = bits s.words s.total
