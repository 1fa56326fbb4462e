-- What is true of the runs of every pool.
use Rattle.std.specs.Prelude.{◌≡◌, ℕ, ◌<◌, List, Some, None, Option, slice_index_or}
use Rattle.pages.specs.Table.{Out}
use Rattle.runs.specs.declared.run.Run.{Run}
use Rattle.runs.specs.Shapes.{slots_in}
use Rattle.runs.specs.Table.{free}

-- an index of the table, and the run that stands there
abbrev pub Entry : List (Option Run) → Type 0
Entry rs = (i : ℕ) × (r : Run) × (slice_index_or rs i None ≡ Some r)

-- each run is out of the supply
abbrev pub RunsOut : List (Option Run) → (pages : List ℕ) → Type 0
RunsOut rs pages = (x : Entry rs) → Out pages x.1.first x.1.shape.count

-- two runs begin at two pages
abbrev pub FirstsDiffer : List (Option Run) → Type 0
FirstsDiffer rs = (x y : Entry rs) → x.1.first ≡ y.1.first → x.0 ≡ y.0

-- each run has a slot on loan
abbrev pub InUse : List (Option Run) → Type 0
InUse rs = (x : Entry rs) → free x.1 < slots_in x.1.shape
