-- The worked edges of the definitions, in one statement.
use Rattle.classes.specs.Rule.{Smallest, InSlot, NoneStarts}
use Rattle.classes.specs.Long.{LongPages}

-- of the size classes: class 5 has blocks of 20 bytes
pub record ClassEdges : Type 0 where
  pub eight : Smallest 8 0
  pub nine : Smallest 9 1
  pub quarter : Smallest 224 19
  pub past_quarter : Smallest 225 20
  pub longest : Smallest 1792 31
  pub shortest_long : LongPages 1793 4
  pub longest_long : LongPages 130560 255
  pub slot_start : InSlot 5 60 3
  pub slot_middle : InSlot 5 50 2
  pub no_start : NoneStarts 5 50

abbrev pub Edges : Type 0
Edges = ClassEdges
