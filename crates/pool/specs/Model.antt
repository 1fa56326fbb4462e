-- What a pool is seen as, and what its calls do to that and answer.
use Rattle.std.specs.Prelude.{ℕ, List, Option, Result}
use Rattle.pages.specs.Rule.{Rule}
use Rattle.runs.specs.declared.run.Run.{Run}
use Rattle.runs.specs.declared.shape.Shape.{Shape}
use Rattle.runs.specs.declared.table.Spot.{Spot}
use Rattle.pool.specs.declared.block.Block.{Block}
use Rattle.pool.specs.declared.fault.PoolFault.{PoolFault}
use Rattle.pool.specs.Take.{Taken}
use Rattle.pool.specs.Release.{Releases, Released, Restored}
use Rattle.pool.specs.Parts.{Beginning}

-- what the supply grants, the table of runs, and the supply's table of pages
pub record PoolModel : Type 1 where
  pub rule : Rule
  pub runs : List (Option Run)
  pub pages : List ℕ

-- from the pool m to the pool n
module _ (m n : PoolModel) where
  abbrev pub Takes : (bytes : ℕ) → Result Block PoolFault → Type 0
  Takes bytes r = Taken m.rule bytes m.runs n.runs m.pages n.pages r

  abbrev pub BeginsRun : (bytes : ℕ) → Shape → Result Block PoolFault → Type 0
  BeginsRun bytes s r = Beginning m.rule bytes s m.runs n.runs m.pages n.pages r

  abbrev pub TakesBack : (offset : ℕ) → Result (Unit {0}) PoolFault → Type 0
  TakesBack offset r = Releases m.rule m.runs n.runs m.pages n.pages offset r

  abbrev pub TookBack : (offset : ℕ) → Type 0
  TookBack offset = Released m.rule m.runs n.runs m.pages n.pages offset

  abbrev pub FreesSlot : Spot → Type 0
  FreesSlot p = Restored m.rule p m.runs n.runs m.pages n.pages
