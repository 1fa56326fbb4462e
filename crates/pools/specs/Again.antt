-- A block is released, and a request taken at once.
use Rattle.std.specs.Prelude.{◌≡◌, ℕ, true, ◌⊎◌, List, is_ok, Err, Option, Result}
use Rattle.runs.specs.declared.run.Run.{Run}
use Rattle.runs.specs.declared.table.Spot.{Spot}
use Rattle.runs.specs.Shapes.{ShapeOf}
use Rattle.pool.specs.declared.block.Block.{Block}
use Rattle.pool.specs.declared.fault.PoolFault.{PoolFault}
use Rattle.pool.specs.Blocks.{start_of, OnLoan}
use Rattle.pool.specs.Model.{PoolModel}
use Rattle.pool.specs.Take.{Taken}
use Rattle.pool.specs.Release.{Released, NotReleased}

-- if a block on loan begins at the offset, and a run for the request has its run's shape, the take is granted
abbrev pub GrantedAgain : (rs : List (Option Run)) (offset bytes : ℕ) → Result Block PoolFault → Type 0
GrantedAgain rs offset bytes answer = (p : Spot) → OnLoan rs p → start_of p ≡ offset → ShapeOf bytes p.run.shape → is_ok answer ≡ true

-- from the pool m to the pool n: refused as the release is; or released, and then what the take says of the tables between
-- the two calls
abbrev pub Again : (m n : PoolModel) (offset bytes : ℕ) → Result Block PoolFault → Type 0
Again m n offset bytes answer =
    ((e : PoolFault) × (answer ≡ Err e) × NotReleased m.runs n.runs m.pages n.pages offset e)
    ⊎ ((us : List (Option Run)) × (between : List ℕ) × Released m.rule m.runs us m.pages between offset × Taken m.rule bytes us n.runs between n.pages answer)
