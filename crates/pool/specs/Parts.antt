-- What the parts of `take` and `release` do.
use Rattle.std.specs.Prelude.{◌≡◌, ℕ, true, false, List, [], ◌∷◌, Some, None, Ok, Err, Option, Result}
use Rattle.pages.specs.Rule.{Rule}
use Rattle.runs.specs.declared.run.Run.{Run}
use Rattle.runs.specs.declared.shape.Shape.{Shape}
use Rattle.runs.specs.declared.table.Spot.{Spot}
use Rattle.runs.specs.Shapes.{block_size}
use Rattle.runs.specs.Table.{is_on_loan}
use Rattle.pool.specs.declared.block.Block.{Block}
use Rattle.pool.specs.declared.fault.PoolFault.{PoolFault}
use Rattle.pool.specs.Faults.{Says}
use Rattle.pool.specs.Blocks.{block_of}
use Rattle.pool.specs.Release.{Begins}
use Rattle.pool.specs.Take.{NoneServes, Lent, Begun, NotBegun}

-- a slot of a run that there is
abbrev pub Lending : Shape → (rs ts : List (Option Run)) → Option Block → Type 0
Lending s rs ts None = NoneServes s.class rs × (ts ≡ rs)
Lending s rs ts (Some b) = (p : Spot) × Lent s.class rs ts p × (b ≡ block_of p) × (b.size ≡ block_size s)

-- a new run
abbrev pub Beginning : (R : Rule) (bytes : ℕ) (s : Shape) (rs ts : List (Option Run)) (before after : List ℕ) → Result Block PoolFault → Type 0
Beginning R bytes s rs ts before after (Ok b) = (p : Spot) × Begun R s rs ts before after p × (b ≡ block_of p)
Beginning R bytes s rs ts before after (Err e) = (ts ≡ rs) × (after ≡ before) × NotBegun R bytes s.count rs before after e

-- 26 where no slot of the run begins at the offset, 27 where the slot that does is not on loan
pub record NoneOnLoan (r : Run) (offset : ℕ) (e : PoolFault) : Type 0 where
  pub between : ((s : ℕ) → Begins r s offset → ⊥) → Says e 26 (offset ∷ [])
  pub idle : (s : ℕ) → Begins r s offset → (is_on_loan r s ≡ false) × Says e 27 (offset ∷ [])

-- the slot on loan of the run that begins at the offset
abbrev pub SlotOnLoan : (r : Run) (offset : ℕ) → Result ℕ PoolFault → Type 0
SlotOnLoan r offset (Ok s) = Begins r s offset × (is_on_loan r s ≡ true)
SlotOnLoan r offset (Err e) = NoneOnLoan r offset e
