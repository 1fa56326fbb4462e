-- What the parts of a rack's calls do.
use Rattle.std.specs.Prelude.{◌≡◌, ℕ, List, Option, Result}
use Rattle.runs.specs.declared.run.Run.{Run}
use Rattle.pool.specs.declared.block.Block.{Block}
use Rattle.pool.specs.declared.fault.PoolFault.{PoolFault}
use Rattle.pool.specs.Blocks.{BlockOnLoan}
use Rattle.pool.specs.Model.{PoolModel, Takes}
use Rattle.pool.specs.Take.{AddsBlock}
use Rattle.rack.specs.declared.fault.RackFault.{RackFault}
use Rattle.rack.specs.declared.line.Line.{Line}
use Rattle.rack.specs.Model.{open_answer, open_lines}

-- a block is taken for the line k, and its record made, or the pool refuses
pub record OpenedBy (m n : PoolModel) (bytes k len : ℕ) (ls ms : List Line) (r : Result ℕ RackFault) : Type 0 where
  pub answer : Result Block PoolFault
  pub taken : Takes m n bytes answer
  pub adds : AddsBlock m.runs n.runs answer
  pub says : r ≡ open_answer k answer
  pub lines : ms ≡ open_lines ls k len answer

-- a block on loan begins at the offset
abbrev pub LoanAt : List (Option Run) → (offset : ℕ) → Type 0
LoanAt rs offset = (b : Block) × BlockOnLoan rs b × (b.offset ≡ offset)
