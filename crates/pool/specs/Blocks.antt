-- Blocks: where a slot's block lies, and which are on loan.
use Rattle.std.specs.Prelude.{◌≡◌, ℕ, ◌+◌, ◌*◌, ◌<◌, ◌≤◌, true, ◌⊎◌, List, length, Some, None, Option, ◌≢◌, slice_index_or}
use Rattle.classes.specs.Limits.{page_bytes}
use Rattle.runs.specs.declared.run.Run.{Run}
use Rattle.runs.specs.declared.table.Spot.{Spot}
use Rattle.runs.specs.Shapes.{block_size}
use Rattle.runs.specs.Table.{is_on_loan}
use Rattle.pool.specs.declared.block.Block.{Block}

-- where a run begins, in bytes
abbrev pub run_start : Run → ℕ
run_start r = r.first * page_bytes

-- where a run ends
abbrev pub run_end : Run → ℕ
run_end r = (r.first + r.shape.count) * page_bytes

-- where the block of a slot begins, in bytes
abbrev pub start_of : Spot → ℕ
start_of p = run_start p.run + p.slot * block_size p.run.shape

-- where the block of a slot ends
abbrev pub end_of : Spot → ℕ
end_of p = start_of p + block_size p.run.shape

-- the block of a slot
abbrev pub block_of : Spot → Block
block_of p = record { offset = start_of p; size = block_size p.run.shape }

-- the slot's run stands in the table, and the slot is on loan
abbrev pub OnLoan : List (Option Run) → Spot → Type 0
OnLoan rs p = (slice_index_or rs p.index None ≡ Some p.run) × (is_on_loan p.run p.slot ≡ true)

-- the block is that of a slot on loan
abbrev pub BlockOnLoan : List (Option Run) → Block → Type 0
BlockOnLoan rs b = (p : Spot) × OnLoan rs p × (block_of p ≡ b)

-- each block on loan has a byte and lies inside its run, and that inside the span; two of them share no byte
pub record BlocksStand (rs : List (Option Run)) (pages : List ℕ) : Type 0 where
  pub some : (b : Block) → BlockOnLoan rs b → 0 < b.size
  pub after_start : (p : Spot) → OnLoan rs p → run_start p.run ≤ start_of p
  pub before_end : (p : Spot) → OnLoan rs p → end_of p ≤ run_end p.run
  pub in_span : (p : Spot) → OnLoan rs p → run_end p.run ≤ length pages * page_bytes
  pub apart : (b d : Block) → BlockOnLoan rs b → BlockOnLoan rs d → (b ≢ d) → (b.offset + b.size ≤ d.offset) ⊎ (d.offset + d.size ≤ b.offset)

-- the blocks on loan are those before, and b, which was none of them
pub record Adds (rs ts : List (Option Run)) (b : Block) : Type 0 where
  pub fresh : BlockOnLoan rs b → ⊥
  pub now : BlockOnLoan ts b
  pub kept : (d : Block) → BlockOnLoan rs d → BlockOnLoan ts d
  pub only : (d : Block) → BlockOnLoan ts d → (d ≡ b) ⊎ BlockOnLoan rs d

-- the blocks on loan are those before, without the one that begins at the offset
pub record Drops (rs ts : List (Option Run)) (offset : ℕ) : Type 0 where
  pub kept : (d : Block) → BlockOnLoan rs d → (d.offset ≢ offset) → BlockOnLoan ts d
  pub only : (d : Block) → BlockOnLoan ts d → BlockOnLoan rs d × (d.offset ≢ offset)
