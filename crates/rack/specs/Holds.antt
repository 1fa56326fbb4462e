-- What is true of the lines of every rack, over a predicate that says which blocks are on loan.
use Rattle.std.specs.Prelude.{◌≡◌, ℕ, ◌+◌, ◌*◌, ◌≤◌, List, Option}
use Rattle.classes.specs.Limits.{longest_request}
use Rattle.classes.specs.Blocks.{block_bytes}
use Rattle.runs.specs.declared.run.Run.{Run}
use Rattle.pool.specs.declared.block.Block.{Block}
use Rattle.pool.specs.Blocks.{BlockOnLoan}
use Rattle.rack.specs.declared.line.Line.{Line}
use Rattle.rack.specs.Lines.{line, used, InUse}

-- the block of a line, with samples of w bytes
abbrev pub block_at : (w : ℕ) → Line → Block
block_at w l = record { offset = l.offset; size = block_bytes (l.length * w) }

-- a line in use has its next position within its length, and a line keeps no more than that
abbrev pub Placed : List Line → Type 0
Placed ls = (k : ℕ) → ((line ls k).next + used (line ls k).state ≤ (line ls k).length) × ((line ls k).kept ≤ (line ls k).length)

-- the samples of a line in use are no more bytes than the longest request
abbrev pub Short : (w : ℕ) → List Line → Type 0
Short w ls = (k : ℕ) → InUse (line ls k) → (line ls k).length * w ≤ longest_request

-- the block of a line in use is on loan
abbrev pub Lent : (OnLoan : Block → Type 0) (w : ℕ) → List Line → Type 0
Lent OnLoan w ls = (k : ℕ) → InUse (line ls k) → OnLoan (block_at w (line ls k))

-- two lines in use have two blocks
abbrev pub OffsetsDiffer : List Line → Type 0
OffsetsDiffer ls = (j k : ℕ) → InUse (line ls j) × InUse (line ls k) × ((line ls j).offset ≡ (line ls k).offset) → j ≡ k

-- the same over a table of runs, as a plain fact
abbrev pub LentFrom : List (Option Run) → (w : ℕ) → List Line → Type 0
LentFrom rs w ls = Lent (λ b. ∥ BlockOnLoan rs b ∥₁) w ls
