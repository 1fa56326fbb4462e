-- How the blocks on loan change with an open and a close.
use Rattle.std.proofs.Common.{◌≡◌, ℕ, ◌+◌, ◌*◌, ◌<◌, ◌≤◌, List, length, Ok, Err, Option, Result, sym, refl, ap, ◌∙◌, subst, arith}
use mathlib.Core.Logic.{∥∥₁_map, ∥∥₁_elim}
use Rattle.pages.specs.Rule.{Rule}
use Rattle.pages.specs.Table.{Inside, Apart}
use Rattle.runs.specs.declared.run.Run.{Run}
use Rattle.runs.proofs.Requests.{size_of_request}
use Rattle.pool.specs.declared.block.Block.{Block}
use Rattle.pool.specs.declared.fault.PoolFault.{PoolFault}
use Rattle.pool.specs.State.{RunsOut, FirstsDiffer}
use Rattle.pool.specs.Blocks.{block_of, BlockOnLoan, Adds}
use Rattle.pool.specs.Take.{Taken}
use Rattle.pool.proofs.Sound.{only_spot, blocks_stand_lem}
use Rattle.rack.specs.declared.line.Line.{Line}
use Rattle.rack.specs.Lines.{line, used, fresh}
use Rattle.rack.specs.Holds.{block_at}
use Rattle.rack.specs.Model.{open_lines}
use Rattle.rack.proofs.Keeping.{Tidy, tidy_open}

-- the blocks of a sound table
module _ (rs : List (Option Run)) (v : List ℕ) (out : RunsOut rs v) (differ : FirstsDiffer rs) (inside : Inside (length v) v) (apart : Apart v) where
  -- one block on loan begins at an offset
  pub one_block : (b d : Block) → BlockOnLoan rs b → BlockOnLoan rs d → b.offset ≡ d.offset → d ≡ b
  one_block b d x y e =
      let offset : Block → ℕ = λ z. z.offset in
      let q = only_spot rs v out differ inside apart x.0 y.0 b.offset x.1 (ap offset x.2) y.1 (ap offset y.2 ∙ sym e) in
      sym y.2 ∙ ap block_of q ∙ x.2

  -- a block on loan ends within the span
  pub block_within : (b : Block) → BlockOnLoan rs b → b.offset + b.size ≤ length v * 512
  block_within b x =
      let s = blocks_stand_lem rs v out differ inside apart in
      omega (arith, s.before_end x.0 x.1, s.in_span x.0 x.1, ap (λ (z : Block). z.offset) x.2, ap (λ (z : Block). z.size) x.2)

-- b is one more of the blocks on loan, and none before began at its offset
pub record AddsOn (P Q : Block → Type 0) (b : Block) : Type 0 where
  pub keep : (d : Block) → P d → Q d
  pub new : Q b
  pub none : (d : Block) → P d → d.offset ≡ b.offset → ⊥

-- of a table of runs
pub adds_on : (rs ts : List (Option Run)) (u : List ℕ) → RunsOut ts u → FirstsDiffer ts → Inside (length u) u → Apart u → (b : Block) → Adds rs ts b → AddsOn (BlockOnLoan rs) (BlockOnLoan ts) b
adds_on rs ts u out differ inside apart b h =
    record {
      keep = h.kept;
      new = h.now;
      none = λ d x e. h.fresh (subst (BlockOnLoan rs) (one_block ts u out differ inside apart b d h.now (h.kept d x) (sym e)) x);
    }

-- the same as plain facts
pub adds_plain : (P Q : Block → Type 0) (b : Block) → AddsOn P Q b → AddsOn (λ d. ∥ P d ∥₁) (λ d. ∥ Q d ∥₁) b
adds_plain P Q b h = record { keep = λ d x. ∥∥₁_map x (h.keep d); new = ∣ h.new ∣₁; none = λ d x e. ∥∥₁_elim x (λ p q. absurd p) (λ y. h.none d y e) }

module _ (f : List (Option Run) → Block → Type 0) (w : ℕ) (ls : List Line) (rs ts : List (Option Run)) (v u : List ℕ) (n : ℕ) (h : n < length ls) (t : Tidy (f rs) w ls) where
  -- the lines after an open that the pool answered
  pub tidy_opened : (R : Rule) (len : ℕ) (a : Result Block PoolFault) → Taken R (len * w) rs ts v u a
      → ((b : Block) → a ≡ Ok b → AddsOn (f rs) (f ts) b) → used (line ls n).state ≡ 0 → 0 < len → len * w ≤ 130560 → Tidy (f ts) w (open_lines ls n len a)
  tidy_opened R len (Ok b) k adds free some few =
      let is : b ≡ block_at w (fresh b.offset len) = ap (λ (z : ℕ). at b z) (k.size ∙ size_of_request (len * w) k.shape k.asked) in
      let a = adds b refl in
      tidy_open (f rs) (f ts) w ls n b.offset len h free some few a.keep (subst (f ts) is a.new) a.none t
    where
      at : Block → ℕ → Block
      at b z = record { offset = b.offset; size = z }
  tidy_opened R len (Err e) k adds free some few = subst (λ (xs : List (Option Run)). Tidy (f xs) w ls) (sym k.runs_kept) t
