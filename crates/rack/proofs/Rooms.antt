-- Where a line's samples lie: within its block, and so within the memory.
use Rattle.std.proofs.Common.{◌≡◌, ℕ, suc, ◌+◌, ◌-◌, ◌*◌, ◌<◌, ◌≤◌, List, length, take, drop, Option, sym, ap, ◌∙◌, subst, mul-le-mul_right, suc-mul, arith}
use mathlib.Core.Logic.{∥∥₁_elim}
use native.Mathlib.Bridge.{le_prop}
use borrow.Rule.Slice.PartMut.{put_mid}
use Rattle.std.proofs.lemmas.List.{drop-drop, length-take, length-drop}
use Rattle.samples.specs.Codes.{recoded}
use Rattle.samples.proofs.Slices.{recoded_whole}
use Rattle.pages.specs.Table.{Inside, Apart}
use Rattle.classes.specs.Blocks.{block_bytes}
use Rattle.runs.specs.declared.run.Run.{Run}
use Rattle.runs.proofs.Requests.{request_holds}
use Rattle.pool.specs.State.{RunsOut, FirstsDiffer}
use Rattle.pool.specs.Blocks.{BlockOnLoan}
use Rattle.rack.specs.declared.line.Line.{Line}
use Rattle.rack.specs.Lines.{line, InUse, patched}
use Rattle.rack.specs.Holds.{block_at}
use Rattle.rack.proofs.Keeping.{Tidy}
use Rattle.rack.proofs.Loans.{block_within}

-- a position below n ends before n positions do
pub row : (p n w : ℕ) → p < n → p * w + w ≤ n * w
row p n w h = let k : suc p ≤ n = omega arith in omega (arith, suc-mul p w, mul-le-mul_right w k)

-- a write to m[a..a + w] leaves m with the bytes written from a on
pub patched_mid : (a w k : ℕ) (m bs : List ℕ) → length bs ≡ w → k ≡ w → put_mid a k m bs ≡ patched m a bs
patched_mid a w k m bs e f = let j : k ≡ length bs = omega arith in rw (j, drop-drop)

-- the samples of a line fit its block
pub samples_fit : (w : ℕ) (l : Line) → 0 < l.length → 0 < w → l.length * w ≤ 130560 → l.length * w ≤ block_bytes (l.length * w)
samples_fit w l some wide short = request_holds (l.length * w) (omega (arith, row 0 l.length w some)) short

-- the lines of a rack over its pool's runs and its supply's pages, with samples of w bytes
pub record Housed (rs : List (Option Run)) (v : List ℕ) (ls : List Line) (w : ℕ) : Type 0 where
  pub out : RunsOut rs v
  pub differ : FirstsDiffer rs
  pub inside : Inside (length v) v
  pub apart : Apart v
  pub wide : 0 < w
  pub tidy : Tidy (λ b. ∥ BlockOnLoan rs b ∥₁) w ls

module _ (rs : List (Option Run)) (v : List ℕ) (out : RunsOut rs v) (differ : FirstsDiffer rs) (inside : Inside (length v) v) (apart : Apart v) where
  -- a block on loan that holds a line lies within the memory
  pub line_room : (w : ℕ) (l : Line) → 0 < l.length → 0 < w → l.length * w ≤ 130560 → BlockOnLoan rs (block_at w l) → l.offset + l.length * w ≤ length v * 512
  line_room w l some wide short b = omega (arith, block_within rs v out differ inside apart (block_at w l) b, samples_fit w l some wide short)

module _ (rs : List (Option Run)) (v : List ℕ) (ls : List Line) (w : ℕ) (h : Housed rs v ls w) (l : Line) (n : ℕ) (same : l ≡ line ls n) (u : InUse (line ls n)) where
  -- each position of a line lies within the memory
  pub position_within : (p : ℕ) → p < l.length → l.offset + p * w + w ≤ length v * 512
  position_within p near =
      let few : l.length * w ≤ 130560 = subst (λ (x : Line). x.length * w ≤ 130560) (sym same) (h.tidy.short n u) in
      let room : l.offset + l.length * w ≤ length v * 512 =
      ∥∥₁_elim (h.tidy.lent n u) le_prop
      (λ b. line_room rs v h.out h.differ h.inside h.apart w l (omega arith) h.wide few (subst (λ (x : Line). BlockOnLoan rs (block_at w x)) (sym same) b)) in
      omega (arith, row p l.length w near, room)

  pub next_within : l.next < l.length
  next_within = subst (λ (x : Line). x.next < x.length) (sym same) (omega (arith, (h.tidy.placed n).0, u))

-- the bytes of a write at a that ends within the memory
pub part_written : (a w wide : ℕ) (m out bytes : List ℕ) → w ≡ wide → a + w ≤ length m → length bytes ≡ wide → out ≡ recoded wide bytes (take (a + w - a) (drop a m)) → put_mid a (a + w - a) m out ≡ patched m a bytes
part_written a w wide m out bytes e fits long is =
    let whole : length (take (a + w - a) (drop a m)) ≡ wide = omega (arith, length-take (a + w - a) (drop a m), length-drop a m) in
    ap (put_mid a (a + w - a) m) (is ∙ recoded_whole wide bytes (take (a + w - a) (drop a m)) whole) ∙ patched_mid a wide (a + w - a) m bytes long (omega arith)
