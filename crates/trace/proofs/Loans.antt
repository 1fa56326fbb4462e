-- Every block on loan is that of a line in use, and every run has a block on loan.
use Rattle.std.proofs.Common.{◌≡◌, ℕ, suc, ◌<◌, Bool, true, false, cond, not, ◌⊎◌, List, [], ◌∷◌, length, get_or, set, replicate, None, sym, refl, ap, ◌∙◌, ⊎_elim, arith}
use Rattle.std.proofs.lemmas.List.{get_or-set_same, get_or-set_other}
use Rattle.std.proofs.lemmas.List.Sums.{sum_by-cons}
use Rattle.runs.specs.declared.run.Run.{Run}
use Rattle.runs.specs.Bitmap.{clear_in}
use Rattle.runs.specs.Loans.{loans}
use Rattle.runs.specs.Shapes.{slots_in}
use Rattle.runs.specs.Table.{free, is_on_loan}
use Rattle.pool.specs.declared.block.Block.{Block}
use Rattle.pool.specs.Blocks.{BlockOnLoan}
use Rattle.pool.proofs.States.{none_some, all_none}
use Rattle.rack.specs.declared.line.Line.{Line}
use Rattle.rack.specs.Lines.{unused, line, used, InUse, fresh}
use Rattle.rack.specs.Holds.{block_at}
use Rattle.rack.proofs.Keeping.{line_cases}

-- a list with fewer clear entries than entries has one that is set
set_exists : (bs : List Bool) → clear_in bs < length bs → (i : ℕ) × (get_or bs i false ≡ true)
unfolding clear_in
set_exists [] h = absurd (omega arith)
set_exists (true ∷ bs) h = (0, refl)
set_exists (false ∷ bs) h = let r = set_exists bs (omega (arith, h, sum_by-cons (λ (b : Bool). cond (not b) 1 0) false bs)) in (suc r.0, r.1)

-- a run that is not all free has a slot on loan
pub loan_exists : (r : Run) → free r < slots_in r.shape → (s : ℕ) × (is_on_loan r s ≡ true)
loan_exists r h = set_exists (loans r.slots) (omega (arith, r.cut))

-- each block on loan is that of a line in use, with samples of w bytes
abbrev pub Owned : (OnLoan : Block → Type 0) (w : ℕ) → List Line → Type 0
Owned OnLoan w ls = (b : Block) → OnLoan b → (k : ℕ) × InUse (line ls k) × (block_at w (line ls k) ≡ b)

pub owned_new : (w : ℕ) (ls : List Line) → Owned (BlockOnLoan (replicate 128 None)) w ls
owned_new w ls b x = absurd (none_some x.0.run (sym (all_none 128 x.0.index) ∙ x.1.0))

module _ (P : Block → Type 0) (w : ℕ) (ls : List Line) (n : ℕ) (h : n < length ls) (o : Owned P w ls) where
  -- a change that leaves whether the line is in use, and its block
  pub owned_same : (l : Line) → used l.state ≡ used (line ls n).state → block_at w l ≡ block_at w (line ls n) → Owned P w (set ls n l)
  owned_same l s z b x =
      let y = o b x in
      ⊎_elim
      (λ c.
      let e : line ls n ≡ line ls y.0 = ap (line ls) (sym c.0) in
      (y.0, ap (λ (k : Line). used k.state) c.1 ∙ s ∙ ap (λ (k : Line). used k.state) e ∙ y.1, ap (block_at w) c.1 ∙ z ∙ ap (block_at w) e ∙ y.2))
      (λ c. (y.0, ap (λ (k : Line). used k.state) c.1 ∙ y.1, ap (block_at w) c.1 ∙ y.2))
      (line_cases ls n l y.0 h)

  -- a line that is opened
  pub owned_open : (Q : Block → Type 0) (len : ℕ) (b : Block) → used (line ls n).state ≡ 0 → b ≡ block_at w (fresh b.offset len) → ((d : Block) → Q d → (d ≡ b) ⊎ P d) → Owned Q w (set ls n (fresh b.offset len))
  owned_open Q len b free is only d x =
      ⊎_elim
      (λ e.
      let here = get_or-set_same ls n (fresh b.offset len) unused h in
      (n, ap (λ (k : Line). used k.state) here, ap (block_at w) here ∙ sym is ∙ sym e))
      (λ y.
      let z = o d y in
      let other : z.0 ≡ n → ⊥ = λ e. let one : ◌≡◌ {A = ℕ} 0 1 = sym free ∙ ap (λ (k : ℕ). used (line ls k).state) (sym e) ∙ z.1 in omega arith in
      let same = get_or-set_other ls n z.0 (fresh b.offset len) unused other in
      (z.0, ap (λ (k : Line). used k.state) same ∙ z.1, ap (block_at w) same ∙ z.2))
      (only d x)

  -- a line that is closed
  pub owned_close : (Q : Block → Type 0) → ((d : Block) → Q d → P d × (d.offset ≡ (line ls n).offset → ⊥)) → Owned Q w (set ls n unused)
  owned_close Q only d x =
      let z = o d (only d x).0 in
      let other : z.0 ≡ n → ⊥ = λ e. (only d x).1 (ap (λ (b : Block). b.offset) (sym z.2) ∙ ap (λ (k : ℕ). (line ls k).offset) e) in
      let same = get_or-set_other ls n z.0 unused unused other in
      (z.0, ap (λ (k : Line). used k.state) same ∙ z.1, ap (block_at w) same ∙ z.2)
