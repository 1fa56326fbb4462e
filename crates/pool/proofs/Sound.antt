-- Blocks on loan lie apart, and an offset finds its block.
use Rattle.std.proofs.Common.{◌≡◌, ℕ, ◌+◌, ◌*◌, ◌/◌, ◌<◌, ◌≤◌, true, false, ltb, leb, ◌⊎◌, List, [], ◌∷◌, length, get_or, Some, None, Option, sym, refl, ap, ◌∙◌, subst, inl, inr, ⊎_elim, arith}
use Rattle.std.proofs.lemmas.Bool.{cases_order, cases_eq, and_parts, and_from, leb-true, ltb-true, le-leb, lt-ltb, false≢true}
use Rattle.pages.specs.Table.{Inside, Apart}
use Rattle.runs.specs.declared.run.Run.{Run}
use Rattle.runs.specs.declared.table.Spot.{Spot}
use Rattle.runs.specs.Loans.{loans}
use Rattle.runs.specs.Shapes.{slots_in, block_size}
use Rattle.runs.specs.Table.{covers, First, is_on_loan}
use Rattle.runs.proofs.Bitmaps.{set_within}
use Rattle.runs.proofs.Cuts.{size_some}
use Rattle.pool.specs.declared.block.Block.{Block}
use Rattle.pool.specs.declared.fault.PoolFault.{PoolFault}
use Rattle.pool.specs.Faults.{Says}
use Rattle.pool.specs.State.{Entry, RunsOut, FirstsDiffer}
use Rattle.pool.specs.Blocks.{run_start, run_end, start_of, end_of, block_of, OnLoan, BlocksStand}
use Rattle.pool.specs.Release.{InRun, Begins, NotReleased}
use Rattle.pool.specs.Parts.{NoneOnLoan}
use Rattle.pool.proofs.States.{some_same, entry_within}
use Rattle.pool.proofs.Lending.{ends, slot_ends}

-- a slot on loan is one of its run's
pub loan_within : (r : Run) (s : ℕ) → is_on_loan r s ≡ true → s < slots_in r.shape
loan_within r s e = subst (λ (n : ℕ). s < n) r.cut (set_within (loans r.slots) s e)

-- a slot that begins at an offset ends within the run
pub begins_in : (r : Run) (s offset : ℕ) → Begins r s offset → InRun r offset × (offset + block_size r.shape ≤ run_end r)
begins_in r s offset b =
    let e = slot_ends r.shape s b.0 in
    let some = size_some r.shape in
    ((omega arith, omega arith), omega arith)

-- one slot begins at an offset
pub one_slot : (r : Run) (s u offset : ℕ) → Begins r s offset → Begins r u offset → s ≡ u
one_slot r s u offset b d =
    ⊎_elim (λ e. e)
    (⊎_elim
    (λ h. absurd (omega (arith, ends s u (block_size r.shape) h, size_some r.shape, b.1, d.1)))
    (λ h. absurd (omega (arith, ends u s (block_size r.shape) h, size_some r.shape, b.1, d.1))))
    (cases_order s u)

abbrev spot : ℕ → Run → ℕ → Spot
spot i r s = record { index = i; run = r; slot = s }

spot_same : (p q : Spot) → p.index ≡ q.index → p.run ≡ q.run → p.slot ≡ q.slot → p ≡ q
spot_same p q a b d = ap (λ (i : ℕ). spot i p.run p.slot) a ∙ ap (λ (r : Run). spot q.index r p.slot) b ∙ ap (spot q.index q.run) d

-- the page of an offset lies in a run just where the offset does
pub covers_in : (r : Run) (offset : ℕ) → covers (offset / 512) (Some r) ≡ true → InRun r offset
covers_in r offset e =
    let k = and_parts (leb r.first (offset / 512)) (ltb (offset / 512) (r.first + r.shape.count)) e in
    let a = leb-true r.first (offset / 512) k.0 in
    let b = ltb-true (offset / 512) (r.first + r.shape.count) k.1 in
    (omega arith, omega arith)

in_covers : (r : Run) (offset : ℕ) → InRun r offset → covers (offset / 512) (Some r) ≡ true
in_covers r offset h =
    let a : r.first ≤ offset / 512 = omega arith in
    let b : offset / 512 < r.first + r.shape.count = omega arith in
    and_from (leb r.first (offset / 512)) (ltb (offset / 512) (r.first + r.shape.count)) (le-leb r.first (offset / 512) a) (lt-ltb (offset / 512) (r.first + r.shape.count) b)

-- a slot on loan begins at the start of its block
pub loan_begins : (rs : List (Option Run)) (q : Spot) (offset : ℕ) → OnLoan rs q → start_of q ≡ offset → Begins q.run q.slot offset
loan_begins rs q offset h e = (loan_within q.run q.slot h.1, e)

module _ (rs : List (Option Run)) (v : List ℕ) (out : RunsOut rs v) (differ : FirstsDiffer rs) (inside : Inside (length v) v) (apart : Apart v) where
  run_some : (x : Entry rs) → 0 < get_or v x.1.first 0
  run_some x = omega (arith, (out x).0, (out x).1)

  run_in_span : (x : Entry rs) → run_end x.1 ≤ length v * 512
  run_in_span x = omega (arith, inside x.1.first (run_some x), (out x).1)

  run_before : (x y : Entry rs) → x.1.first < y.1.first → x.1.first + x.1.shape.count ≤ y.1.first
  run_before x y h = omega (arith, apart x.1.first y.1.first h (run_some y), (out x).1)

  pub same_run : (x y : Entry rs) → x.0 ≡ y.0 → x.1 ≡ y.1
  same_run x y e = some_same x.1 y.1 (sym x.2 ∙ ap (λ (n : ℕ). get_or rs n None) e ∙ y.2)

  -- an offset lies in one run
  pub one_run : (x y : Entry rs) (offset : ℕ) → InRun x.1 offset → InRun y.1 offset → x.0 ≡ y.0
  one_run x y offset a b =
      ⊎_elim (λ e. differ x y e)
      (⊎_elim (λ h. absurd (omega (arith, run_before x y h, a, b))) (λ h. absurd (omega (arith, run_before y x h, a, b))))
      (cases_order x.1.first y.1.first)

  -- two slots of one run
  in_run : (r : Run) (s u : ℕ) → (s ≡ u → ⊥)
      → (run_start r + s * block_size r.shape + block_size r.shape ≤ run_start r + u * block_size r.shape) ⊎ (run_start r + u * block_size r.shape + block_size r.shape ≤ run_start r + s * block_size r.shape)
  in_run r s u n =
      ⊎_elim (λ e. absurd (n e))
      (⊎_elim (λ h. inl (omega (arith, ends s u (block_size r.shape) h))) (λ h. inr (omega (arith, ends u s (block_size r.shape) h))))
      (cases_order s u)

  abbrev entry_of : (p : Spot) → OnLoan rs p → Entry rs
  entry_of p h = (p.index, p.run, h.0)

  loan_ends : (p : Spot) → OnLoan rs p → end_of p ≤ run_end p.run
  loan_ends p h = (begins_in p.run p.slot (start_of p) (loan_begins rs p (start_of p) h refl)).1

  spots_apart : (p q : Spot) → OnLoan rs p → OnLoan rs q → (p ≡ q → ⊥) → (end_of p ≤ start_of q) ⊎ (end_of q ≤ start_of p)
  spots_apart p q h k n =
      ⊎_elim
      (λ e.
      let same = same_run (entry_of p h) (entry_of q k) e in
      subst (λ (r : Run). (end_of p ≤ run_start r + q.slot * block_size r.shape) ⊎ (run_start r + q.slot * block_size r.shape + block_size r.shape ≤ start_of p)) same
      (in_run p.run p.slot q.slot (λ s. n (spot_same p q e same s))))
      (λ d.
      ⊎_elim (λ f. absurd (d (differ (entry_of p h) (entry_of q k) f)))
      (⊎_elim (λ l. inl (omega (arith, loan_ends p h, run_before (entry_of p h) (entry_of q k) l))) (λ l. inr (omega (arith, loan_ends q k, run_before (entry_of q k) (entry_of p h) l))))
      (cases_order p.run.first q.run.first))
      (cases_eq p.index q.index)

  pub blocks_stand_lem : BlocksStand rs v
  blocks_stand_lem =
      record {
        some = λ b x. subst (λ (c : Block). 0 < c.size) x.2 (size_some x.0.run.shape);
        after_start = λ p h. omega arith;
        before_end = loan_ends;
        in_span = λ p h. run_in_span (entry_of p h);
        apart = λ b d x y n.
            subst (λ (c : Block). (c.offset + c.size ≤ d.offset) ⊎ (d.offset + d.size ≤ c.offset)) x.2
            (subst (λ (c : Block). (end_of x.0 ≤ c.offset) ⊎ (c.offset + c.size ≤ start_of x.0)) y.2
            (spots_apart x.0 y.0 x.1 y.1 (λ e. n (sym x.2 ∙ ap block_of e ∙ y.2))));
      }

  module _ (offset : ℕ) (e : PoolFault) where
    pub refused_past : length v * 512 ≤ offset → Says e 24 (offset ∷ []) → NotReleased rs rs v v offset e
    refused_past h k =
        let out_of : (x : Entry rs) → InRun x.1 offset → ⊥ = λ x i. omega (arith, run_in_span x) in
        record {
          runs_kept = refl;
          pages_kept = refl;
          past = λ _. k;
          nowhere = λ l _. absurd (omega arith);
          between = λ x i _. absurd (out_of x i);
          idle = λ x s b. absurd (out_of x (begins_in x.1 s offset b).0);
        }

    pub refused_nowhere : offset < length v * 512 → First (covers (offset / 512)) rs None → Says e 25 (offset ∷ []) → NotReleased rs rs v v offset e
    refused_nowhere l h k =
        let out_of : (x : Entry rs) → InRun x.1 offset → ⊥ =
        λ x i. false≢true (sym (h x.0 (entry_within rs x.0 x.1 x.2)) ∙ ap (covers (offset / 512)) x.2 ∙ in_covers x.1 offset i) in
        record {
          runs_kept = refl;
          pages_kept = refl;
          past = λ p. absurd (omega arith);
          nowhere = λ _ _. k;
          between = λ x i _. absurd (out_of x i);
          idle = λ x s b. absurd (out_of x (begins_in x.1 s offset b).0);
        }

    pub refused_in : (x : Entry rs) → InRun x.1 offset → NoneOnLoan x.1 offset e → NotReleased rs rs v v offset e
    refused_in x i h =
        let same : (y : Entry rs) → InRun y.1 offset → x.1 ≡ y.1 = λ y j. same_run x y (one_run x y offset i j) in
        record {
          runs_kept = refl;
          pages_kept = refl;
          past = λ p. absurd (omega (arith, run_in_span x));
          nowhere = λ _ n. absurd (n x i);
          between = λ y j n. h.between (λ s b. n s (subst (λ (r : Run). Begins r s offset) (same y j) b));
          idle = λ y s b.
              let j = (begins_in y.1 s offset b).0 in
              let k = h.idle s (subst (λ (r : Run). Begins r s offset) (sym (same y j)) b) in
              (subst (λ (r : Run). is_on_loan r s ≡ false) (same y j) k.0, k.1);
        }

    -- a block on loan at the offset is not refused
    pub none_refused : NotReleased rs rs v v offset e → (q : Spot) → OnLoan rs q → start_of q ≡ offset → ⊥
    none_refused h q l b = false≢true (sym (h.idle (entry_of q l) q.slot (loan_begins rs q offset l b)).0 ∙ l.1)

  -- one block on loan begins at an offset
  pub only_spot : (p q : Spot) (offset : ℕ) → OnLoan rs p → start_of p ≡ offset → OnLoan rs q → start_of q ≡ offset → q ≡ p
  only_spot p q offset h a k b =
      let i = loan_begins rs p offset h a in
      let j = loan_begins rs q offset k b in
      let e = one_run (entry_of q k) (entry_of p h) offset (begins_in q.run q.slot offset j).0 (begins_in p.run p.slot offset i).0 in
      let f = same_run (entry_of q k) (entry_of p h) e in
      spot_same q p e f (one_slot p.run q.slot p.slot offset (subst (λ (r : Run). Begins r q.slot offset) f j) i)
