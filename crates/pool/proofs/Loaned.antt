-- Which blocks are on loan after a loan and after a return.
use Rattle.std.proofs.Common.{◌≡◌, ℕ, ◌+◌, ◌*◌, ◌<◌, ◌≤◌, Bool, true, false, ◌⊎◌, List, length, get_or, set, replicate, Some, None, Ok, Err, Option, Result, sym, refl, ap, ◌∙◌, subst, inl, inr, ⊎_elim, zero-mul, arith}
use Rattle.std.proofs.lemmas.List.{get_or-set_same, get_or-set_other, get_or_default, get_or_past, get_or-replicate, length-set, length-replicate}
use Rattle.std.proofs.lemmas.Bool.{cases_eq, cases_lt, false≢true}
use Rattle.classes.specs.declared.class.Class.{Class}
use Rattle.pages.specs.Rule.{Rule}
use Rattle.pages.specs.Table.{Inside, Apart}
use Rattle.runs.specs.declared.run.Run.{Run}
use Rattle.runs.specs.declared.shape.Shape.{Shape}
use Rattle.runs.specs.declared.table.Spot.{Spot}
use Rattle.runs.specs.Bitmap.{clear_in}
use Rattle.runs.specs.Loans.{loans}
use Rattle.runs.specs.Shapes.{slots_in, block_size}
use Rattle.runs.specs.Table.{vacant, free, is_on_loan, WithLoans, LendsOf, RestoresAt, RestoresTo}
use Rattle.runs.proofs.Bitmaps.{set_within, clear_in_back, idle_from_length}
use Rattle.runs.proofs.Cuts.{slots_few}
use Rattle.pool.specs.declared.block.Block.{Block}
use Rattle.pool.specs.declared.fault.PoolFault.{PoolFault}
use Rattle.pool.specs.State.{Entry, RunsOut, FirstsDiffer}
use Rattle.pool.specs.Blocks.{start_of, block_of, OnLoan, BlockOnLoan, Adds, Drops}
use Rattle.pool.specs.Take.{Lent, Begun, Taken, AddsBlock}
use Rattle.pool.specs.Release.{Begins, Restored}
use Rattle.pool.proofs.States.{none_some, some_same, entry_within, at_index, lent_within}
use Rattle.pool.proofs.Sound.{loan_within, begins_in, one_slot, only_spot, one_run, same_run, loan_begins}

abbrev spot : ℕ → Run → ℕ → Spot
spot i r s = record { index = i; run = r; slot = s }

abbrev block : ℕ → Shape → ℕ → Block
block f z n = record { offset = f * 512 + n * block_size z; size = block_size z }

-- a slot's block is found by its run's first page, its shape and its number
block_same : (p q : Spot) → p.run.first ≡ q.run.first → p.run.shape ≡ q.run.shape → p.slot ≡ q.slot → block_of p ≡ block_of q
block_same p q a b d =
    ap (λ (f : ℕ). block f p.run.shape p.slot) a ∙ ap (λ (z : Shape). block q.run.first z p.slot) b ∙ ap (block q.run.first q.run.shape) d

-- the slot that changed, and the others
module _ (r t : Run) (s : ℕ) (b : Bool) (h : WithLoans r t (set (loans r.slots) s b)) where
  loan_at : s < slots_in r.shape → is_on_loan t s ≡ b
  loan_at l =
      ap (λ (bs : List Bool). get_or bs s false) h.slots ∙ get_or-set_same (loans r.slots) s b false (subst (λ (n : ℕ). s < n) (sym r.cut) l)

  loan_other : (n : ℕ) → (n ≡ s → ⊥) → is_on_loan t n ≡ is_on_loan r n
  loan_other n d = ap (λ (bs : List Bool). get_or bs n false) h.slots ∙ get_or-set_other (loans r.slots) s n b false d

module _ (rs : List (Option Run)) (i : ℕ) (r t : Run) (here : get_or rs i None ≡ Some r) (f : t.first ≡ r.first) (z : t.shape ≡ r.shape) where
  there : get_or (set rs i (Some t)) i None ≡ Some t
  there = get_or-set_same rs i (Some t) None (entry_within rs i r here)

  -- a slot on loan before, that is on loan after
  to : (q : Spot) → OnLoan rs q → (q.run ≡ r → is_on_loan t q.slot ≡ true) → BlockOnLoan (set rs i (Some t)) (block_of q)
  to q l on =
      ⊎_elim
      (λ e.
      let same : q.run ≡ r = some_same q.run r (sym l.0 ∙ ap (λ (n : ℕ). get_or rs n None) e ∙ here) in
      (spot i t q.slot, (there, on same), block_same (spot i t q.slot) q (f ∙ ap (λ (x : Run). x.first) (sym same)) (z ∙ ap (λ (x : Run). x.shape) (sym same)) refl))
      (λ d. (q, (get_or-set_other rs i q.index (Some t) None d ∙ l.0, l.1), refl))
      (cases_eq q.index i)

  -- a slot on loan after
  from : (q : Spot) → OnLoan (set rs i (Some t)) q → ((is_on_loan t q.slot ≡ true) × (block_of q ≡ block_of (spot i r q.slot))) ⊎ ((q.index ≡ i → ⊥) × OnLoan rs q)
  from q l =
      ⊎_elim
      (λ h.
      let same : t ≡ q.run = some_same t q.run h.1 in
      inl (subst (λ (x : Run). is_on_loan x q.slot ≡ true) (sym same) l.1, block_same q (spot i r q.slot) (ap (λ (x : Run). x.first) (sym same) ∙ f) (ap (λ (x : Run). x.shape) (sym same) ∙ z) refl))
      (λ h. inr (h.0, (h.1, l.1)))
      (at_index rs i (Some t) q.index q.run (entry_within rs i r here) l.0)

module _ (rs : List (Option Run)) (v : List ℕ) (out : RunsOut rs v) (differ : FirstsDiffer rs) (inside : Inside (length v) v) (apart : Apart v) where
  -- a slot that begins where a block on loan does is the same slot
  same_slot : (x : Entry rs) (s : ℕ) → s < slots_in x.1.shape → (q : Spot) → OnLoan rs q → start_of q ≡ start_of (spot x.0 x.1 s) → is_on_loan x.1 s ≡ true
  same_slot x s l q h e =
      let o = start_of (spot x.0 x.1 s) in
      let y : Entry rs = (q.index, q.run, h.0) in
      let j = loan_begins rs q o h e in
      let b : Begins x.1 s o = (l, refl) in
      let f : q.run ≡ x.1 = same_run rs v out differ inside apart y x (one_run rs v out differ inside apart y x o (begins_in q.run q.slot o j).0 (begins_in x.1 s o b).0) in
      let k : q.slot ≡ s = one_slot x.1 q.slot s o (subst (λ (r : Run). Begins r q.slot o) f j) b in
      subst (λ (n : ℕ). is_on_loan x.1 n ≡ true) k (subst (λ (r : Run). is_on_loan r q.slot ≡ true) f h.1)

  pub lent_adds : (class : ℕ) (ts : List (Option Run)) (p : Spot) → LendsOf class rs (Some p) ts → Adds rs ts (block_of p)
  lent_adds class ts p h =
      let r = p.run in
      let i = p.index in
      let s = p.slot in
      let t = h.2.0 in
      let k = h.2.2.1 in
      let here = h.1 in
      let l = lent_within class rs ts p h in
      let was : is_on_loan r s ≡ false = get_or_default (loans r.slots) s false true (subst (λ (n : ℕ). s < n) (sym r.cut) l) ∙ h.2.2.0.0 in
      let on = loan_at r t s true k l in
      let bs = set rs i (Some t) in
      subst (λ (us : List (Option Run)). Adds rs us (block_of p)) (sym h.2.1)
      (record {
        fresh = λ x. false≢true (sym was ∙ same_slot (i, r, here) s l x.0 x.1 (ap (λ (b : Block). b.offset) x.2));
        now = (spot i t s, (there rs i r t here k.first k.shape, on), block_same (spot i t s) p k.first k.shape refl);
        kept = λ d x.
            subst (BlockOnLoan bs) x.2
            (to rs i r t here k.first k.shape x.0 x.1
            (λ same.
            ⊎_elim (λ e. subst (λ (n : ℕ). is_on_loan t n ≡ true) (sym e) on)
            (λ n. loan_other r t s true k x.0.slot n ∙ subst (λ (y : Run). is_on_loan y x.0.slot ≡ true) same x.1.1)
            (cases_eq x.0.slot s)));
        only = λ d x.
            ⊎_elim
            (λ y.
            ⊎_elim (λ e. inl (sym x.2 ∙ y.1 ∙ block_same (spot i r x.0.slot) p refl refl e))
            (λ n. inr (spot i r x.0.slot, (here, sym (loan_other r t s true k x.0.slot n) ∙ y.0), sym y.1 ∙ x.2))
            (cases_eq x.0.slot s))
            (λ y. inr (x.0, y.1, x.2))
            (from rs i r t here k.first k.shape x.0 x.1);
      })

  -- the new run's first slot is its only one on loan
  first_only : (t : Run) (n m : ℕ) → loans t.slots ≡ set (replicate n false) 0 true → 0 < n → is_on_loan t m ≡ true → m ≡ 0
  first_only t n m e l on =
      ⊎_elim (λ z. z)
      (λ d.
      let free-slot : is_on_loan t m ≡ false =
      ap (λ (bs : List Bool). get_or bs m false) e ∙ get_or-set_other (replicate n false) 0 m true false d
      ∙ ⊎_elim (λ h. get_or-replicate n m false false h) (λ h. get_or_past (replicate n false) m false (subst (λ (k : ℕ). k ≤ m) (sym (length-replicate n false)) h)) (cases_lt m n) in
      absurd (false≢true (sym free-slot ∙ on)))
      (cases_eq m 0)

  pub begun_adds : (R : Rule) (z : Shape) (ts : List (Option Run)) (w : List ℕ) (p : Spot) → Begun R z rs ts v w p → Adds rs ts (block_of p)
  begun_adds R z ts w p h =
      let t = p.run in
      let i = p.index in
      let us = set rs i (Some t) in
      let at : get_or us i None ≡ Some t = get_or-set_same rs i (Some t) None h.lowest.0 in
      let on : is_on_loan t p.slot ≡ true =
      ap (λ (n : ℕ). is_on_loan t n) h.slot ∙ ap (λ (bs : List Bool). get_or bs 0 false) h.slots
      ∙ get_or-set_same (replicate (slots_in z) false) 0 true false (subst (λ (n : ℕ). 0 < n) (sym (length-replicate (slots_in z) false)) (slots_few z).0) in
      let empty : (q : Spot) → OnLoan rs q → q.index ≡ i → ⊥ =
      λ q l e. false≢true (ap vacant (sym l.0 ∙ ap (λ (n : ℕ). get_or rs n None) e) ∙ h.lowest.1) in
      subst (λ (xs : List (Option Run)). Adds rs xs (block_of p)) (sym h.put)
      (record {
        fresh = λ x.
            let q = x.0 in
            let y : Entry rs = (q.index, q.run, x.1.0) in
            let o = out y in
            let j = (begins_in q.run q.slot (start_of p) (loan_begins rs q (start_of p) x.1 (ap (λ (b : Block). b.offset) x.2))).0 in
            let s : p.slot * block_size t.shape ≡ 0 = ap (λ (n : ℕ). n * block_size t.shape) h.slot ∙ zero-mul (block_size t.shape) in
            absurd (omega (arith, h.added.free q.run.first (omega (arith, o.0, o.1)) (omega (arith, o.1, j.0, j.1, s)), h.added.some, j.0, j.1, s));
        now = (p, (at, on), refl);
        kept = λ d x. (x.0, (get_or-set_other rs i x.0.index (Some t) None (empty x.0 x.1) ∙ x.1.0, x.1.1), x.2);
        only = λ d x.
            ⊎_elim
            (λ y.
            let same : t ≡ x.0.run = some_same t x.0.run y.1 in
            let n = first_only t (slots_in z) x.0.slot h.slots (slots_few z).0 (subst (λ (r : Run). is_on_loan r x.0.slot ≡ true) (sym same) x.1.1) in
            inl (sym x.2 ∙ block_same x.0 p (ap (λ (r : Run). r.first) (sym same)) (ap (λ (r : Run). r.shape) (sym same)) (n ∙ sym h.slot)))
            (λ y. inr (x.0, (y.1, x.1.1), x.2))
            (at_index rs i (Some t) x.0.index x.0.run h.lowest.0 x.1.0);
      })

  -- the block that comes back: p's
  module _ (p : Spot) (l : OnLoan rs p) where
    other : (q : Spot) → OnLoan rs q → (q ≡ p → ⊥) → start_of q ≡ start_of p → ⊥
    other q k n e = n (only_spot rs v out differ inside apart p q (start_of p) l refl k e)

    more_drops : (ts : List (Option Run)) → RestoresAt rs p.index p.slot ts → Drops rs ts (start_of p)
    more_drops ts h =
        let r = p.run in
        let i = p.index in
        let s = p.slot in
        let k : RestoresTo (Some r) rs i s ts = subst (λ (o : Option Run). RestoresTo o rs i s ts) l.0 h in
        let t = k.0 in
        let e = k.2 in
        let us = set rs i (Some t) in
        let off = loan_at r t s false e (loan_within r s l.1) in
        subst (λ (xs : List (Option Run)). Drops rs xs (start_of p)) (sym k.1)
        (record {
          kept = λ d x n.
              subst (BlockOnLoan us) x.2
              (to rs i r t l.0 e.first e.shape x.0 x.1
              (λ same.
              ⊎_elim
              (λ z. absurd (n (ap (λ (b : Block). b.offset) (sym x.2) ∙ ap (λ (b : Block). b.offset) (block_same x.0 p (ap (λ (y : Run). y.first) same) (ap (λ (y : Run). y.shape) same) z))))
              (λ z. loan_other r t s false e x.0.slot z ∙ subst (λ (y : Run). is_on_loan y x.0.slot ≡ true) same x.1.1)
              (cases_eq x.0.slot s)));
          only = λ d x.
              ⊎_elim
              (λ y.
              let n : x.0.slot ≡ s → ⊥ = λ z. false≢true (sym off ∙ subst (λ (m : ℕ). is_on_loan t m ≡ true) z y.0) in
              let q = spot i r x.0.slot in
              let k : OnLoan rs q = (l.0, sym (loan_other r t s false e x.0.slot n) ∙ y.0) in
              let b : block_of q ≡ d = sym y.1 ∙ x.2 in
              ((q, k, b), λ z. other q k (λ g. n (ap (λ (m : Spot). m.slot) g)) (ap (λ (c : Block). c.offset) b ∙ z)))
              (λ y. ((x.0, y.1, x.2), λ z. other x.0 y.1 (λ g. y.0 (ap (λ (m : Spot). m.index) g)) (ap (λ (c : Block). c.offset) x.2 ∙ z)))
              (from rs i r t l.0 e.first e.shape x.0 x.1);
        })

    -- a run with one slot on loan has no other
    last_one : free p.run + 1 ≡ slots_in p.run.shape → (n : ℕ) → is_on_loan p.run n ≡ true → n ≡ p.slot
    last_one e n on =
        let bs = loans p.run.slots in
        let s = p.slot in
        let cs = set bs s false in
        let all : clear_in cs ≡ length cs = clear_in_back bs s false (set_within bs s l.1) l.1 ∙ e ∙ sym p.run.cut ∙ sym (length-set bs s false) in
        ⊎_elim (λ z. z)
        (λ d.
        let idle : get_or cs n false ≡ false = ap (λ (xs : List Bool). get_or xs n false) (idle_from_length cs all) ∙ ⊎_elim (λ h. get_or-replicate (length cs) n false false h) (λ h. get_or_past (replicate (length cs) false) n false (subst (λ (k : ℕ). k ≤ n) (sym (length-replicate (length cs) false)) h)) (cases_lt n (length cs)) in
        absurd (false≢true (sym idle ∙ get_or-set_other bs s n false false d ∙ on)))
        (cases_eq n s)

    last_drops : (ts : List (Option Run)) → free p.run + 1 ≡ slots_in p.run.shape → ts ≡ set rs p.index None → Drops rs ts (start_of p)
    last_drops ts one e =
        let i = p.index in
        subst (λ (xs : List (Option Run)). Drops rs xs (start_of p)) (sym e)
        (record {
          kept = λ d x n.
              let q = x.0 in
              let elsewhere : q.index ≡ i → ⊥ =
              λ z.
              let same : q.run ≡ p.run = some_same q.run p.run (sym x.1.0 ∙ ap (λ (m : ℕ). get_or rs m None) z ∙ l.0) in
              let k = last_one one q.slot (subst (λ (y : Run). is_on_loan y q.slot ≡ true) same x.1.1) in
              n (ap (λ (b : Block). b.offset) (sym x.2) ∙ ap (λ (b : Block). b.offset) (block_same q p (ap (λ (y : Run). y.first) same) (ap (λ (y : Run). y.shape) same) k)) in
              (q, (get_or-set_other rs i q.index None None elsewhere ∙ x.1.0, x.1.1), x.2);
          only = λ d x.
              ⊎_elim
              (λ y. absurd (none_some x.0.run y.1))
              (λ y.
              let k : OnLoan rs x.0 = (y.1, x.1.1) in
              ((x.0, k, x.2), λ z. other x.0 k (λ g. y.0 (ap (λ (m : Spot). m.index) g)) (ap (λ (c : Block). c.offset) x.2 ∙ z)))
              (at_index rs i None x.0.index x.0.run (entry_within rs i p.run l.0) x.1.0);
        })

    pub restored_drops : (R : Rule) (ts : List (Option Run)) (w : List ℕ) → free p.run < slots_in p.run.shape → Restored R p rs ts v w → Drops rs ts (start_of p)
    restored_drops R ts w used h =
        ⊎_elim (λ e. last_drops ts e (h.last e).0) (λ d. more_drops ts (h.more (omega arith)).0) (cases_eq (free p.run + 1) (slots_in p.run.shape))

  lent_by_adds : (o : Option Class) (ts : List (Option Run)) (p : Spot) → Lent o rs ts p → Adds rs ts (block_of p)
  lent_by_adds (Some c) ts p h = lent_adds c.number ts p h
  lent_by_adds None ts p h = absurd h

  pub taken_adds : (R : Rule) (bytes : ℕ) (ts : List (Option Run)) (w : List ℕ) (r : Result Block PoolFault) → Taken R bytes rs ts v w r → AddsBlock rs ts r
  taken_adds R bytes ts w (Ok b) h =
      subst (Adds rs ts) (sym h.block)
      (⊎_elim (λ k. lent_by_adds h.shape.class ts h.spot k.0) (λ k. begun_adds R h.shape ts w h.spot k.1) h.from)
  taken_adds R bytes ts w (Err e) h = h.runs_kept
