-- What a change at one index leaves of a pool's state.
use Rattle.std.proofs.Common.{◌≡◌, ℕ, zero, suc, ◌+◌, ◌<◌, Bool, true, false, ◌⊎◌, List, length, get_or, set, replicate, Some, None, Option, sym, refl, ap, ◌∙◌, subst, inl, inr, ⊎_elim, arith}
use Rattle.std.proofs.lemmas.List.{get_or-set_same, get_or-set_other, get_or_past, length-replicate, get_or-replicate}
use Rattle.std.proofs.lemmas.Bool.{cases_lt, cases_eq}
use Rattle.pages.specs.Table.{Out, Free}
use Rattle.runs.specs.declared.run.Run.{Run}
use Rattle.runs.specs.declared.table.Spot.{Spot}
use Rattle.runs.specs.Loans.{loans}
use Rattle.runs.specs.Bitmap.{clear_in}
use Rattle.runs.specs.Shapes.{slots_in}
use Rattle.runs.specs.Table.{free, Lends, LendsOf}
use Rattle.runs.proofs.Bitmaps.{clear_in_lent, clear_in_none}
use Rattle.runs.proofs.Laws.{free_lend, clear_within}
use Rattle.pool.specs.State.{Entry, RunsOut, FirstsDiffer, InUse}

-- the ghost fields of a pool
pub record State (rs : List (Option Run)) (v : List ℕ) : Type 0 where
  pub out : RunsOut rs v
  pub differ : FirstsDiffer rs
  pub used : InUse rs

pub none_some : {A : Type 0} (r : A) → None ≡ Some r → ⊥
none_some r e = let z : ◌≡◌ {A = ℕ} 0 1 = cc in omega arith

abbrev pub no_run : Option Run
no_run = None

pub all_none : (n k : ℕ) → get_or (replicate n no_run) k None ≡ None
all_none zero k = refl
all_none (suc n) zero = refl
all_none (suc n) (suc k) = all_none n k

-- a table with no run
pub state_none : (rs : List (Option Run)) (v : List ℕ) → rs ≡ replicate 128 None → State rs v
state_none rs v e =
    let none : (x : Entry rs) → ⊥ = λ x. none_some x.1 (sym (ap (λ (xs : List (Option Run)). get_or xs x.0 None) e ∙ all_none 128 x.0) ∙ x.2) in
    record { out = λ x. absurd (none x); differ = λ x y d. absurd (none x); used = λ x. absurd (none x) }

-- a run stands within the table
pub entry_within : (rs : List (Option Run)) (i : ℕ) (r : Run) → get_or rs i None ≡ Some r → i < length rs
entry_within rs i r e = ⊎_elim (λ h. h) (λ h. absurd (none_some r (sym (get_or_past rs i None h) ∙ e))) (cases_lt i (length rs))

-- what stands at k after a write at i
pub at_index : (rs : List (Option Run)) (i : ℕ) (o : Option Run) (k : ℕ) (r : Run) → i < length rs → get_or (set rs i o) k None ≡ Some r
    → ((k ≡ i) × (o ≡ Some r)) ⊎ ((k ≡ i → ⊥) × (get_or rs k None ≡ Some r))
at_index rs i o k r l e =
    ⊎_elim (λ h. inl (h, sym (get_or-set_same rs i o None l) ∙ ap (λ (n : ℕ). get_or (set rs i o) n None) (sym h) ∙ e)) (λ h. inr (h, sym (get_or-set_other rs i k o None h) ∙ e)) (cases_eq k i)

pub some_same : {A : Type 0} (a b : A) → Some a ≡ Some b → a ≡ b
some_same a b e = cc

-- t stands where r stood, and has a slot on loan
pub record Alike (r t : Run) : Type 0 where
  pub first : t.first ≡ r.first
  pub shape : t.shape ≡ r.shape
  pub used : free t < slots_in t.shape

module _ (rs : List (Option Run)) (v : List ℕ) (s : State rs v) (i : ℕ) (r t : Run) (here : get_or rs i None ≡ Some r) (a : Alike r t) where
  -- the entry that an entry after stands for
  was : (x : Entry (set rs i (Some t))) → (y : Entry rs) × (x.0 ≡ y.0) × Alike y.1 x.1
  was x =
      ⊎_elim
      (λ h. let y : Entry rs = (i, r, here) in (y, h.0, subst (Alike r) (some_same t x.1 h.1) a))
      (λ h. let y : Entry rs = (x.0, x.1, h.1) in (y, refl, record { first = refl; shape = refl; used = s.used y }))
      (at_index rs i (Some t) x.0 x.1 (entry_within rs i r here) x.2)

  pub state_swap : State (set rs i (Some t)) v
  state_swap =
      record {
        out = λ x.
            let y = was x in
            let o = s.out y.0 in
            let n = ap (λ z. z.count) y.2.shape in
            (omega (arith, o.0, n), ap (λ (n : ℕ). get_or v n 0) y.2.first ∙ o.1 ∙ sym n);
        differ = λ x y e. let p = was x in let q = was y in p.1 ∙ s.differ p.0 q.0 (sym p.2.first ∙ e ∙ q.2.first) ∙ sym q.1;
        used = λ x. (was x).2.used;
      }

-- a loan
lends_alike : (r t : Run) (n : ℕ) → Lends r (Some n) t → free r < slots_in r.shape → Alike r t
lends_alike r t n h f =
    record { first = h.1.first; shape = h.1.shape; used = omega (arith, free_lend r t n h, ap slots_in h.1.shape) }

pub state_lend : (class : ℕ) (rs ts : List (Option Run)) (v : List ℕ) (o : Option Spot) → LendsOf class rs o ts → State rs v → State ts v
state_lend class rs ts v None h s = subst (λ (us : List (Option Run)). State us v) (sym h.1) s
state_lend class rs ts v (Some p) h s =
    let k = h.2 in
    subst (λ (us : List (Option Run)). State us v) (sym k.1)
    (state_swap rs v s p.index p.run k.0 h.1 (lends_alike p.run k.0 p.slot k.2 (s.used (p.index, p.run, h.1))))

-- the slot lent is one of its run's
pub lent_within : (class : ℕ) (rs ts : List (Option Run)) (p : Spot) → LendsOf class rs (Some p) ts → p.slot < slots_in p.run.shape
lent_within class rs ts p h = subst (λ (n : ℕ). p.slot < n) p.run.cut (clear_within (loans p.run.slots) p.slot h.2.2.0.0)

-- no run begins at a free page
pub free_zero : (v : List ℕ) (f c : ℕ) → 0 < c → Free v f c → get_or v f 0 ≡ 0
free_zero v f c h k = ⊎_elim (λ p. omega (arith, k f p (omega arith))) (λ p. omega arith) (cases_lt 0 (get_or v f 0))

-- a run with its first slot on loan
pub first_lent : (bs : List Bool) (n : ℕ) → 0 < n → bs ≡ set (replicate n false) 0 true → clear_in bs < n
first_lent bs n h e =
    let c : clear_in bs + 1 ≡ n =
    ap (λ (xs : List Bool). clear_in xs + 1) e
    ∙ clear_in_lent (replicate n false) 0 true (subst (λ (m : ℕ). 0 < m) (sym (length-replicate n false)) h) (get_or-replicate n 0 false true h)
    ∙ clear_in_none n in
    omega arith

-- a new run
module _ (rs : List (Option Run)) (v : List ℕ) (s : State rs v) (i : ℕ) (t : Run) (l : i < length rs) (k : t.first < length v) (z : get_or v t.first 0 ≡ 0) where
  -- an entry after is the new run, or one before, which begins elsewhere
  now_at : (x : Entry (set rs i (Some t))) → ((x.0 ≡ i) × (t ≡ x.1)) ⊎ ((y : Entry rs) × (x.0 ≡ y.0) × (x.1 ≡ y.1) × (x.1.first ≡ t.first → ⊥))
  now_at x =
      ⊎_elim
      (λ h. inl (h.0, some_same t x.1 h.1))
      (λ h. let y : Entry rs = (x.0, x.1, h.1) in inr (y, refl, refl, λ e. omega (arith, (s.out y).0, (s.out y).1, ap (λ (n : ℕ). get_or v n 0) e, z)))
      (at_index rs i (Some t) x.0 x.1 l x.2)

  pub state_begin : 0 < t.shape.count → free t < slots_in t.shape → State (set rs i (Some t)) (set v t.first t.shape.count)
  state_begin c b =
      record {
        out = λ x.
            let w = set v t.first t.shape.count in
            let P : Run → Type 0 = λ r. Out w r.first r.shape.count in
            ⊎_elim
            (λ h. subst P h.1 (c, get_or-set_same v t.first t.shape.count 0 k))
            (λ h. let o = s.out h.0 in subst P (sym h.2) (o.0, get_or-set_other v t.first h.0.1.first t.shape.count 0 (λ e. h.3 (ap (λ (r : Run). r.first) h.2 ∙ e)) ∙ o.1))
            (now_at x);
        differ = λ x y e.
            ⊎_elim
            (λ h. ⊎_elim (λ j. h.0 ∙ sym j.0) (λ j. absurd (j.3 (sym e ∙ ap (λ (r : Run). r.first) (sym h.1)))) (now_at y))
            (λ h.
            ⊎_elim (λ j. absurd (h.3 (e ∙ ap (λ (r : Run). r.first) (sym j.1))))
            (λ j. h.1 ∙ s.differ h.0 j.0 (ap (λ (r : Run). r.first) (sym h.2) ∙ e ∙ ap (λ (r : Run). r.first) j.2) ∙ sym j.1)
            (now_at y))
            (now_at x);
        used = λ x.
            let P : Run → Type 0 = λ r. free r < slots_in r.shape in
            ⊎_elim (λ h. subst P h.1 b) (λ h. subst P (sym h.2) (s.used h.0)) (now_at x);
      }
