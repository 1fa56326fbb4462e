-- What the tables say, by one computed test of each, and what follows of slots.
use Rattle.std.proofs.Common.{length, zero-add, ◌≡◌, ℕ, zero, suc, ◌+◌, ◌-◌, ◌*◌, ◌/◌, ◌%◌, ◌^◌, ◌<◌, ◌≤◌, Bool, true, false, eqb, ltb, leb, List, [], ◌∷◌, get_or, sym, refl, ap, ◌∙◌, subst, ⊎_elim, lt_trans, lt_of_le_of_lt, le_of_lt, le_refl, mul_comm, div-lt_iff_lt-mul, mul-lt-mul_of_pos_right, mul-pos, mul-div_cancel, mul_left_comm, arith, pow_pos, pow-add}
use native.Mathlib.Nat.{div-div-eq-div-mul}
use Rattle.std.proofs.lemmas.Nat.{shr_le}
use Rattle.std.proofs.Math.Nat.{zero-lt-suc}
use Rattle.std.specs.Prelude.{◌&&◌, Option, None, Some, MatchOption}
use Rattle.std.specs.Bool.{then_some}
use Rattle.std.specs.List.{list_all, enumerate_from}
use Rattle.std.proofs.lemmas.List.FromFn.{length-enumerate_from, get_or-enumerate_from}
use Rattle.std.proofs.lemmas.List.Sums.{AllPass-from_list_all}
use Rattle.std.proofs.lemmas.Bool.{eqb-false, eqb-true, leb-true, ltb-true, and_parts, cases_lt, agree_below, agree_below_at}
use Rattle.classes.specs.Rule.{power_of, multiple_of, size_of, slots_of, run_bytes, Smallest, InSlot, Starts, NoneStarts}

-- the size before class c: the largest that does not hold what c holds
abbrev size_before : ℕ → ℕ
size_before zero = 0
size_before (suc c) = size_of c

-- x is the smallest class for the length j + 1
abbrev smallest : ℕ → ℕ → Bool
smallest j x = ltb x 32 && (leb (suc j) (size_of x) && ltb (size_before x) (suc j))

-- a table has n entries, and a test passes at each place with its entry
abbrev pub Table : (ℕ → ℕ → Bool) → ℕ → List ℕ → Type 0
Table test n xs = (eqb (length xs) n && list_all (λ e. test e.0 e.1) (enumerate_from 0 xs)) ≡ true

entry : (test : ℕ → ℕ → Bool) (n : ℕ) (xs : List ℕ) → Table test n xs → (k : ℕ) → k < n → test k (get_or xs k 0) ≡ true
entry test n xs t k h =
    let (long, all) = and_parts (eqb (length xs) n) (list_all (λ e. test e.0 e.1) (enumerate_from 0 xs)) t in
    let inside : k < length xs = rw (eqb-true (length xs) n long) h in
    let here = get_or-enumerate_from 0 xs k (0, 0) inside in
    let passed = AllPass-from_list_all (λ e. test e.0 e.1) (enumerate_from 0 xs) all k (0, 0) (rw (length-enumerate_from 0 xs) inside) in
    rw (here, zero-add k) at passed

-- the sizes rise, from each class to the next
rises : ℕ → Bool
rises n = ltb (size_of n) (size_of (suc n))

all_rise : agree_below rises (λ _. true) 31 ≡ true
unfolding rises
all_rise = refl

-- a lower class is smaller
pub sizes_rise : (c d : ℕ) → c < 32 → d < c → size_of d < size_of c
unfolding rises
sizes_rise zero d known h = absurd (omega arith)
sizes_rise (suc c) d known h =
    let next = ltb-true (size_of c) (size_of (suc c)) (agree_below_at rises (λ _. true) 31 c all_rise (omega arith)) in
    ⊎_elim (λ less. lt_trans (sizes_rise c d (omega arith) less) next) (λ over. let same : d ≡ c = omega arith in rw same next) (cases_lt d c)

before : (c d : ℕ) → c < 32 → d < c → size_of d ≤ size_before c
before zero d known h = absurd (omega arith)
before (suc c) d known h =
    ⊎_elim (λ less. le_of_lt (sizes_rise c d (omega arith) less)) (λ over. let same : d ≡ c = omega arith in rw same (le_refl _)) (cases_lt d c)

pub sized_at : (xs : List ℕ) → Table (λ c x. eqb x (size_of c)) 32 xs → (place c : ℕ) → place ≡ c → c < 32 → get_or xs place 0 ≡ size_of c
sized_at xs t place c e h = rw e (eqb-true _ _ (entry (λ k x. eqb x (size_of k)) 32 xs t c h))

pub smallest_from : (j x : ℕ) → j < 1792 → smallest j x ≡ true → Smallest (suc j) x
smallest_from j x within t =
    let known = ltb-true x 32 (and_parts _ _ t).0 in
    let holds : suc j ≤ size_of x = leb-true (suc j) (size_of x) (and_parts _ _ (and_parts _ _ t).1).0 in
    let over : size_before x < suc j = ltb-true (size_before x) (suc j) (and_parts _ _ (and_parts _ _ t).1).1 in
    record { some = zero-lt-suc j; within = within; known = known; holds = holds; least = λ d h. lt_of_le_of_lt (before x d known h) over }

-- the table of the 1,792 lengths holds each one's smallest class
pub smallest_at : (xs : List ℕ) → Table smallest 1792 xs → (length : ℕ) → 0 < length → length ≤ 1792 → Smallest length (get_or xs (length - 1) 0)
smallest_at xs t length some within =
    let e : suc (length - 1) ≡ length = omega arith in
    subst (λ m. Smallest m (get_or xs (length - 1) 0)) e (smallest_from (length - 1) _ (omega arith) (entry smallest 1792 xs t (length - 1) (omega arith)))

-- each multiplier divides by its k, at every place of a run and beyond
reciprocal : (v m : ℕ) → m < 4 → v < 3584 → v * get_or (16384 ∷ 13108 ∷ 10923 ∷ 9363 ∷ []) m 0 / 65536 ≡ v / (4 + m)
reciprocal v zero h b = omega arith
reciprocal v (suc zero) h b = omega arith
reciprocal v (suc (suc zero)) h b = omega arith
reciprocal v (suc (suc (suc zero))) h b = omega arith
reciprocal v (suc (suc (suc (suc m)))) h b = absurd (omega arith)

-- by shift and multiplier to the slot
pub slot_is : (c p : ℕ) → p < run_bytes c → p / 2 ^ power_of c * get_or (16384 ∷ 13108 ∷ 10923 ∷ 9363 ∷ []) (c % 4) 0 / 65536 ≡ p / size_of c
slot_is c p b =
    let i = power_of c in
    let small : c % 4 < 4 = omega arith in
    reciprocal (p / 2 ^ i) (c % 4) small (omega (arith, shr_le p i)) ∙ div-div-eq-div-mul p (2 ^ i) (multiple_of c) ∙ ap (λ s. p / s) (mul_comm (2 ^ i) (multiple_of c))

module _ (c : ℕ) (h : c < 32) where
  halves : slots_of c * 2 ^ power_of c ≡ 512
  halves =
      let nine : 9 - power_of c + power_of c ≡ 9 = omega arith in
      sym (pow-add 2 (9 - power_of c) (power_of c)) ∙ ap (λ n. 2 ^ n) nine

  pub slots_are : 512 / 2 ^ power_of c ≡ slots_of c
  slots_are = ap (λ n. n / 2 ^ power_of c) (sym halves) ∙ mul-div_cancel (slots_of c) (pow_pos (power_of c))

  -- the slots fill the pages
  pub slots_fill : slots_of c * size_of c ≡ run_bytes c
  slots_fill = mul_left_comm (slots_of c) (multiple_of c) (2 ^ power_of c) ∙ ap (λ n. multiple_of c * n) halves

  pub size_some : 0 < size_of c
  size_some = mul-pos (omega arith) (pow_pos (power_of c))

  -- a place within the run lies in one of its slots
  pub slot_within : (p : ℕ) → p < run_bytes c → p / size_of c < slots_of c
  slot_within p b = (div-lt_iff_lt-mul size_some).1 (subst (λ n. p < n) (sym slots_fill) b)

  -- a slot that begins at a place is the one that the place lies in
  pub start_slot : (p s : ℕ) → Starts c p s → (p < run_bytes c) × (p / size_of c * size_of c ≡ p)
  start_slot p s (l, e) =
      let q : p / size_of c ≡ s = ap (λ n. n / size_of c) (sym e) ∙ mul-div_cancel s size_some in
      let b : s * size_of c < slots_of c * size_of c = mul-lt-mul_of_pos_right l size_some in
      (subst (λ n. n < run_bytes c) e (subst (λ n. s * size_of c < n) slots_fill b), ap (λ n. n * size_of c) q ∙ e)

  -- the slot of a place, let go where it begins elsewhere
  pub start_kept : (p : ℕ) (slot kept : Option ℕ) {Tested : ℕ → Bool → Type 0} → ((s : ℕ) (b : Bool) → Tested s b → b ≡ eqb (s * size_of c) p)
      → MatchOption slot (run_bytes c ≤ p) (InSlot c p) → MatchOption slot (kept ≡ None) (λ s. (b : Bool) × Tested s b × (kept ≡ then_some b s))
      → MatchOption kept (NoneStarts c p) (Starts c p)
  start_kept p None kept test past k = rw k (λ s starts. omega (arith, (start_slot p s starts).0, past))
  start_kept p (Some s) kept test here (true, t, k) =
      rw k (rw here.1 (slot_within p here.0), eqb-true (s * size_of c) p (sym (test s true t)))
  start_kept p (Some s) kept test here (false, t, k) =
      rw k (λ r starts. eqb-false (s * size_of c) p (sym (test s false t)) (rw (← here.1) at (start_slot p r starts).1))
