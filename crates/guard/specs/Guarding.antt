-- Lemmas on a guard's tables.
use Rattle.std.specs.Prelude.{◌≡◌, ℕ, zero, suc, ◌+◌, ◌-◌, ◌<◌, ◌≤◌, cond, ◌⊎◌, List, [], ◌∷◌, length, take, set, sum, ◌≢◌, ◌==◌, nat_lt, slice_index, slice_index_or, slice_set, refl}
use Rattle.std.proofs.Common.{sym, ap, subst, ◌∙◌, inl, inr, ⊎_elim, arith, add-one}
use Rattle.std.proofs.lemmas.Bool.{cases_lt, cases_eq, cond-true, cond-false, lt-ltb, le-ltb, eq-eqb, ne_eqb}
use Rattle.std.proofs.lemmas.Bool.Decides.{nat_tests}
use Rattle.std.proofs.lemmas.List.Sums.{sum_by_more, sum_by-set, get_or-le-sum_by}
use Rattle.std.proofs.lemmas.List.{map-set, take_all, length-map, get_or_past}
use Rattle.pages.specs.Rule.{Rule, SameRule}
use Rattle.pages.specs.Table.{Inside, Apart, Free, Nothing}
use Rattle.pages.specs.declared.run.Run.{Run}
use Rattle.pages.specs.Calls.{Added, Removed}
use Rattle.pages.specs.Tables.{at_set, within}
use Rattle.guard.specs.GuardRule.{extra_pages, shorter, longer, Above, guarded}

-- ---- tables

pub get_or_shorter : (k : ℕ) (t : List ℕ) (f : ℕ) → slice_index (shorter k t) f ≡ slice_index t f - k
get_or_shorter k [] f = omega arith
get_or_shorter k (x ∷ xs) zero = refl
get_or_shorter k (x ∷ xs) (suc f) = get_or_shorter k xs f

pub shorter_none : (t : List ℕ) → shorter 0 t ≡ t
shorter_none [] = refl
shorter_none (x ∷ xs) = let e : x - 0 ≡ x = omega arith in ap (λ (y : ℕ). y ∷ shorter 0 xs) e ∙ ap (λ (ys : List ℕ). x ∷ ys) (shorter_none xs)

one_back : (k x : ℕ) → (0 < x → k < x) → cond (x - k == 0) 0 (x - k + k) ≡ x
one_back k zero h = grind (arith, nat_tests)
one_back k (suc x) h = let l : k < suc x = h (omega arith) in grind (arith, nat_tests)

-- the table below comes back
pub back : (k : ℕ) (t : List ℕ) → Above k t → longer k (shorter k t) ≡ t
back k [] h = refl
back k (x ∷ xs) h = ap (λ (y : ℕ). y ∷ longer k (shorter k xs)) (one_back k x (h 0)) ∙ ap (λ (ys : List ℕ). x ∷ ys) (back k xs (λ f. h (suc f)))

pub nothing_longer : (k : ℕ) (t : List ℕ) → Nothing t → Nothing (longer k t)
nothing_longer k [] h f = refl
nothing_longer k (x ∷ xs) h zero = let a = h zero in grind (arith, nat_tests)
nothing_longer k (x ∷ xs) h (suc f) = nothing_longer k xs (λ g. h (suc g)) f

pub shorter_inside : (k : ℕ) (t : List ℕ) → Inside (length t) t → Inside (length (shorter k t)) (shorter k t)
shorter_inside k t h f p = let e = get_or_shorter k t f in let l = length-map t (λ n. n - k) in let q : 0 < slice_index_or t f 0 = omega arith in omega (arith, h f q)

pub shorter_apart : (k : ℕ) (t : List ℕ) → Apart t → Apart (shorter k t)
shorter_apart k t h f g l p = let e = get_or_shorter k t f in let d = get_or_shorter k t g in let q : 0 < slice_index_or t g 0 = omega arith in omega (arith, h f g l q)

pub shorter_free : (k : ℕ) (t : List ℕ) (f c : ℕ) → Free t f (c + k) → Free (shorter k t) f c
shorter_free k t f c h g p l =
    let e = get_or_shorter k t g in
    let q : 0 < slice_index_or t g 0 = omega arith in
    let r : f < g + slice_index_or t g 0 = omega arith in
    omega (arith, h g q r)

-- rules that say the same below are guarded alike
pub same_guarded : (k : ℕ) (R Q : Rule) → SameRule R Q → SameRule (guarded k R) (guarded k Q)
same_guarded k R Q s =
    record {
      largest = omega (arith, s.largest);
      fits = λ t c. ((λ h. (h.0, (s.fits (longer k t) (c + k)).0 h.1)), λ h. (h.0, (s.fits (longer k t) (c + k)).1 h.1));
      chooses = λ t c p. s.chooses (longer k t) (c + k) p;
    }

pub above_put : (k f v : ℕ) (t : List ℕ) → f < length t → (0 < v → k < v) → Above k t → Above k (slice_set t f v)
above_put k f v t l p h g q = ⊎_elim (λ e. omega (arith, p (omega arith))) (λ e. omega (arith, h g (omega arith))) (at_set t f v g l)

pub shorter_put : (k n f : ℕ) (u : List ℕ) → shorter k (slice_set u f (n + k)) ≡ slice_set (shorter k u) f n
shorter_put k n f u =
    let d : n + k - k ≡ n = omega arith in
    map-set (λ x. x - k) u f (n + k) ∙ ap (λ (x : ℕ). set (shorter k u) f x) d

pub shorter_clear : (k f : ℕ) (u : List ℕ) → shorter k (slice_set u f 0) ≡ slice_set (shorter k u) f 0
shorter_clear k f u =
    let d : 0 - k ≡ 0 = omega arith in
    map-set (λ x. x - k) u f 0 ∙ ap (λ (x : ℕ). set (shorter k u) f x) d

-- ---- the sum of the counts

sum_take_le : (t : List ℕ) (n e : ℕ) → n ≤ length t → Apart t → ((f : ℕ) → f < n → 0 < slice_index t f → f + slice_index t f ≤ e) → sum (take n t) ≤ e
sum_take_le t zero e l h j = omega arith
sum_take_le t (suc n) e l h j =
    let m : n < length t = omega arith in
    let s : sum (take (suc n) t) ≡ sum (take n t) + slice_index_or t n 0 = simp add-one at (sum_by_more (λ x. x) t n 0 m) in
    let w : n ≤ length t = omega arith in
    ⊎_elim
    (λ p. let a : sum (take n t) ≤ n = sum_take_le t n n w h (λ f b q. h f n b p) in let y : n < suc n = omega arith in omega (arith, j n y p))
    (λ p. let a : sum (take n t) ≤ e = sum_take_le t n e w h (λ f b q. j f (omega arith) q) in omega arith)
    (cases_lt 0 (slice_index t n))

pub sum_le : (span : ℕ) (t : List ℕ) → Inside span t → Apart t → sum t ≤ span
sum_le span t i h =
    let a : sum (take (length t) t) ≤ span = sum_take_le t (length t) span (omega arith) h (λ f l p. i f p) in
    let e = ap sum (take_all (length t) t (omega arith)) in
    omega arith

pub nothing_from : (t : List ℕ) → sum t ≡ 0 → Nothing t
nothing_from t e f = ⊎_elim (λ l. omega (arith, get_or-le-sum_by (λ (x : ℕ). x) t f 0 l)) (λ l. get_or_past t f 0 l) (cases_lt f (length t))

pub sum_nothing : (t : List ℕ) → Nothing t → sum t ≡ 0
sum_nothing t n = omega (arith, sum_le 0 t (λ f p. omega (arith, n f)) (λ f g l p. omega (arith, n g)))

pub sum_shorter : (k : ℕ) (t : List ℕ) → Nothing t → sum (shorter k t) ≡ 0
sum_shorter k t n = sum_nothing (shorter k t) (λ f. omega (arith, n f, get_or_shorter k t f))

-- ---- the calls

module _ (k n : ℕ) (some : 0 < n) (R : Rule) (u v : List ℕ) (w : Above k u) where
  -- a run is taken
  pub took : (run : Run) → n ≤ R.largest - k → Added R (n + k) u v run → Added (guarded k R) n (shorter k u) (shorter k v) (record { first = run.first; count = n })
  took run l h =
      record {
        same = refl;
        some = some;
        most = l;
        fit = (some, subst (λ (x : List ℕ). R.fits x (n + k)) (sym (back k u w)) h.fit);
        inside = omega (arith, h.inside, length-map u (λ x. x - k));
        free = shorter_free k u run.first n h.free;
        chosen = subst (λ (x : List ℕ). R.chooses x (n + k) run.first) (sym (back k u w)) h.chosen;
        after_is = ap (shorter k) h.after_is ∙ shorter_put k n run.first u;
      }

  pub took_above : (run : Run) → Added R (n + k) u v run → Above k v
  took_above run h = subst (λ (x : List ℕ). Above k x) (sym h.after_is) (above_put k run.first (n + k) u (omega (arith, h.inside)) (λ _. omega arith) w)

  pub took_counted : (run : Run) (pages : ℕ) → Added R (n + k) u v run → pages ≡ sum (shorter k u) → pages + n ≡ sum (shorter k v)
  took_counted run pages h p =
      let f = run.first in
      let z : slice_index_or u f 0 ≡ 0 = ⊎_elim (λ q. let l : f < f + slice_index_or u f 0 = omega arith in omega (arith, h.free f q l)) (λ q. omega arith) (cases_lt 0 (slice_index u f)) in
      let g = get_or_shorter k u f in
      let s = sum_by-set (λ (x : ℕ). x) (shorter k u) f n 0 (omega (arith, h.inside, length-map u (λ x. x - k))) in
      let c : sum (shorter k v) ≡ sum (slice_set (shorter k u) f n) = ap (λ (x : List ℕ). sum (shorter k x)) h.after_is ∙ ap sum (shorter_put k n f u) in
      omega arith

  -- a run is given
  module _ (f : ℕ) (h : Removed R f (n + k) u v) where
    begins : f < length u
    begins = within u f (omega (arith, h.was.1))

    pub gave_above : Above k v
    gave_above = subst (λ (x : List ℕ). Above k x) (sym h.after_is) (above_put k f 0 u begins (λ q. omega arith) w)

    pub gave : Removed (guarded k R) f n (shorter k u) (shorter k v)
    gave =
        record {
          was = (some, omega (arith, get_or_shorter k u f, h.was.1));
          after_is = ap (shorter k) h.after_is ∙ shorter_clear k f u;
          fit = (some, subst (λ (x : List ℕ). R.fits x (n + k)) (sym (back k v gave_above)) h.fit);
        }

    pub gave_counted : (pages : ℕ) → pages ≡ sum (shorter k u) → (n ≤ pages) × (pages - n ≡ sum (shorter k v))
    gave_counted pages p =
        let m : f < length (shorter k u) = omega (arith, begins, length-map u (λ x. x - k)) in
        let g = get_or_shorter k u f in
        let was = h.was.1 in
        let s = sum_by-set (λ (x : ℕ). x) (shorter k u) f 0 0 m in
        let b = get_or-le-sum_by (λ (x : ℕ). x) (shorter k u) f 0 m in
        let c : sum (shorter k v) ≡ sum (slice_set (shorter k u) f 0) = ap (λ (x : List ℕ). sum (shorter k x)) h.after_is ∙ ap sum (shorter_clear k f u) in
        (omega arith, omega arith)

-- ---- a new guard

pub extra_one : (L : ℕ) (t : List ℕ) → 1 < L → sum t ≡ 0 → extra_pages L t ≡ 1
extra_one L t l z = cond-true (nat_lt 1 L) _ 0 (lt-ltb 1 L l) ∙ cond-true (sum t == 0) 1 0 (eq-eqb (sum t) 0 z)

pub extra_none : (L : ℕ) (t : List ℕ) → (L ≤ 1) ⊎ (sum t ≢ 0) → extra_pages L t ≡ 0
extra_none L t a =
    ⊎_elim (λ l. cond-false (nat_lt 1 L) _ 0 (le-ltb 1 L l))
    (λ z. ⊎_elim (λ l. cond-true (nat_lt 1 L) _ 0 (lt-ltb 1 L l) ∙ cond-false (sum t == 0) 1 0 (ne_eqb (sum t) 0 z)) (λ l. cond-false (nat_lt 1 L) _ 0 (le-ltb 1 L l)) (cases_lt 1 L))
    a

-- what the guard keeps at its making: with a page more there is nothing out, so no run is too short
pub new_kept : (L pages more : ℕ) (t : List ℕ) → pages ≡ sum t → 0 < L → more ≡ extra_pages L t → (more ≤ 1) × ((more < L) × (Above more t × (pages ≡ sum (shorter more t))))
new_kept L pages more t p pos e =
    ⊎_elim
    (λ l.
    ⊎_elim
    (λ z.
    let n = nothing_from t z in
    let o : more ≡ 1 = e ∙ extra_one L t l z in
    (omega arith, (omega arith, ((λ f q. omega (arith, n f)), omega (arith, p, z, sum_shorter more t n)))))
    (λ z. none (e ∙ extra_none L t (inr z)))
    (cases_eq (sum t) 0))
    (λ l. none (e ∙ extra_none L t (inl l)))
    (cases_lt 1 L)
  where
    none : more ≡ 0 → (more ≤ 1) × ((more < L) × (Above more t × (pages ≡ sum (shorter more t))))
    none z = (omega arith, (omega arith, ((λ f q. omega arith), p ∙ ap sum (sym (shorter_none t)) ∙ ap (λ (k : ℕ). sum (shorter k t)) (sym z))))
