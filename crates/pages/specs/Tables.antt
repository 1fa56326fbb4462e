-- Lemmas on tables of runs: a run more, a run less, and the part of a table up to the span.
use Rattle.std.specs.Prelude.{◌≡◌, ℕ, zero, suc, ◌+◌, ◌<◌, ◌≤◌, ◌⊎◌, List, [], ◌∷◌, length, take, replicate, sum, ◌≢◌, slice_index, slice_index_or, slice_set, refl}
use Rattle.std.proofs.Common.{sym, ap, ◌∙◌, inl, inr, ⊎_elim, arith}
use Rattle.std.proofs.lemmas.Bool.{cases_lt, cases_eq}
use Rattle.std.proofs.lemmas.List.{get_or-set_same, get_or-set_other, get_or_past, get_or-take, length-take}
use Rattle.std.proofs.lemmas.List.Sums.{sum_by-cons}
use Rattle.pages.specs.Limits.{max_span}
use Rattle.pages.specs.Table.{Inside, Apart, Free}

-- a table with no run
pub get_or_zeros : (n f : ℕ) → ◌≡◌ {A = ℕ} (slice_index (replicate n 0) f) 0
get_or_zeros zero f = refl
get_or_zeros (suc n) zero = refl
get_or_zeros (suc n) (suc f) = get_or_zeros n f

-- a run begins within the table
pub within : (t : List ℕ) (f : ℕ) → 0 < slice_index t f → f < length t
within t f p = ⊎_elim (λ l. l) (λ l. omega (arith, get_or_past t f 0 l)) (cases_lt f (length t))

-- what stands at g after a write at f
pub at_set : (t : List ℕ) (f v g : ℕ) → f < length t → ((g ≡ f) × (slice_index (slice_set t f v) g ≡ v)) ⊎ ((g ≢ f) × (slice_index (slice_set t f v) g ≡ slice_index t g))
at_set t f v g l = ⊎_elim (λ e. inl (e, rw e (get_or-set_same t f v 0 l))) (λ n. inr (n, get_or-set_other t f g v 0 n)) (cases_eq g f)

pub put_inside : (span : ℕ) (t : List ℕ) (f c : ℕ) → f < length t → f + c ≤ span → Inside span t → Inside span (slice_set t f c)
put_inside span t f c l k h g p = ⊎_elim (λ e. omega arith) (λ e. let q : 0 < slice_index_or t g 0 = omega arith in omega (arith, h g q)) (at_set t f c g l)

pub put_apart : (t : List ℕ) (f c : ℕ) → f < length t → Free t f c → Apart t → Apart (slice_set t f c)
put_apart t f c l free h a b k p =
    ⊎_elim
    (λ x.
    ⊎_elim (λ y. omega arith)
    (λ y. ⊎_elim (λ z. ⊎_elim (λ w. let r : 0 < slice_index_or t a 0 = omega arith in omega (arith, free a r w)) (λ w. omega arith) (cases_lt f (a + slice_index t a))) (λ z. omega arith) (cases_lt 0 (slice_index t a)))
    (at_set t f c a l))
    (λ x.
    let r : 0 < slice_index_or t b 0 = omega arith in
    ⊎_elim (λ y. let s : f < b + slice_index_or t b 0 = omega arith in omega (arith, free b r s)) (λ y. omega (arith, h a b k r)) (at_set t f c a l))
    (at_set t f c b l)

-- a run less
pub clear_inside : (span : ℕ) (t : List ℕ) (f : ℕ) → f < length t → Inside span t → Inside span (slice_set t f 0)
clear_inside span t f l h g p = ⊎_elim (λ e. omega arith) (λ e. let q : 0 < slice_index_or t g 0 = omega arith in omega (arith, h g q)) (at_set t f 0 g l)

pub clear_apart : (t : List ℕ) (f : ℕ) → f < length t → Apart t → Apart (slice_set t f 0)
clear_apart t f l h a b k p =
    ⊎_elim (λ x. omega arith)
    (λ x. let r : 0 < slice_index_or t b 0 = omega arith in ⊎_elim (λ y. omega arith) (λ y. omega (arith, h a b k r)) (at_set t f 0 a l))
    (at_set t f 0 b l)

-- the pages of a run that was given are free
pub clear_free : (t : List ℕ) (f c : ℕ) → f < length t → 0 < c → slice_index t f ≡ c → Apart t → Free (slice_set t f 0) f c
clear_free t f c l p e h g q k =
    ⊎_elim (λ x. omega arith)
    (λ x.
    let r : 0 < slice_index_or t g 0 = omega arith in
    let s : 0 < slice_index_or t f 0 = omega arith in
    ⊎_elim (λ y. omega (arith, h g f y s)) (λ y. let d : f < g = omega arith in omega (arith, h f g d r)) (cases_lt g f))
    (at_set t f 0 g l)

-- ---- the table up to the span, past which there is no run

pub view_length : (n : ℕ) (t : List ℕ) → length t ≡ max_span → n ≤ max_span → length (take n t) ≡ n
view_length n t l h = omega (arith, length-take n t)

pub view_at : (n : ℕ) (t : List ℕ) → Inside n t → (i : ℕ) → slice_index (take n t) i ≡ slice_index t i
view_at n t h i =
    ⊎_elim (λ l. get_or-take n t i 0 l)
    (λ l.
    let z : slice_index_or t i 0 ≡ 0 = ⊎_elim (λ p. omega (arith, h i p)) (λ p. omega arith) (cases_lt 0 (slice_index t i)) in
    get_or_past (take n t) i 0 (omega (arith, length-take n t)) ∙ sym z)
    (cases_lt i n)

pub view_inside : (n : ℕ) (t : List ℕ) → length t ≡ max_span → n ≤ max_span → Inside n t → Inside (length (take n t)) (take n t)
view_inside n t l h k f p = let e = view_at n t k f in let q : 0 < slice_index_or t f 0 = omega arith in omega (arith, k f q, view_length n t l h)

pub view_apart : (n : ℕ) (t : List ℕ) → Inside n t → Apart t → Apart (take n t)
view_apart n t k a f g l p = let d = view_at n t k f in let e = view_at n t k g in let q : 0 < slice_index_or t g 0 = omega arith in omega (arith, a f g l q)

pub view_free : (n : ℕ) (t : List ℕ) → Inside n t → (f c : ℕ) → Free t f c → Free (take n t) f c
view_free n t k f c h g p l = let e = view_at n t k g in let q : 0 < slice_index_or t g 0 = omega arith in let m : f < g + slice_index_or t g 0 = omega arith in h g q m

pub from_view_free : (n : ℕ) (t : List ℕ) → Inside n t → (f c : ℕ) → Free (take n t) f c → Free t f c
from_view_free n t k f c h g p l = let e = view_at n t k g in let q : 0 < slice_index_or (take n t) g 0 = omega arith in let m : f < g + slice_index_or (take n t) g 0 = omega arith in h g q m

none_sum : (t : List ℕ) → ((i : ℕ) → slice_index t i ≡ 0) → sum t ≡ 0
none_sum [] h = refl
none_sum (x ∷ xs) h = omega (arith, h 0, none_sum xs (λ i. h (suc i)), sum_by-cons (λ (n : ℕ). n) x xs)

sum_to : (n : ℕ) (t : List ℕ) → ((i : ℕ) → n ≤ i → slice_index t i ≡ 0) → sum (take n t) ≡ sum t
sum_to zero t h = sym (none_sum t (λ i. h i (omega arith)))
sum_to (suc n) [] h = refl
sum_to (suc n) (x ∷ xs) h = sum_by-cons (λ (m : ℕ). m) x (take n xs) ∙ ap (λ (m : ℕ). x + m) (sum_to n xs (λ i l. h (suc i) (omega arith))) ∙ sym (sum_by-cons (λ (m : ℕ). m) x xs)

pub view_sum : (n : ℕ) (t : List ℕ) → Inside n t → sum (take n t) ≡ sum t
view_sum n t k = sum_to n t (λ i l. ⊎_elim (λ p. omega (arith, k i p)) (λ p. omega arith) (cases_lt 0 (slice_index t i)))
