-- Lemmas on the reserves of a table: of a run more, of a run less, and where a count has room.
use Rattle.std.specs.Prelude.{◌≡◌, ℕ, zero, suc, ◌+◌, ◌-◌, ◌*◌, ◌/◌, ◌%◌, ◌<◌, ◌≤◌, Bool, true, List, [], ◌∷◌, length, map, take, slice_index, slice_index_or, slice_set, refl}
use Rattle.std.specs.Int.{next_multiple_of}
use Rattle.std.proofs.Common.{sym, ap, mod-eq_of_lt, subst, ◌∙◌, ⊎_elim, arith}
use Rattle.std.proofs.Math.Seq.{take-set-lt}
use Rattle.std.proofs.Math.Nat.{zero-mod, add-mod_right, mul-add-mod_self_left, div-add-mod, mod-lt}
use Rattle.std.proofs.lemmas.Bool.{cases_lt}
use Rattle.std.proofs.lemmas.List.{map-set, length-map}
use Rattle.pages.specs.Limits.{max_span}
use Rattle.pages.specs.Table.{Inside, Apart, Free, Nothing, Out}
use Rattle.pages.specs.Calls.{Added, Removed}
use Rattle.pages.specs.Lowest.{Lowest}
use Rattle.pages.specs.Placement.{GoodSpans, Reserving, Room, SaysRoom, Aligned, lowest_fit}
use Rattle.pages.specs.Tables.{at_set, put_inside, put_apart, clear_inside, clear_apart, clear_free, within, view_at, view_length, view_free}

-- ---- multiples

-- of the multiples of z only p is among the z numbers from p on
pub one_multiple : (z p q : ℕ) → 0 < z → p % z ≡ 0 → q % z ≡ 0 → p ≤ q → q < p + z → q ≡ p
one_multiple z p q pos a b l h =
    let d = div-add-mod p z in
    let s : z * (p / z) + (q - p) ≡ q = omega arith in
    let m : q % z ≡ (q - p) % z = ap (λ x. x % z) (sym s) ∙ mul-add-mod_self_left z (p / z) (q - p) in
    let w : q - p < z = omega arith in
    let e : (q - p) % z ≡ q - p = mod-eq_of_lt w in
    omega arith

pub next_multiple : (z p : ℕ) → p % z ≡ 0 → (p + z) % z ≡ 0
next_multiple z p a = add-mod_right p z ∙ a

-- a multiple below the next one after a page is below the page
pub below_next : (z page next q : ℕ) → 0 < z → next % z ≡ 0 → next < page + z → q % z ≡ 0 → q < next → q < page
below_next z page next q p e l d h = ⊎_elim (λ k. omega (arith, one_multiple z q next p d e (omega arith) k)) (λ k. omega arith) (cases_lt next (q + z))

pub next_bound : (x z : ℕ) → 0 < z → next_multiple_of x z < x + z
next_bound x z p = omega (arith, mod-lt (z - x % z) p)

-- ---- the reserves of a table

module _ {r a : ℕ → ℕ} (L : Reserving r a) where
  pub reserved : (t : List ℕ) (f : ℕ) → slice_index (map r t) f ≡ r (slice_index t f)
  reserved [] f = sym L.none
  reserved (x ∷ xs) zero = refl
  reserved (x ∷ xs) (suc f) = reserved xs f

  pub run_reserve : (n : ℕ) (t : List ℕ) (g : ℕ) → Inside n (map r t) → 0 < slice_index t g → (0 < slice_index (map r t) g) × (slice_index (map r t) g ≡ r (slice_index t g)) × (g + r (slice_index t g) ≤ n)
  run_reserve n t g h p =
      let e = reserved t g in
      let w = L.holds (slice_index t g) in
      let q : 0 < slice_index_or (map r t) g 0 = omega arith in
      (q, e, omega (arith, h g q))

  pub runs_inside : (n : ℕ) (t : List ℕ) → Inside n (map r t) → Inside n t
  runs_inside n t h f p = let w = run_reserve n t f h p in omega (arith, w.2, L.holds (slice_index t f))

  pub runs_apart : (t : List ℕ) → Apart (map r t) → Apart t
  runs_apart t h f g l p =
      let e = reserved t f in
      let d = reserved t g in
      let v = L.holds (slice_index t f) in
      let w = L.holds (slice_index t g) in
      let q : 0 < slice_index_or (map r t) g 0 = omega arith in
      omega (arith, h f g l q)

  pub runs_free : (t : List ℕ) (f c : ℕ) → Free (map r t) f (r c) → Free t f c
  runs_free t f c h g p l =
      let e = reserved t g in
      let w = L.holds (slice_index t g) in
      let s = L.holds c in
      let q : 0 < slice_index_or (map r t) g 0 = omega arith in
      let m : f < g + slice_index_or (map r t) g 0 = omega arith in
      omega (arith, h g q m)

  -- with no run out there is room at the lowest place
  pub nothing_room : {good : ℕ → Bool} → GoodSpans good r → (n : ℕ) (t : List ℕ) (c : ℕ) → good n ≡ true → Nothing t → c ≤ n → Room r a n t c 0
  nothing_room k n t c h e l = (zero-mod (a c), omega (arith, k.wide n h c l), λ g q _. omega (arith, reserved t g, ap r (e g), L.none, q))

  -- a run more
  pub put_inside_reserves : (n : ℕ) (t : List ℕ) (f c : ℕ) → f < length t → f + r c ≤ n → Inside n (map r t) → Inside n (map r (slice_set t f c))
  put_inside_reserves n t f c l k h = subst (λ (u : List ℕ). Inside n u) (sym (map-set r t f c)) (put_inside n (map r t) f (r c) (omega (arith, length-map t r)) k h)

  pub put_apart_reserves : (t : List ℕ) (f c : ℕ) → f < length t → Free (map r t) f (r c) → Apart (map r t) → Apart (map r (slice_set t f c))
  put_apart_reserves t f c l k h = subst (λ (u : List ℕ). Apart u) (sym (map-set r t f c)) (put_apart (map r t) f (r c) (omega (arith, length-map t r)) k h)

  -- a run less
  pub cleared : (t : List ℕ) (f : ℕ) → map r (slice_set t f 0) ≡ slice_set (map r t) f 0
  cleared t f = map-set r t f 0 ∙ ap (slice_set (map r t) f) L.none

  pub clear_inside_reserves : (n : ℕ) (t : List ℕ) (f : ℕ) → f < length t → Inside n (map r t) → Inside n (map r (slice_set t f 0))
  clear_inside_reserves n t f l h = subst (λ (u : List ℕ). Inside n u) (sym (cleared t f)) (clear_inside n (map r t) f (omega (arith, length-map t r)) h)

  pub clear_apart_reserves : (t : List ℕ) (f : ℕ) → f < length t → Apart (map r t) → Apart (map r (slice_set t f 0))
  clear_apart_reserves t f l h = subst (λ (u : List ℕ). Apart u) (sym (cleared t f)) (clear_apart (map r t) f (omega (arith, length-map t r)) h)

  clear_free_reserve : (n : ℕ) (t : List ℕ) (f : ℕ) → Inside n (map r t) → Apart (map r t) → 0 < slice_index t f → Free (map r (slice_set t f 0)) f (r (slice_index t f))
  clear_free_reserve n t f i d p =
      let w = run_reserve n t f i p in
      subst (λ (u : List ℕ). Free u f (r (slice_index t f))) (sym (cleared t f))
      (clear_free (map r t) f (r (slice_index t f)) (within (map r t) f w.0) (omega (arith, w.0, w.1)) w.1 d)

  -- the reserves of the table up to the span
  view_reserve_at : (n : ℕ) (t : List ℕ) → Inside n t → (g : ℕ) → slice_index (map r (take n t)) g ≡ slice_index (map r t) g
  view_reserve_at n t k g = reserved (take n t) g ∙ ap r (view_at n t k g) ∙ sym (reserved t g)

  pub view_reserves_free : (n : ℕ) (t : List ℕ) → Inside n t → (f c : ℕ) → Free (map r t) f c → Free (map r (take n t)) f c
  view_reserves_free n t k f c h g p l =
      let e = view_reserve_at n t k g in
      let q : 0 < slice_index_or (map r t) g 0 = omega arith in
      let m : f < g + slice_index_or (map r t) g 0 = omega arith in
      h g q m

  pub from_view_reserves_free : (n : ℕ) (t : List ℕ) → Inside n t → (f c : ℕ) → Free (map r (take n t)) f c → Free (map r t) f c
  from_view_reserves_free n t k f c h g p l =
      let e = view_reserve_at n t k g in
      let q : 0 < slice_index_or (map r (take n t)) g 0 = omega arith in
      let m : f < g + slice_index_or (map r (take n t)) g 0 = omega arith in
      h g q m

pub put_aligned : (a : ℕ → ℕ) (t : List ℕ) (f c : ℕ) → f < length t → (0 < c → f % a c ≡ 0) → Aligned a t → Aligned a (slice_set t f c)
put_aligned a t f c l k h g p =
    ⊎_elim
    (λ e. subst (λ (n : ℕ). g % a n ≡ 0) (sym e.1) (subst (λ (x : ℕ). x % a c ≡ 0) (sym e.0) (k (omega arith))))
    (λ e. subst (λ (n : ℕ). g % a n ≡ 0) (sym e.1) (h g (omega arith)))
    (at_set t f c g l)

-- ---- the calls, in the supply's words for room

module _ {r a : ℕ → ℕ} {room : ℕ → List ℕ → ℕ → ℕ → Type 0} (L : Reserving r a) (says : SaysRoom r a room) where
  -- room in the table is room in its part up to the span
  pub room_view : (n : ℕ) (t : List ℕ) (c : ℕ) → Inside n t → 0 < c → (p : ℕ) → (room n (take n t) c p → Room r a n t c p) × (Room r a n t c p → room n (take n t) c p)
  room_view n t c h k p =
      let s = says n (take n t) c p k in (
        (λ x. let y = s.0 x in (y.0, y.1, from_view_reserves_free L n t h p (r c) y.2)),
        λ y. s.1 (y.0, y.1, view_reserves_free L n t h p (r c) y.2),
      )

  -- a run is added at the lowest place with room
  pub room_added : (n c f : ℕ) (t : List ℕ) → length t ≡ max_span → n ≤ max_span → Inside n t → 0 < c → Lowest (Room r a n t c) f → Added (lowest_fit room n) c (take n t) (take n (slice_set t f c)) (record { first = f; count = c })
  room_added n c f t l h i p low =
      let e = room_view n t c i p in
      let there = (e f).1 low.0 in
      let w = L.holds c in
      record {
        same = refl;
        some = p;
        most = omega (arith, low.0.1);
        fit = (p, (f, there));
        inside = omega (arith, low.0.1, view_length n t l h);
        free = view_free n t i f c (runs_free L t f c low.0.2);
        chosen = (there, λ q b x. low.1 q b ((e q).0 x));
        after_is = take-set-lt n t f c (omega (arith, low.0.1));
      }

  -- a run is removed, and there is room for its count at its place
  pub room_left : (n c f : ℕ) (t : List ℕ) → Inside n t → Inside n (slice_set t f 0) → Out t f c → Room r a n (slice_set t f 0) c f → Removed (lowest_fit room n) f c (take n t) (take n (slice_set t f 0))
  room_left n c f t i j out here =
      record {
        was = (out.0, view_at n t i f ∙ out.1);
        after_is = take-set-lt n t f 0 (omega (arith, here.1, out.0, L.holds c));
        fit = (out.0, (f, (room_view n (slice_set t f 0) c j out.0 f).1 here));
      }

  -- there is such room where reserves lie apart, and each begins at a multiple of its alignment
  pub room_removed : (n c f : ℕ) (t : List ℕ) → Inside n (map r t) → Apart (map r t) → Aligned a t → Out t f c → Removed (lowest_fit room n) f c (take n t) (take n (slice_set t f 0))
  room_removed n c f t i d g out =
      let q : 0 < slice_index_or t f 0 = omega (arith, out.0, out.1) in
      let w = run_reserve L n t f i q in
      let here : Room r a n (slice_set t f 0) (slice_index t f) f = (g f q, w.2, clear_free_reserve L n t f i d q) in
      room_left n c f t (runs_inside L n t i) (runs_inside L n (slice_set t f 0) (clear_inside_reserves L n t f (within t f q) i)) out
      (subst (λ (m : ℕ). Room r a n (slice_set t f 0) m f) out.1 here)
