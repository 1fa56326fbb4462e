-- Lemmas on the placement of the buddy: a run's reserve is the smallest power of two that holds it.
use Rattle.std.specs.Prelude.{◌≡◌, ℕ, ◌+◌, ◌%◌, ◌<◌, ◌≤◌, List, length, take, set, slice_set, refl}
use Rattle.std.proofs.Common.{sym, ap, subst, ◌∙◌, ⊎_elim, arith}
use Rattle.std.proofs.lemmas.Bool.{cases_lt}
use Rattle.std.proofs.lemmas.Bool.Decides.{nat_tests}
use Rattle.std.proofs.lemmas.List.{map-set}
use Rattle.pages.specs.Limits.{max_span}
use Rattle.pages.specs.Table.{Inside, Free, Out}
use Rattle.pages.specs.Calls.{Added, Removed}
use Rattle.pages.specs.Placement.{GoodSpans, Reserving, SaysRoom, lowest_fit}
use Rattle.pages.specs.Placements.{view_reserves_free, from_view_reserves_free, room_added, room_left}
use Rattle.buddy.specs.Reserve.{power_for, reserve, reserves, good_buddy_span}
use Rattle.buddy.specs.BuddyRule.{FreeReserve, LowestReserve, buddy}
use Rattle.buddy.specs.Powers.{power_smallest, power_pos, power_own, power_reserve, good_power}

pub reserves_set : (t : List ℕ) (f c : ℕ) → 0 < c → reserves (slice_set t f c) ≡ slice_set (reserves t) f (power_for c)
reserves_set t f c p = map-set reserve t f c ∙ ap (λ z. set (reserves t) f z) (power_reserve c p)

pub power_reserves : Reserving reserve power_for
power_reserves = record {
  none = refl;
  holds = λ c. ⊎_elim (λ p. omega (arith, power_reserve c p, (power_smallest c).1)) (λ p. omega arith) (cases_lt 0 c);
  some = λ c p. power_pos c;
  within = λ c p. omega (arith, power_reserve c p);
}

pub good_spans : GoodSpans good_buddy_span reserve
good_spans = record {
  some = λ n h. (good_power n h).0;
  most = λ n h. (good_power n h).1;
  wide = λ n h c l. ⊎_elim
      (λ p. let z = power_smallest n in let g = good_power n h in omega (arith, power_reserve c p, (power_smallest c).2 z.0.0 (omega (arith, z.0.1, g.2)), z.0.1, g.2))
      (λ p. grind (arith, nat_tests))
      (cases_lt 0 c);
  one = let e : ◌≡◌ {A = ℕ} (power_for 1) 1 = power_own 1 0 refl in grind (arith, nat_tests);
}

-- the reserve of a count is its power of two
pub free_reserve : SaysRoom reserve power_for FreeReserve
free_reserve n t c p q = (
  (λ h. subst (λ (z : ℕ). (p % power_for c ≡ 0) × (p + z ≤ n) × Free (reserves t) p z) (sym (power_reserve c q)) h),
  λ h. subst (λ (z : ℕ). (p % power_for c ≡ 0) × (p + z ≤ n) × Free (reserves t) p z) (power_reserve c q) h,
)

-- the rule of the buddy is that of a supply that takes the lowest place with room for a reserve
pub buddy_is : (n : ℕ) → lowest_fit FreeReserve n ≡ buddy n
buddy_is n = refl

-- a reserve can stand in the table where it can stand in its part up to the span
pub from_view_reserve : (n : ℕ) (t : List ℕ) → Inside n t → (c p : ℕ) → FreeReserve n (take n t) c p → FreeReserve n t c p
from_view_reserve n t i c p h = (h.0, h.1, from_view_reserves_free power_reserves n t i p (power_for c) h.2)

pub view_lowest : (n : ℕ) (t : List ℕ) → Inside n t → (c p : ℕ) → LowestReserve n t c p → LowestReserve n (take n t) c p
view_lowest n t i c p h = ((h.0.0, h.0.1, view_reserves_free power_reserves n t i p (power_for c) h.0.2), λ q l r. h.1 q l (from_view_reserve n t i c q r))

-- a run is added at the lowest place of a reserve
pub reserve_added : (n c f : ℕ) (t : List ℕ) → length t ≡ max_span → n ≤ max_span → Inside n t → 0 < c → LowestReserve n t c f → Added (buddy n) c (take n t) (take n (slice_set t f c)) (record { first = f; count = c })
reserve_added n c f t l h i p low = room_added power_reserves free_reserve n c f t l h i p ((free_reserve n t c f p).0 low.0, λ q b x. low.1 q b ((free_reserve n t c q p).1 x))

-- a run is removed, and a reserve for its count can stand at its place
pub reserve_removed : (n c f : ℕ) (t : List ℕ) → Inside n t → Inside n (slice_set t f 0) → Out t f c → FreeReserve n (slice_set t f 0) c f → Removed (buddy n) f c (take n t) (take n (slice_set t f 0))
reserve_removed n c f t i j out free = room_left power_reserves free_reserve n c f t i j out ((free_reserve n (slice_set t f 0) c f out.0).0 free)
