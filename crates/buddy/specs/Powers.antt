-- Lemmas on powers of two: `power_for` is the smallest that holds its argument.
use Rattle.std.specs.Prelude.{◌≡◌, ℕ, zero, suc, ◌+◌, ◌/◌, ◌^◌, ◌<◌, ◌≤◌, max, true, ◌⊎◌, nat_le, refl}
use Rattle.std.proofs.Common.{◌∙◌, inl, inr, ⊎_elim, pow_pos, pow_mono, arith}
use Rattle.std.proofs.Math.Nat.{two-pow-succ}
use Rattle.std.proofs.lemmas.Bool.{cases_lt, cond_both, cond-true, cond-false, leb-true, leb-false, le-leb, lt-leb}
use Rattle.std.proofs.lemmas.Bool.Decides.{nat_tests}
use Rattle.pages.specs.Limits.{max_span}
use Rattle.buddy.specs.Reserve.{grown, power_for, PowersSmallest, reserve, reserve_of, good_buddy_span}

pub lt_two_pow : (n : ℕ) → n < 2 ^ n
lt_two_pow zero = omega arith
lt_two_pow (suc n) = omega (arith, two-pow-succ n, lt_two_pow n)

grown_power : (n k c : ℕ) → (j : ℕ) × (grown n k c ≡ 2 ^ j)
unfolding grown
grown_power zero k c = (k, refl)
grown_power (suc n) k c = cond_both (nat_le c (2 ^ k)) (2 ^ k) (grown n (suc k) c) (λ z. (j : ℕ) × (z ≡ 2 ^ j)) (λ e. (k, refl)) (λ e. grown_power n (suc k) c)

grown_holds : (n k c : ℕ) → c ≤ n + k → c ≤ grown n k c
unfolding grown
grown_holds zero k c l = omega (arith, lt_two_pow k)
grown_holds (suc n) k c l = cond_both (nat_le c (2 ^ k)) (2 ^ k) (grown n (suc k) c) (λ z. c ≤ z) (λ e. leb-true c (2 ^ k) e) (λ e. grown_holds n (suc k) c (omega arith))

grown_least : (n k c j : ℕ) → k ≤ j → c ≤ 2 ^ j → grown n k c ≤ 2 ^ j
unfolding grown
grown_least zero k c j l h = pow_mono l
grown_least (suc n) k c j l h =
    cond_both (nat_le c (2 ^ k)) (2 ^ k) (grown n (suc k) c) (λ z. z ≤ 2 ^ j) (λ e. pow_mono l)
    (λ e. ⊎_elim (λ q. grown_least n (suc k) c j (omega arith) h) (λ q. let d : j ≤ k = q in omega (arith, pow_mono d, leb-false c (2 ^ k) e)) (cases_lt k j))

pub power_smallest : PowersSmallest
unfolding power_for
power_smallest c = (grown_power c 0 c, grown_holds c 0 c (omega arith), λ j h. grown_least c 0 c j (omega arith) h)

pub power_pos : (c : ℕ) → 0 < power_for c
power_pos c = let p = (power_smallest c).0 in omega (arith, p.1, pow_pos p.0)

-- a power of two whose half does not hold c is c's power_for
pub power_is : (c r k : ℕ) → r ≡ 2 ^ k → c ≤ r → r / 2 < max 1 c → r ≡ power_for c
power_is c r zero e l h =
    let s = power_smallest c in
    let a : power_for c ≤ 2 ^ 0 = s.2 0 (omega arith) in
    omega (arith, power_pos c)
power_is c r (suc k) e l h =
    let s = power_smallest c in
    let a : power_for c ≤ 2 ^ suc k = s.2 (suc k) (omega arith) in
    let d = two-pow-succ k in
    let j = s.0.0 in
    ⊎_elim
    (λ q. let w : j ≤ k = omega arith in omega (arith, pow_mono w, s.0.1, s.1, power_pos c))
    (λ q. omega (arith, pow_mono q, s.0.1))
    (cases_lt j (suc k))

-- a power of two is its own
pub power_own : (s k : ℕ) → s ≡ 2 ^ k → power_for s ≡ s
power_own s k e =
    let p = power_smallest s in
    let a : power_for s ≤ 2 ^ k = p.2 k (omega arith) in
    omega (arith, p.1)

pub power_reserve : (c : ℕ) → 0 < c → reserve c ≡ power_for c
power_reserve c p = grind (arith, nat_tests)

-- what `reserve_of` answers for a count of a run
pub power_of_lem : (c r : ℕ) → r ≡ reserve_of c → 0 < c → c ≤ max_span → r ≡ power_for c
power_of_lem c r e p l = e ∙ cond-true (nat_le c max_span) (reserve c) 0 (le-leb c max_span l) ∙ power_reserve c p

-- and for a count that no run has
pub reserve_of_none : (c : ℕ) → (c ≡ 0) ⊎ (max_span < c) → reserve_of c ≡ 0
reserve_of_none c (inl e) = cond_both (nat_le c max_span) (reserve c) 0 (λ x. x ≡ 0) (λ _. grind (arith, nat_tests)) (λ _. refl)
reserve_of_none c (inr l) = cond-false (nat_le c max_span) (reserve c) 0 (lt-leb c max_span l)

pub good_power : (span : ℕ) → good_buddy_span span ≡ true → (0 < span) × (span ≤ max_span) × (power_for span ≡ span)
good_power span h = (grind (arith, nat_tests), grind (arith, nat_tests), grind (arith, nat_tests))

pub one_power : (0 < 1) × (1 ≤ max_span) × (◌≡◌ {A = ℕ} (power_for 1) 1)
one_power = (omega arith, omega arith, power_own 1 0 refl)
