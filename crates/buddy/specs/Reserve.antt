-- The pages that are reserved for a run: the smallest power of two that holds it.
use Rattle.std.specs.Prelude.{◌≡◌, ℕ, zero, suc, ◌^◌, ◌≤◌, Bool, false, cond, List, map, ◌==◌, nat_le}
use Rattle.pages.specs.Limits.{max_span}
use Rattle.pages.specs.Spans.{good_span}

-- z is a power of two, holds c, and no lower power of two holds c
abbrev pub Smallest : (c z : ℕ) → Type 0
Smallest c z = ((k : ℕ) × (z ≡ 2 ^ k)) × (c ≤ z) × ((j : ℕ) → c ≤ 2 ^ j → z ≤ 2 ^ j)

-- the first of 2 ^ k, 2 ^ (k + 1), .. that holds c, in at most n steps
unfoldable pub grown : (n k c : ℕ) → ℕ
grown zero k c = 2 ^ k
grown (suc n) k c = cond (nat_le c (2 ^ k)) (2 ^ k) (grown n (suc k) c)

-- the smallest power of two that holds c
unfoldable pub power_for : ℕ → ℕ
power_for c = grown c 0 c

-- that it is the smallest is a theorem, which `reserve_of` owes
abbrev pub PowersSmallest : Type 0
PowersSmallest = (c : ℕ) → Smallest c (power_for c)

-- the pages that are reserved for a run of n pages; none where no run is
abbrev pub reserve : ℕ → ℕ
reserve n = cond (n == 0) 0 (power_for n)

-- the same for a count of a run; none for a count that no run has
abbrev pub reserve_of : ℕ → ℕ
reserve_of count = cond (nat_le count max_span) (reserve count) 0

-- the reserves of a table of runs
abbrev pub reserves : List ℕ → List ℕ
reserves t = map reserve t

-- a buddy's span is a good span and a power of two
abbrev pub good_buddy_span : ℕ → Bool
good_buddy_span span = cond (good_span span) (power_for span == span) false

-- the same in words
abbrev pub PowerSpan : ℕ → Type 0
PowerSpan span = (k : ℕ) × (span ≡ 2 ^ k) × (span ≤ max_span)
