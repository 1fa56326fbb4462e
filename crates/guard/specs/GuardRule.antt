-- The rule of the guard page: its runs are those below, each without its last page. Tables are those of the supplies,
-- and k is how many pages more are asked below, 1 or 0.
use Rattle.std.specs.Prelude.{ℕ, ◌+◌, ◌-◌, ◌<◌, cond, List, map, sum, ◌==◌, nat_lt, slice_index}
use Rattle.pages.specs.Rule.{Rule}

-- how many a guard that is put over a supply asks: 1 over one with nothing out whose largest is above 1, else none
abbrev pub extra_pages : (largest : ℕ) → List ℕ → ℕ
extra_pages largest t = cond (nat_lt 1 largest) (cond (sum t == 0) 1 0) 0

-- each run k pages shorter: from a table below to the guard's
abbrev pub shorter : ℕ → List ℕ → List ℕ
shorter k t = map (λ n. n - k) t

-- each run k pages longer: from a guard's table to the one below
abbrev pub longer : ℕ → List ℕ → List ℕ
longer k t = map (λ n. cond (n == 0) 0 (n + k)) t

-- each run has more than k pages, so that none is lost
abbrev pub Above : ℕ → List ℕ → Type 0
Above k t = (f : ℕ) → 0 < slice_index t f → k < slice_index t f

-- a count fits if it fits below with its extra pages
abbrev pub GuardFits : (fits : List ℕ → ℕ → Type 0) → (k : ℕ) → List ℕ → (count : ℕ) → Type 0
GuardFits fits k t count = (0 < count) × fits (longer k t) (count + k)

-- a place is chosen if it is chosen below for the count with its extra pages
abbrev pub GuardChooses : (chooses : List ℕ → ℕ → ℕ → Type 0) → (k : ℕ) → List ℕ → (count p : ℕ) → Type 0
GuardChooses chooses k t count p = chooses (longer k t) (count + k) p

-- the rule of a guard, by the one below
abbrev pub guarded : (k : ℕ) → Rule → Rule
guarded k R = record { largest = R.largest - k; fits = GuardFits R.fits k; chooses = GuardChooses R.chooses k }
