-- The rule of the buddy supply: each run has a reserve, the smallest power of two of pages that holds it, at a page
-- divisible by that power. A count fits if such a reserve touches no other run's, and the lowest one is taken.
use Rattle.std.specs.Prelude.{◌≡◌, ℕ, ◌+◌, ◌%◌, ◌<◌, ◌≤◌, List}
use Rattle.pages.specs.Rule.{Rule}
use Rattle.pages.specs.Table.{Free}
use Rattle.pages.specs.Lowest.{Lowest}
use Rattle.buddy.specs.Reserve.{power_for, reserves}

-- a reserve for `count` pages can stand at p
abbrev pub FreeReserve : (span : ℕ) → List ℕ → (count p : ℕ) → Type 0
FreeReserve span t count p = (p % power_for count ≡ 0) × (p + power_for count ≤ span) × Free (reserves t) p (power_for count)

-- such a reserve can stand somewhere
abbrev pub BuddyFits : (span : ℕ) → List ℕ → (count : ℕ) → Type 0
BuddyFits span t count = (0 < count) × ((p : ℕ) × FreeReserve span t count p)

-- p is the lowest place of such a reserve
abbrev pub LowestReserve : (span : ℕ) → List ℕ → (count p : ℕ) → Type 0
LowestReserve span t count = Lowest (FreeReserve span t count)

-- the rule of a buddy supply of so many pages
abbrev pub buddy : (span : ℕ) → Rule
buddy span = record { largest = span; fits = BuddyFits span; chooses = LowestReserve span }
