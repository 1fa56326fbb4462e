-- How a supply places its runs: what it reserves for a run, and where the reserve may begin.
use Rattle.std.specs.Prelude.{◌≡◌, ℕ, ◌+◌, ◌%◌, ◌<◌, ◌≤◌, Bool, true, List, map, slice_index}
use Rattle.pages.specs.Limits.{max_span}
use Rattle.pages.specs.Lowest.{Lowest}
use Rattle.pages.specs.Rule.{Rule}
use Rattle.pages.specs.Table.{Free}

-- a reserve holds its run, and begins at a multiple of a number that is no larger; where no run is, none
pub record Reserving (reserve alignment : ℕ → ℕ) : Type 0 where
  pub none : reserve 0 ≡ 0
  pub holds : (c : ℕ) → c ≤ reserve c
  pub some : (c : ℕ) → 0 < c → 0 < alignment c
  pub within : (c : ℕ) → 0 < c → alignment c ≤ reserve c

-- a good span is 1 to the most pages, and has room for the reserve of each of its counts; 1 is good
pub record GoodSpans (good : ℕ → Bool) (reserve : ℕ → ℕ) : Type 0 where
  pub some : (n : ℕ) → good n ≡ true → 0 < n
  pub most : (n : ℕ) → good n ≡ true → n ≤ max_span
  pub wide : (n : ℕ) → good n ≡ true → (c : ℕ) → c ≤ n → reserve c ≤ n
  pub one : good 1 ≡ true

-- a reserve for `count` pages can stand at p
abbrev pub Room : (reserve alignment : ℕ → ℕ) → (span : ℕ) → List ℕ → (count p : ℕ) → Type 0
Room reserve alignment span t count p = (p % alignment count ≡ 0) × (p + reserve count ≤ span) × Free (map reserve t) p (reserve count)

-- a supply's words for room say that a reserve can stand there
abbrev pub SaysRoom : (reserve alignment : ℕ → ℕ) → (room : ℕ → List ℕ → ℕ → ℕ → Type 0) → Type 0
SaysRoom reserve alignment room = (span : ℕ) (t : List ℕ) (c p : ℕ) → 0 < c → (room span t c p → Room reserve alignment span t c p) × (Room reserve alignment span t c p → room span t c p)

-- each run stands at a multiple of its alignment
abbrev pub Aligned : (alignment : ℕ → ℕ) → List ℕ → Type 0
Aligned alignment t = (g : ℕ) → 0 < slice_index t g → g % alignment (slice_index t g) ≡ 0

-- the rule of a supply of so many pages that takes the lowest place with room
abbrev pub lowest_fit : (room : ℕ → List ℕ → ℕ → ℕ → Type 0) → (span : ℕ) → Rule
lowest_fit room span = record { largest = span; fits = λ t c. (0 < c) × ((p : ℕ) × room span t c p); chooses = λ t c. Lowest (room span t c) }
