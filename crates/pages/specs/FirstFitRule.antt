-- The rule of the first fit: a count fits if that many free pages stand in a row, and the lowest place is taken.
use Rattle.std.specs.Prelude.{ℕ, ◌+◌, ◌<◌, ◌≤◌, List}
use Rattle.pages.specs.Rule.{Rule}
use Rattle.pages.specs.Table.{Free}
use Rattle.pages.specs.Lowest.{Lowest}

-- `count` free pages stand in a row from p on
abbrev pub FreeRow : (span : ℕ) → List ℕ → (count p : ℕ) → Type 0
FreeRow span t count p = (p + count ≤ span) × Free t p count

-- such a row stands somewhere
abbrev pub FirstFits : (span : ℕ) → List ℕ → (count : ℕ) → Type 0
FirstFits span t count = (0 < count) × ((p : ℕ) × FreeRow span t count p)

-- p is the lowest place of such a row
abbrev pub LowestRow : (span : ℕ) → List ℕ → (count p : ℕ) → Type 0
LowestRow span t count = Lowest (FreeRow span t count)

-- the rule of a first fit over so many pages
abbrev pub first_fit : (span : ℕ) → Rule
first_fit span = record { largest = span; fits = FirstFits span; chooses = LowestRow span }
