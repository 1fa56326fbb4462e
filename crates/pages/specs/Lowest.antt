-- The lowest number that has a property.
use Rattle.std.specs.Prelude.{ℕ, ◌<◌, Some, None, Option}

-- p has the property, and no lower number has it
abbrev pub Lowest : (ℕ → Type 0) → (p : ℕ) → Type 0
Lowest P p = P p × ((q : ℕ) → q < p → P q → ⊥)

-- what a search for it answers
abbrev pub LowestFound : (ℕ → Type 0) → Option ℕ → Type 0
LowestFound P (Some p) = Lowest P p
LowestFound P None = (q : ℕ) → P q → ⊥
