-- The pages of a run.
use Rattle.std.specs.Prelude.{◌≡◌, ℕ, ◌≤◌, Some, Option}
use Rattle.classes.specs.declared.class.Class.{Class}
use Rattle.classes.specs.Rule.{pages_of}

-- a run has at least 4 pages, and a run of a class has that class's
abbrev pub Paged : Option Class → ℕ → Type 0
Paged class count = (4 ≤ count) × ((c : Class) → class ≡ Some c → count ≡ pages_of c.number)
