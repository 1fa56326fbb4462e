-- What coding into a slice and reading from one do at any length.
use Rattle.std.specs.Prelude.{ℕ, cond, List, length, ◌==◌}

-- the bytes of a slice after a sample's bytes were written into it
abbrev pub recoded : (wide : ℕ) (bytes before : List ℕ) → List ℕ
recoded wide bytes before = cond (length before == wide) bytes before

-- the sample that a slice is read as
abbrev pub reread : {X : Type 0} → (wide : ℕ) (heard : List ℕ → X) (silent : X) (bytes : List ℕ) → X
reread wide heard silent bytes = cond (length bytes == wide) (heard bytes) silent
