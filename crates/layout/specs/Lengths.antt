-- Which length a text writes.
use Rattle.std.specs.Prelude.{◌≡◌, ℕ, ◌^◌, ◌<◌, List, Some, None, Option}
use Rattle.std.specs.Str.Parse.{digits_value, without_leading_plus, IsNumeral}

-- digits, perhaps after a plus, that write a number of 32 bits
abbrev pub Written : List ℕ → Type 0
Written text = IsNumeral 10 (without_leading_plus text) × (digits_value 10 (without_leading_plus text) < 2 ^ 32)

-- the number that the text writes, where it writes one
abbrev pub Length : List ℕ → Option ℕ → Type 0
Length text (Some n) = Written text × (n ≡ digits_value 10 (without_leading_plus text))
Length text None = Written text → ⊥
