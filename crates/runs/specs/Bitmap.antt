-- What the words of a bitmap say: a list of Bools, true where the bit is set.
use Rattle.std.specs.Prelude.{◌≡◌, ℕ, ◌/◌, ◌%◌, ◌<◌, Bool, true, false, not, List, map, Some, None, count_by, Option, ◌==◌, slice_index, slice_index_or}
use Rattle.std.specs.Int.{bit_at}
use Rattle.std.specs.List.{range_with_len}

-- digit j of w
abbrev pub digit : ℕ → ℕ → Bool
digit w j = bit_at w j == 1

-- bit k of a row of words of 32 bits
unfoldable pub bit : List ℕ → ℕ → Bool
bit ws k = digit (slice_index ws (k / 32)) (k % 32)

-- the first n bits
unfoldable pub bits : List ℕ → ℕ → List Bool
bits ws n = map (bit ws) (range_with_len 0 n)

-- how many are clear
unfoldable pub clear_in : List Bool → ℕ
clear_in bs = count_by not bs

-- r is the lowest clear bit, or None where all are set. Past its end a list has no clear bit.
abbrev pub Lowest : List Bool → Option ℕ → Type 0
Lowest bs None = (k : ℕ) → slice_index_or bs k true ≡ true
Lowest bs (Some s) = (slice_index_or bs s true ≡ false) × ((k : ℕ) → k < s → slice_index_or bs k true ≡ true)
