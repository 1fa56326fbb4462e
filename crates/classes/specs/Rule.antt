-- The rule of the size classes, over their numbers.
use Rattle.std.specs.Prelude.{◌≡◌, ℕ, ◌+◌, ◌-◌, ◌*◌, ◌/◌, ◌%◌, ◌^◌, ◌<◌, ◌≤◌, ◌⊎◌}
use Rattle.classes.specs.Limits.{page_bytes, classes, longest_classed}

-- i of class c
abbrev pub power_of : ℕ → ℕ
power_of c = 1 + c / 4

-- k of class c
abbrev pub multiple_of : ℕ → ℕ
multiple_of c = 4 + c % 4

-- c is the class of some i from 1 to 8 and k from 4 to 7, and these two are its own
pub record Stands (c : ℕ) : Type 0 where
  pub i_low : 1 ≤ power_of c
  pub i_high : power_of c ≤ 8
  pub k_low : 4 ≤ multiple_of c
  pub k_high : multiple_of c ≤ 7
  pub numbered : c ≡ 4 * (power_of c - 1) + (multiple_of c - 4)
  pub only : (i k : ℕ) → 1 ≤ i → 4 ≤ k → k ≤ 7 → c ≡ 4 * (i - 1) + (k - 4) → (i ≡ power_of c) × (k ≡ multiple_of c)

-- the bytes of a block of class c
abbrev pub size_of : ℕ → ℕ
size_of c = multiple_of c * 2 ^ power_of c

-- the pages of a run of class c
abbrev pub pages_of : ℕ → ℕ
pages_of c = multiple_of c

-- the slots of a run of class c
abbrev pub slots_of : ℕ → ℕ
slots_of c = 2 ^ (9 - power_of c)

-- the bytes of a run of class c
abbrev pub run_bytes : ℕ → ℕ
run_bytes c = pages_of c * page_bytes

-- the lengths that have no class
abbrev pub Unclassed : ℕ → Type 0
Unclassed length = (length ≡ 0) ⊎ (longest_classed < length)

-- c is the smallest class that holds `length` bytes
pub record Smallest (length c : ℕ) : Type 0 where
  pub some : 0 < length
  pub within : length ≤ longest_classed
  pub known : c < classes
  pub holds : length ≤ size_of c
  pub least : (d : ℕ) → d < c → size_of d < length

-- the place lies in slot s of a run of class c: s is the quotient, rounded down
abbrev pub InSlot : (c place s : ℕ) → Type 0
InSlot c place s = (place < run_bytes c) × (s ≡ place / size_of c)

-- slot s of a run of class c begins at the place
abbrev pub Starts : (c place s : ℕ) → Type 0
Starts c place s = (s < slots_of c) × (s * size_of c ≡ place)

-- no slot of a run of class c begins at the place
abbrev pub NoneStarts : (c place : ℕ) → Type 0
NoneStarts c place = (s : ℕ) → Starts c place s → ⊥
