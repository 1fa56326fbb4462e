-- How a run is cut into slots: by its class, or as one slot.
use Rattle.std.specs.Prelude.{◌≡◌, ℕ, ◌*◌, ◌<◌, ◌≤◌, ◌⊎◌, Some, None, Option}
use Rattle.classes.specs.declared.class.Class.{Class}
use Rattle.classes.specs.Limits.{page_bytes, longest_classed, longest_request}
use Rattle.classes.specs.Rule.{size_of, slots_of, Smallest}
use Rattle.classes.specs.Long.{LongPages}
use Rattle.runs.specs.declared.shape.Shape.{Shape}

-- the slots of a run of the class, or the one slot of a run of its own
abbrev pub slots_by : Option Class → ℕ
slots_by (Some c) = slots_of c.number
slots_by None = 1

-- the bytes of a slot: as the class says, or all the pages
abbrev pub size_by : Option Class → (count : ℕ) → ℕ
size_by (Some c) count = size_of c.number
size_by None count = count * page_bytes

-- the slots of a run
abbrev pub slots_in : Shape → ℕ
slots_in s = slots_by s.class

-- the bytes of each, and so of a block
abbrev pub block_size : Shape → ℕ
block_size s = size_by s.class s.count

-- the requests that no run holds
abbrev pub NoShape : (bytes : ℕ) → Type 0
NoShape bytes = (bytes ≡ 0) ⊎ (longest_request < bytes)

-- s is the shape of a run for a request: of the smallest class that holds it, or, where no class does, a run of its
-- own with the fewest pages that hold it
pub record ShapeOf (bytes : ℕ) (s : Shape) : Type 0 where
  pub some : 0 < bytes
  pub within : bytes ≤ longest_request
  pub classed : bytes ≤ longest_classed → (c : Class) × (s.class ≡ Some c) × Smallest bytes c.number
  pub own : longest_classed < bytes → (s.class ≡ None) × LongPages bytes s.count

-- slot n of a run begins at the place, counted in bytes from the run's first
abbrev pub SlotStarts : Shape → (place n : ℕ) → Type 0
SlotStarts s place n = (n < slots_in s) × (n * block_size s ≡ place)

-- no slot of a run begins at the place
abbrev pub NoSlotStarts : Shape → (place : ℕ) → Type 0
NoSlotStarts s place = (n : ℕ) → SlotStarts s place n → ⊥
