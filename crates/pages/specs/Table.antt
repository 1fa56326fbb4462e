-- A table of runs: at each page the count of the run that begins there, or 0.
use Rattle.std.specs.Prelude.{◌≡◌, ℕ, ◌+◌, ◌<◌, ◌≤◌, List, slice_index}

-- the run of `count` pages from `first` on is out
abbrev pub Out : List ℕ → (first count : ℕ) → Type 0
Out t first count = (0 < count) × (slice_index t first ≡ count)

-- no run is out
abbrev pub Nothing : List ℕ → Type 0
Nothing t = (f : ℕ) → slice_index t f ≡ 0

-- each run ends within the span
abbrev pub Inside : (span : ℕ) → List ℕ → Type 0
Inside span t = (f : ℕ) → 0 < slice_index t f → f + slice_index t f ≤ span

-- of two runs the lower one ends before the higher one begins
abbrev pub Apart : List ℕ → Type 0
Apart t = (f g : ℕ) → f < g → 0 < slice_index t g → f + slice_index t f ≤ g

-- no run has one of the `count` pages from `first` on
abbrev pub Free : List ℕ → (first count : ℕ) → Type 0
Free t first count = (g : ℕ) → 0 < slice_index t g → first < g + slice_index t g → first + count ≤ g
