-- Runs, and what the indices of a table of runs hold.
use Rattle.std.specs.Prelude.{◌≡◌, ℕ, ◌+◌, ◌<◌, ◌≤◌, Bool, true, false, ◌&&◌, ◌⊎◌, List, length, Some, None, Option, ◌==◌, nat_le, nat_lt, slice_index_or, slice_set}
use Rattle.classes.specs.declared.class.Class.{Class}
use Rattle.runs.specs.declared.run.Run.{Run}
use Rattle.runs.specs.declared.table.Spot.{Spot}
use Rattle.runs.specs.Bitmap.{clear_in, Lowest}
use Rattle.runs.specs.Loans.{loans}

-- how many slots of a run are free
abbrev pub free : Run → ℕ
free r = clear_in (loans r.slots)

-- whether slot s of a run is on loan
abbrev pub is_on_loan : Run → (s : ℕ) → Bool
is_on_loan r s = slice_index_or (loans r.slots) s false

-- whether no run stands there
abbrev pub vacant : Option Run → Bool
vacant None = true
vacant (Some r) = false

-- whether the page lies in the run that stands there
abbrev pub covers : (page : ℕ) → Option Run → Bool
covers page None = false
covers page (Some r) = nat_le r.first page && nat_lt page (r.first + r.shape.count)

-- whether this is the class of that number
abbrev pub is_class : (n : ℕ) → Option Class → Bool
is_class n None = false
is_class n (Some c) = c.number == n

-- whether a run of class n stands there, with a free slot
abbrev pub serves : (n : ℕ) → Option Run → Bool
serves n None = false
serves n (Some r) = is_class n r.shape.class && nat_lt 0 (free r)

-- by what a run is chosen: its free slots, then its first page
abbrev pub rank : Run → ℕ × ℕ
rank r = (free r, r.first)

-- the answer is the lowest index that passes the test, or None where none does
abbrev pub First : (Option Run → Bool) → List (Option Run) → Option ℕ → Type 0
First p rs None = (k : ℕ) → k < length rs → p (slice_index_or rs k None) ≡ false
First p rs (Some i) = (i < length rs) × (p (slice_index_or rs i None) ≡ true) × ((k : ℕ) → k < i → p (slice_index_or rs k None) ≡ false)

-- two runs stand there, and the first has fewer free slots, or as many and no higher first page
abbrev pub NoLater : Option Run → Option Run → Type 0
NoLater None b = ⊥
NoLater (Some r) None = ⊥
NoLater (Some r) (Some t) = (free r < free t) ⊎ ((free r ≡ free t) × (r.first ≤ t.first))

-- among the first n indices, the answer is one that serves the class, and no later than any that does; or None where
-- none does
abbrev pub FullestIn : (class : ℕ) → List (Option Run) → (n : ℕ) → Option ℕ → Type 0
FullestIn class rs n None = (k : ℕ) → k < n → serves class (slice_index_or rs k None) ≡ false
FullestIn class rs n (Some i) =
    (i < n) × (serves class (slice_index_or rs i None) ≡ true)
    × ((k : ℕ) → k < n → serves class (slice_index_or rs k None) ≡ true → NoLater (slice_index_or rs i None) (slice_index_or rs k None))

-- the same among all: the class's fullest run with a free slot
abbrev pub Fullest : (class : ℕ) → List (Option Run) → Option ℕ → Type 0
Fullest class rs answer = FullestIn class rs (length rs) answer

-- t is r with other loans
pub record WithLoans (r t : Run) (bs : List Bool) : Type 0 where
  pub first : t.first ≡ r.first
  pub shape : t.shape ≡ r.shape
  pub slots : loans t.slots ≡ bs

-- r lends the slot that it answers, its lowest free one, and becomes t; or it has none and stays
abbrev pub Lends : Run → Option ℕ → Run → Type 0
Lends r None t = Lowest (loans r.slots) None × (t ≡ r)
Lends r (Some s) t = Lowest (loans r.slots) (Some s) × WithLoans r t (slice_set (loans r.slots) s true)

-- r takes slot s back and becomes t
abbrev pub Restores : Run → (s : ℕ) → Run → Type 0
Restores r s t = WithLoans r t (slice_set (loans r.slots) s false)

-- no slot is free there
abbrev pub NoneFree : Option Run → Type 0
NoneFree None = Unit {0}
NoneFree (Some r) = Lowest (loans r.slots) None

-- a table rs whose run at i lends a slot becomes ts
abbrev pub LendsAt : List (Option Run) → (i : ℕ) → Option ℕ → List (Option Run) → Type 0
LendsAt rs i None ts = NoneFree (slice_index_or rs i None) × (ts ≡ rs)
LendsAt rs i (Some s) ts = (r : Run) × (t : Run) × (slice_index_or rs i None ≡ Some r) × (ts ≡ slice_set rs i (Some t)) × Lends r (Some s) t

-- what stands at i takes slot s back: nothing, where no run stands there
abbrev pub RestoresTo : Option Run → List (Option Run) → (i s : ℕ) → List (Option Run) → Type 0
RestoresTo None rs i s ts = ts ≡ rs
RestoresTo (Some r) rs i s ts = (t : Run) × (ts ≡ slice_set rs i (Some t)) × Restores r s t

-- a table rs whose run at i takes slot s back becomes ts
abbrev pub RestoresAt : List (Option Run) → (i s : ℕ) → List (Option Run) → Type 0
RestoresAt rs i s ts = RestoresTo (slice_index_or rs i None) rs i s ts

-- the class's fullest run lends its lowest free slot, and the table rs becomes ts; or no run of the class has a free
-- slot, and the table stays
abbrev pub LendsOf : (class : ℕ) → List (Option Run) → Option Spot → List (Option Run) → Type 0
LendsOf class rs None ts = Fullest class rs None × (ts ≡ rs)
LendsOf class rs (Some p) ts =
    Fullest class rs (Some p.index) × (slice_index_or rs p.index None ≡ Some p.run)
    × ((t : Run) × (ts ≡ slice_set rs p.index (Some t)) × Lends p.run (Some p.slot) t)
