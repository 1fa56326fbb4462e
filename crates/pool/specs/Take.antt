-- What `take` does, over the pool's table of runs and the supply's table of pages before and after the call.
use Rattle.std.specs.Prelude.{◌≡◌, ℕ, ◌<◌, ◌≤◌, true, false, ◌⊎◌, List, [], ◌∷◌, ◌++◌, replicate, is_ok, Some, None, Ok, Err, Option, Result, slice_set}
use Rattle.classes.specs.declared.class.Class.{Class}
use Rattle.classes.specs.Limits.{longest_request}
use Rattle.classes.specs.Rule.{Smallest}
use Rattle.pages.specs.declared.fault.SupplyFault.{SupplyFault}
use Rattle.pages.specs.Rule.{Rule}
use Rattle.pages.specs.Faults as supply
use Rattle.pages.specs.Calls.{Added, NotTaken}
use Rattle.runs.specs.declared.run.Run.{Run}
use Rattle.runs.specs.declared.shape.Shape.{Shape}
use Rattle.runs.specs.declared.table.Spot.{Spot}
use Rattle.runs.specs.Loans.{loans}
use Rattle.runs.specs.Shapes.{ShapeOf, slots_in, block_size}
use Rattle.runs.specs.Table.{vacant, serves, First, Fullest, LendsOf}
use Rattle.pool.specs.declared.block.Block.{Block}
use Rattle.pool.specs.declared.fault.PoolFault.{PoolFault}
use Rattle.pool.specs.Faults.{Says}
use Rattle.pool.specs.State.{Entry}
use Rattle.pool.specs.Blocks.{block_of, Adds}

-- no run of the class has a free slot; a run of its own never has one for another request
abbrev pub NoneServes : Option Class → List (Option Run) → Type 0
NoneServes None rs = Unit {0}
NoneServes (Some c) rs = Fullest c.number rs None

-- the lowest free slot of the class's fullest run is lent
abbrev pub Lent : Option Class → (rs ts : List (Option Run)) → Spot → Type 0
Lent None rs ts p = ⊥
Lent (Some c) rs ts p = LendsOf c.number rs (Some p) ts

-- a run of the shape is taken from the supply and put at the lowest vacant index, with its first slot on loan
pub record Begun (R : Rule) (s : Shape) (rs ts : List (Option Run)) (before after : List ℕ) (p : Spot) : Type 0 where
  pub lowest : First vacant rs (Some p.index)
  pub added : Added R s.count before after (record { first = p.run.first; count = s.count })
  pub put : ts ≡ slice_set rs p.index (Some p.run)
  pub shape : p.run.shape ≡ s
  pub slots : loans p.run.slots ≡ slice_set (replicate (slots_in s) false) 0 true
  pub slot : p.slot ≡ 0

-- every index of the table holds a run
abbrev pub Full : List (Option Run) → Type 0
Full rs = First vacant rs None

-- no run is begun: 23 where the table is full, else the supply's own refusal; the bytes are told, after its places
pub record NotBegun (R : Rule) (bytes count : ℕ) (rs : List (Option Run)) (before after : List ℕ) (e : PoolFault) : Type 0 where
  pub full : Full rs → Says e 23 (bytes ∷ [])
  pub unsupplied : (Full rs → ⊥) → (f : SupplyFault) × NotTaken R count before after f × Says e (supply.number f) (supply.places f ++ (bytes ∷ []))

-- a slot of a run that there is, or, only where none is free, of a new one
abbrev pub LentOrBegun : (R : Rule) (s : Shape) (rs ts : List (Option Run)) (before after : List ℕ) (p : Spot) → Type 0
LentOrBegun R s rs ts before after p =
    (Lent s.class rs ts p × (after ≡ before)) ⊎ (NoneServes s.class rs × Begun R s rs ts before after p)

-- granted: the block of that slot, of the request's size
pub record Granted (R : Rule) (bytes : ℕ) (rs ts : List (Option Run)) (before after : List ℕ) (b : Block) : Type 0 where
  pub shape : Shape
  pub asked : ShapeOf bytes shape
  pub spot : Spot
  pub from : LentOrBegun R shape rs ts before after spot
  pub block : b ≡ block_of spot
  pub size : b.size ≡ block_size shape

-- refused, with all unchanged: 21 for no bytes, 22 for too many, else where no slot is free and no run is begun
pub record Refused (R : Rule) (bytes : ℕ) (rs ts : List (Option Run)) (before after : List ℕ) (e : PoolFault) : Type 0 where
  pub runs_kept : ts ≡ rs
  pub pages_kept : after ≡ before
  pub empty : bytes ≡ 0 → Says e 21 (bytes ∷ [])
  pub long : longest_request < bytes → Says e 22 (bytes ∷ [])
  pub unbegun : 0 < bytes → bytes ≤ longest_request → (s : Shape) × ShapeOf bytes s × NoneServes s.class rs × NotBegun R bytes s.count rs before after e

-- what a take does and answers
abbrev pub Taken : (R : Rule) (bytes : ℕ) (rs ts : List (Option Run)) (before after : List ℕ) → Result Block PoolFault → Type 0
Taken R bytes rs ts before after (Ok b) = Granted R bytes rs ts before after b
Taken R bytes rs ts before after (Err e) = Refused R bytes rs ts before after e

-- a granted take adds its block to those on loan
abbrev pub AddsBlock : (rs ts : List (Option Run)) → Result Block PoolFault → Type 0
AddsBlock rs ts (Ok b) = Adds rs ts b
AddsBlock rs ts (Err e) = ts ≡ rs

-- while a run of the request's class has a free slot, the take is granted, and no page is taken
abbrev pub Reuses : (bytes : ℕ) (rs : List (Option Run)) (before after : List ℕ) → Result Block PoolFault → Type 0
Reuses bytes rs before after answer =
    (n : ℕ) → Smallest bytes n → (x : Entry rs) → serves n (Some x.1) ≡ true → (is_ok answer ≡ true) × (after ≡ before)
