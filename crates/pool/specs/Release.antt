-- What `release` does, over the pool's table of runs and the supply's table of pages before and after the call.
use Rattle.std.specs.Prelude.{◌≡◌, ℕ, ◌+◌, ◌*◌, ◌<◌, ◌≤◌, true, false, List, [], ◌∷◌, length, is_ok, None, Ok, Err, Option, Result, slice_set}
use Rattle.classes.specs.Limits.{page_bytes}
use Rattle.pages.specs.Rule.{Rule}
use Rattle.pages.specs.Calls.{Removed}
use Rattle.runs.specs.declared.run.Run.{Run}
use Rattle.runs.specs.declared.table.Spot.{Spot}
use Rattle.runs.specs.Shapes.{slots_in, block_size}
use Rattle.runs.specs.Table.{free, is_on_loan, RestoresAt}
use Rattle.pool.specs.declared.fault.PoolFault.{PoolFault}
use Rattle.pool.specs.Faults.{Says}
use Rattle.pool.specs.State.{Entry}
use Rattle.pool.specs.Blocks.{run_start, run_end, start_of, OnLoan, Drops}

-- the offset lies in the run
abbrev pub InRun : Run → (offset : ℕ) → Type 0
InRun r offset = (run_start r ≤ offset) × (offset < run_end r)

-- slot s of the run begins at the offset
abbrev pub Begins : Run → (s offset : ℕ) → Type 0
Begins r s offset = (s < slots_in r.shape) × (run_start r + s * block_size r.shape ≡ offset)

-- the slot is free again; if it was its run's last on loan, the run is gone from the table and given to the supply
pub record Restored (R : Rule) (p : Spot) (rs ts : List (Option Run)) (before after : List ℕ) : Type 0 where
  pub more : free p.run + 1 < slots_in p.run.shape → RestoresAt rs p.index p.slot ts × (after ≡ before)
  pub last : free p.run + 1 ≡ slots_in p.run.shape → (ts ≡ slice_set rs p.index None) × Removed R p.run.first p.run.shape.count before after

-- granted: the one slot on loan whose block begins at the offset
pub record Released (R : Rule) (rs ts : List (Option Run)) (before after : List ℕ) (offset : ℕ) : Type 0 where
  pub spot : Spot
  pub on_loan : OnLoan rs spot
  pub begins : start_of spot ≡ offset
  pub only : (q : Spot) → OnLoan rs q → start_of q ≡ offset → q ≡ spot
  pub restored : Restored R spot rs ts before after

-- refused, with all unchanged: 24 past the span, 25 in no run, 26 where no slot begins, 27 where the slot is not on loan
pub record NotReleased (rs ts : List (Option Run)) (before after : List ℕ) (offset : ℕ) (e : PoolFault) : Type 0 where
  pub runs_kept : ts ≡ rs
  pub pages_kept : after ≡ before
  pub past : length before * page_bytes ≤ offset → Says e 24 (offset ∷ [])
  pub nowhere : offset < length before * page_bytes → ((x : Entry rs) → InRun x.1 offset → ⊥) → Says e 25 (offset ∷ [])
  pub between : (x : Entry rs) → InRun x.1 offset → ((s : ℕ) → Begins x.1 s offset → ⊥) → Says e 26 (offset ∷ [])
  pub idle : (x : Entry rs) (s : ℕ) → Begins x.1 s offset → (is_on_loan x.1 s ≡ false) × Says e 27 (offset ∷ [])

-- what a release does and answers
abbrev pub Releases : (R : Rule) (rs ts : List (Option Run)) (before after : List ℕ) (offset : ℕ) → Result (Unit {0}) PoolFault → Type 0
Releases R rs ts before after offset (Ok _) = Released R rs ts before after offset
Releases R rs ts before after offset (Err e) = NotReleased rs ts before after offset e

-- a block on loan that begins at the offset is found
abbrev pub Found : (rs : List (Option Run)) (offset : ℕ) → Result (Unit {0}) PoolFault → Type 0
Found rs offset answer = (q : Spot) → OnLoan rs q → start_of q ≡ offset → is_ok answer ≡ true

-- a granted release drops its block from those on loan
abbrev pub DropsBlock : (rs ts : List (Option Run)) (offset : ℕ) → Result (Unit {0}) PoolFault → Type 0
DropsBlock rs ts offset (Ok _) = Drops rs ts offset
DropsBlock rs ts offset (Err e) = ts ≡ rs
