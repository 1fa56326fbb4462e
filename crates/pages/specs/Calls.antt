-- What `take` and `give` do, over the table of the runs out before and after the call.
use Rattle.std.specs.Prelude.{◌≡◌, ℕ, ◌+◌, ◌<◌, ◌≤◌, List, [], ◌∷◌, length, Ok, Err, Result, slice_set}
use Rattle.pages.specs.declared.fault.SupplyFault.{SupplyFault}
use Rattle.pages.specs.declared.run.Run.{Run}
use Rattle.pages.specs.Faults.{number, places}
use Rattle.pages.specs.Rule.{Rule}
use Rattle.pages.specs.Table.{Out, Free}

-- a run of the count asked, which fits, of free pages within the span, at a place that the supply chooses, is added
pub record Added (R : Rule) (count : ℕ) (before after : List ℕ) (run : Run) : Type 0 where
  pub same : run.count ≡ count
  pub some : 0 < count
  pub most : count ≤ R.largest
  pub fit : R.fits before count
  pub inside : run.first + count ≤ length before
  pub free : Free before run.first count
  pub chosen : R.chooses before count run.first
  pub after_is : after ≡ slice_set before run.first count

-- 11: no count that the supply could ever take; else 12: the count does not fit. Each tells the count
pub record NotTaken (R : Rule) (count : ℕ) (before after : List ℕ) (e : SupplyFault) : Type 0 where
  pub kept : after ≡ before
  pub told : places e ≡ count ∷ []
  pub none : count ≡ 0 → number e ≡ 11
  pub above : R.largest < count → number e ≡ 11
  pub unfit : 0 < count → count ≤ R.largest → (number e ≡ 12) × (R.fits before count → ⊥)

-- a take, granted or refused
abbrev pub Taken : Rule → (count : ℕ) → (before after : List ℕ) → Result Run SupplyFault → Type 0
Taken R count before after (Ok run) = Added R count before after run
Taken R count before after (Err e) = NotTaken R count before after e

-- the run was out, and is removed; right after, its count fits
pub record Removed (R : Rule) (first count : ℕ) (before after : List ℕ) : Type 0 where
  pub was : Out before first count
  pub after_is : after ≡ slice_set before first 0
  pub fit : R.fits after count

-- 13: the run is not out. It tells the first page
pub record NotGiven (first count : ℕ) (before after : List ℕ) (e : SupplyFault) : Type 0 where
  pub kept : after ≡ before
  pub told : places e ≡ first ∷ []
  pub says : number e ≡ 13
  pub was_not : Out before first count → ⊥

-- a give, granted or refused
abbrev pub Given : Rule → (first count : ℕ) → (before after : List ℕ) → Result (Unit {0}) SupplyFault → Type 0
Given R first count before after (Ok _) = Removed R first count before after
Given R first count before after (Err e) = NotGiven first count before after e
