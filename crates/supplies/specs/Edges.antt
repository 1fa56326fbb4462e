-- Where a run went, or why it was refused.
use Rattle.std.specs.Prelude.{◌≡◌, ℕ, [], ◌∷◌, Ok, Err, Result}
use Rattle.pages.specs.declared.fault.SupplyFault.{SupplyFault}
use Rattle.pages.specs.declared.run.Run.{Run}
use Rattle.pages.specs.Faults.{number, places}

-- a run of `count` pages went to the page `first`
abbrev pub Went : (first count : ℕ) → Result Run SupplyFault → Type 0
Went first count (Ok run) = (run.first ≡ first) × (run.count ≡ count)
Went first count (Err e) = ⊥

-- refused by the number, with the value told
abbrev pub Refused : (by told : ℕ) → Result Run SupplyFault → Type 0
Refused by told (Ok run) = ⊥
Refused by told (Err e) = (number e ≡ by) × (places e ≡ told ∷ [])
