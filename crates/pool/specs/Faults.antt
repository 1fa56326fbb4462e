-- A refusal's number, and the values that it tells, the lowest layer's first.
use Rattle.std.specs.Prelude.{◌≡◌, ℕ, List, [], ◌∷◌, ◌++◌, take}
use Rattle.pages.specs.Faults as supply
use Rattle.pool.specs.declared.fault.PoolFault.{PoolFault}
use Rattle.pool.specs.declared.fault.PoolFault.TheVariants.{NoBytes, TooLong, TableFull, Supply, PastSpan, NoRun, NoSlot, NotOnLoan}

-- the number of a refusal; the supply's own for its refusals
abbrev pub number : PoolFault → ℕ
number NoBytes = 21
number (TooLong bytes) = 22
number (TableFull bytes) = 23
number (Supply below bytes) = supply.number below
number (PastSpan offset) = 24
number (NoRun offset) = 25
number (NoSlot offset) = 26
number (NotOnLoan offset) = 27

-- the values that it tells: a supply's own, and then the bytes or the offset
abbrev pub places : PoolFault → List ℕ
places NoBytes = 0 ∷ []
places (TooLong bytes) = bytes ∷ []
places (TableFull bytes) = bytes ∷ []
places (Supply below bytes) = supply.places below ++ (bytes ∷ [])
places (PastSpan offset) = offset ∷ []
places (NoRun offset) = offset ∷ []
places (NoSlot offset) = offset ∷ []
places (NotOnLoan offset) = offset ∷ []

-- three values: those that are told, and then zeros
abbrev pub padded : List ℕ → List ℕ
padded ps = take 3 (ps ++ (0 ∷ 0 ∷ 0 ∷ []))

-- the refusal has this number, and tells these values
abbrev pub Says : PoolFault → ℕ → List ℕ → Type 0
Says e n ps = (number e ≡ n) × (places e ≡ ps)
