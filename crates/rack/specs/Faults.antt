-- A refusal's number, and the values that it tells, the lowest layer's first.
use Rattle.std.specs.Prelude.{ℕ, List, [], ◌∷◌, ◌++◌}
use Rattle.pool.specs.Faults as pool
use Rattle.rack.specs.declared.fault.RackFault.{RackFault}
use Rattle.rack.specs.declared.fault.RackFault.TheVariants.{NoLine, NoLength, TooLong, InUse, NotInUse, IsRinging, IsPlaying, TooFar, WrongMemory, Pool}

abbrev pub number : RackFault → ℕ
number (NoLine line) = 31
number (NoLength line) = 32
number (TooLong line) = 33
number (InUse line) = 34
number (NotInUse line) = 35
number (IsRinging line) = 36
number (IsPlaying line) = 37
number (TooFar line) = 38
number (WrongMemory line) = 39
number (Pool below line) = pool.number below

abbrev pub places : RackFault → List ℕ
places (NoLine line) = line ∷ []
places (NoLength line) = line ∷ []
places (TooLong line) = line ∷ []
places (InUse line) = line ∷ []
places (NotInUse line) = line ∷ []
places (IsRinging line) = line ∷ []
places (IsPlaying line) = line ∷ []
places (TooFar line) = line ∷ []
places (WrongMemory line) = line ∷ []
places (Pool below line) = pool.places below ++ (line ∷ [])
