-- A refusal's number, and the values that it tells, the lowest layer's first.
use Rattle.std.specs.Prelude.{ℕ, List, [], ◌∷◌, Ok, Err, Result}
use Rattle.rack.specs.declared.fault.RackFault.{RackFault}
use Rattle.rack.specs.Faults as rack
use Rattle.board.specs.declared.fault.BoardFault.{BoardFault}
use Rattle.board.specs.declared.fault.BoardFault.TheVariants.{OtherMark, Rack}

abbrev pub number : BoardFault → ℕ
number (OtherMark line) = 40
number (Rack below) = rack.number below

abbrev pub places : BoardFault → List ℕ
places (OtherMark line) = line ∷ []
places (Rack below) = rack.places below

-- the rack's answer, as the board's
abbrev pub passed : {A : Type 0} → Result A RackFault → Result A BoardFault
passed (Ok x) = Ok x
passed (Err f) = Err (Rack f)
