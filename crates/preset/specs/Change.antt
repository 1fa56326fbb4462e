-- The calls that a preset change makes of a board's rack, first to last, with their answers.
use Rattle.std.specs.Prelude.{◌≡◌, ℕ, ◌⊎◌, List, [], ◌∷◌, ◌++◌, Ok, Err, Result}
use Rattle.rack.specs.declared.fault.RackFault.{RackFault}
use Rattle.trace.specs.declared.call.Call.TheVariants as call
use Rattle.trace.specs.declared.call.Answer.TheVariants.{Opened, Done}
use Rattle.trace.specs.Steps.{acknowledged, heard, Deed, Ran}
use Rattle.trace.specs.Law.{KeepsLawOver}
use Rattle.board.specs.Faults.{passed}
use Rattle.board.specs.Views.{BoardModel}
use Rattle.preset.specs.declared.voice.Voice.{Voice}
use Rattle.preset.specs.declared.voice.Heard.{Heard}

-- what a voice is answered as it enters: the block of its line, its feed and its tap
pub record Entrance (X : Type 0) : Type 0 where
  pub offset : ℕ
  pub fed : Result (Unit {0}) RackFault
  pub tapped : Result X RackFault

-- and as it leaves: its tick and its tap
pub record Exit (X : Type 0) : Type 0 where
  pub ticked : Result (Unit {0}) RackFault
  pub tapped : Result X RackFault

-- a voice enters: its line is opened, fed and tapped
abbrev pub entering : {X : Type 0} → Voice X → Entrance X → List (Deed X)
entering v e = (call.Open v.line v.length, Ok (Opened e.offset)) ∷ (call.Feed v.line v.sample, acknowledged e.fed) ∷ (call.Tap v.line 0, heard e.tapped) ∷ []

-- a voice cannot enter, since its line is not opened
abbrev pub refusing : {X : Type 0} → Voice X → RackFault → List (Deed X)
refusing v f = (call.Open v.line v.length, Err f) ∷ []

-- the voice of a line leaves: the line rings for one tick, is tapped once more, and is closed. Ring and close are granted
abbrev pub leaving : {X : Type 0} → (line : ℕ) → Exit X → List (Deed X)
leaving k e = (call.Ring k, Ok Done) ∷ (call.Tick k, acknowledged e.ticked) ∷ (call.Tap k 1, heard e.tapped) ∷ (call.Close k, Ok Done) ∷ []

-- what is heard of a change
abbrev pub heard_of : {X : Type 0} → (old new : Entrance X) (rung : Exit X) → Heard X
heard_of old new rung = record { old = passed old.tapped; new = passed new.tapped; rung = passed rung.tapped }

-- a board before some calls, and after them
module _ {X : Type 0} (b d : BoardModel X) where
  -- the calls of the log led from one to the other; and whatever run led from a new board to the first, with these calls at its end it keeps the law
  pub record Played (log : List (Deed X)) : Type 0 where
    pub ran : Ran b.rule b.coding b.rack log d.rack
    pub law : KeepsLawOver b.rule b.coding b.rack log d.rack

  -- the new voice enters beside the old one, which then leaves, and the new one after it; where a line is not opened, who entered before leaves
  abbrev pub Changes : (old new : Voice X) → Result (Heard X) RackFault → Type 0
  Changes old new (Ok h) =
      (one : Entrance X) × (two : Entrance X) × (rung : Exit X) × (last : Exit X) × Played (entering old one ++ (entering new two ++ (leaving old.line rung ++ leaving new.line last)))
      × (h ≡ heard_of one two rung)
  Changes old new (Err f) = Played (refusing old f) ⊎ ((one : Entrance X) × (rung : Exit X) × Played (entering old one ++ (refusing new f ++ leaving old.line rung)))
