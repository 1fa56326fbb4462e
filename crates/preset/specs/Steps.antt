-- What the parts of a preset change do.
use Rattle.std.specs.Prelude.{◌≡◌, ℕ, Ok, Err, Result}
use Rattle.rack.specs.declared.fault.RackFault.{RackFault}
use Rattle.rack.specs.declared.state.State.TheVariants.{Unused, Playing}
use Rattle.rack.specs.Lines.{line}
use Rattle.trace.specs.Steps.{Ran}
use Rattle.board.specs.declared.fault.BoardFault.{BoardFault}
use Rattle.board.specs.Faults.{passed}
use Rattle.board.specs.Calls.{ticket}
use Rattle.board.specs.Tickets.{Valid, OnlyLine}
use Rattle.board.specs.Views.{BoardModel}
use Rattle.preset.specs.declared.voice.Voice.{Voice}
use Rattle.preset.specs.declared.change.Entered.{Entered}
use Rattle.preset.specs.Change.{Entrance, Exit, entering, refusing, leaving}

-- a board before some calls, and after them
module _ {X : Type 0} (b d : BoardModel X) where
  -- a voice entered with a ticket of its line, which was unused
  pub record Enters (v : Voice X) (r : Entered X) : Type 0 where
    pub how : Entrance X
    pub ran : Ran b.rule b.coding b.rack (entering v how) d.rack
    pub own : r.ticket ≡ ticket b.mark v.line
    pub heard : r.heard ≡ passed how.tapped
    pub valid : Valid d.rack v.line Playing
    pub was : (line b.rack.lines v.line).state ≡ Unused
    pub only : OnlyLine b.rack v.line d.rack

  abbrev pub EntersOr : Voice X → Result (Entered X) RackFault → Type 0
  EntersOr v (Ok e) = Enters v e
  EntersOr v (Err f) = Ran b.rule b.coding b.rack (refusing v f) d.rack × (d.rack.lines ≡ b.rack.lines)

  -- the voice of a line left
  pub record Leaves (k : ℕ) (r : Result X BoardFault) : Type 0 where
    pub how : Exit X
    pub ran : Ran b.rule b.coding b.rack (leaving k how) d.rack
    pub heard : r ≡ passed how.tapped
    pub only : OnlyLine b.rack k d.rack
