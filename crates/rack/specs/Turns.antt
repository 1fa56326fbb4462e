-- Which call a line grants in which state, and the state that it goes to: the whole table.
use Rattle.std.specs.Prelude.{ℕ, Ok, Err, Result}
use Rattle.rack.specs.declared.state.State.{State}
use Rattle.rack.specs.declared.state.State.TheVariants.{Unused, Playing, Ringing}
use Rattle.rack.specs.declared.state.Verb.{Verb}
use Rattle.rack.specs.declared.state.Verb.TheVariants.{Open, Feed, Tick, Tap, Ring, Close, Kept}
use Rattle.rack.specs.declared.fault.RackFault.{RackFault}
use Rattle.rack.specs.declared.fault.RackFault.TheVariants.{InUse, NotInUse, IsRinging, IsPlaying}

abbrev pub turned : State → Verb → (line : ℕ) → Result State RackFault
turned Unused Open line = Ok Playing
turned Unused Feed line = Err (NotInUse line)
turned Unused Tick line = Err (NotInUse line)
turned Unused Tap line = Err (NotInUse line)
turned Unused Ring line = Err (NotInUse line)
turned Unused Close line = Err (NotInUse line)
turned Unused Kept line = Err (NotInUse line)
turned Playing Open line = Err (InUse line)
turned Playing Feed line = Ok Playing
turned Playing Tick line = Err (IsPlaying line)
turned Playing Tap line = Ok Playing
turned Playing Ring line = Ok Ringing
turned Playing Close line = Err (IsPlaying line)
turned Playing Kept line = Ok Playing
turned Ringing Open line = Err (InUse line)
turned Ringing Feed line = Err (IsRinging line)
turned Ringing Tick line = Ok Ringing
turned Ringing Tap line = Ok Ringing
turned Ringing Ring line = Err (IsRinging line)
turned Ringing Close line = Ok Unused
turned Ringing Kept line = Ok Ringing
