-- Which calls go to a line in use.
use Rattle.std.specs.Prelude.{ℕ}
use Rattle.rack.specs.declared.state.Verb.{Verb}
use Rattle.rack.specs.declared.state.Verb.TheVariants.{Open, Feed, Tick, Tap, Ring, Close, Kept}

-- 1 but for the call that opens a line
abbrev pub used_by : Verb → ℕ
used_by Open = 0
used_by Feed = 1
used_by Tick = 1
used_by Tap = 1
used_by Ring = 1
used_by Close = 1
used_by Kept = 1
