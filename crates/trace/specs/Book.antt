-- The book that a caller can keep: it is fed the calls and their answers, and nothing else.
use Rattle.std.specs.Prelude.{ℕ, ◌*◌, cond, List, [], ◌∷◌, Ok, ◌==◌}
use Rattle.classes.specs.Blocks.{block_bytes}
use Rattle.rack.specs.Model.{Coding}
use Rattle.trace.specs.declared.call.Call.{Call}
use Rattle.trace.specs.declared.call.Call.TheVariants.{Open, Feed, Tick, Ring, Close}
use Rattle.trace.specs.declared.call.Answer.TheVariants.{Opened, Done}
use Rattle.trace.specs.Steps.{Reply, Deed}

pub data Phase : Type 0 where
  playing : Phase
  ringing : Phase

-- a line in use has a phase, its length in samples, what it was fed, newest first, and its block's offset and size in bytes
pub data Entry (X : Type 0) : Type 0 where
  idle : Entry X
  active : (phase : Phase) (length : ℕ) (history : List X) (offset size : ℕ) → Entry X

-- what the book says of each line
abbrev pub Book : Type 0 → Type 0
Book X = (line : ℕ) → Entry X

abbrev pub empty : {X : Type 0} → Book X
empty k = idle

abbrev pub write : {X : Type 0} → Book X → (k : ℕ) → Entry X → Book X
write b k e j = cond (j == k) e (b j)

-- one sample more, as the newest
abbrev pub more : {X : Type 0} → X → Entry X → Entry X
more x idle = idle
more x (active p len h o s) = active p len (x ∷ h) o s

abbrev pub rang : {X : Type 0} → Entry X → Entry X
rang idle = idle
rang (active p len h o s) = active ringing len h o s

-- one call and its reply: only what was granted is written down
abbrev pub note : {X : Type 0} → Coding X → Book X → Call X → Reply X → Book X
note C b (Open k len) (Ok (Opened o)) = write b k (active playing len [] o (block_bytes (len * C.wide)))
note C b (Feed k y) (Ok Done) = write b k (more y (b k))
note C b (Tick k) (Ok Done) = write b k (more C.silent (b k))
note C b (Ring k) (Ok Done) = write b k (rang (b k))
note C b (Close k) (Ok Done) = write b k idle
note C b c a = b

-- the book after the calls of the log, first to last, where it was b before
abbrev pub noted : {X : Type 0} → Coding X → Book X → List (Deed X) → Book X
noted C b [] = b
noted C b (d ∷ log) = noted C (note C b d.0 d.1) log

abbrev pub book : {X : Type 0} → Coding X → List (Deed X) → Book X
book C log = noted C empty log
