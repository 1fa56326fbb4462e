-- What a rack and its memory are to a caller, and what each call answers and leaves.
use Rattle.std.specs.Prelude.{◌≡◌, ℕ, ◌*◌, cond, List, length, replicate, None, Ok, Err, Option, Result, MatchResult, ◌==◌, nat_le, nat_lt, slice_set}
use Rattle.classes.specs.Limits.{page_bytes, longest_request}
use Rattle.pages.specs.Rule.{Rule}
use Rattle.runs.specs.declared.run.Run.{Run}
use Rattle.runs.specs.Limits.{max_runs}
use Rattle.pool.specs.declared.block.Block.{Block}
use Rattle.pool.specs.declared.fault.PoolFault.{PoolFault}
use Rattle.pool.specs.Take.{Taken}
use Rattle.pool.specs.Release.{Released}
use Rattle.rack.specs.declared.fault.RackFault.{RackFault}
use Rattle.rack.specs.declared.fault.RackFault.TheVariants.{NoLine, NoLength, TooLong, TooFar, WrongMemory, Pool}
use Rattle.rack.specs.declared.line.Line.{Line}
use Rattle.rack.specs.declared.state.State.{State}
use Rattle.rack.specs.declared.state.Verb.{Verb}
use Rattle.rack.specs.declared.state.Verb.TheVariants.{Open, Feed, Tick, Tap, Ring, Close, Kept}
use Rattle.rack.specs.Limits.{line_count}
use Rattle.rack.specs.Turns.{turned}
use Rattle.rack.specs.Lines.{unused, line, fresh, fed, rung, written, tapped}

-- the lines, the pool's table of runs, the supply's table of pages, and the sample memory
pub record Model : Type 0 where
  pub lines : List Line
  pub runs : List (Option Run)
  pub pages : List ℕ
  pub memory : List ℕ

abbrev pub model : (lines : List Line) (runs : List (Option Run)) (pages memory : List ℕ) → Model
model lines runs pages memory = record { lines = lines; runs = runs; pages = pages; memory = memory }

-- a new rack over a supply with such a table, and any memory: no line is in use
abbrev pub new_model : (pages memory : List ℕ) → Model
new_model pages memory = model (replicate line_count unused) (replicate max_runs None) pages memory

-- the same over a supply of so many pages with nothing out
abbrev pub fresh_model : (span : ℕ) (memory : List ℕ) → Model
fresh_model span memory = new_model (replicate span 0) memory

-- how samples stand in memory
pub record Coding (X : Type 0) : Type 0 where
  pub wide : ℕ
  pub silent : X
  pub coded : X → List ℕ
  pub heard : List ℕ → X

abbrev pub coding : {X : Type 0} → (wide : ℕ) (silent : X) (coded : X → List ℕ) (heard : List ℕ → X) → Coding X
coding wide silent coded heard = record { wide = wide; silent = silent; coded = coded; heard = heard }

-- the state that a call moves the line k to, or why it is refused
abbrev pub turns : Verb → List Line → (k : ℕ) → Result State RackFault
turns verb ls k = cond (nat_lt k line_count) (turned (line ls k).state verb k) (Err (NoLine k))

-- r where the line grants the call
abbrev pub allowed : {X : Type 0} → Result State RackFault → Result X RackFault → Result X RackFault
allowed (Ok s) r = r
allowed (Err f) r = Err f

-- a result without its value
abbrev pub done : {X E : Type 0} → Result X E → Result (Unit {0}) E
done (Ok x) = Ok tt
done (Err e) = Err e

-- x where the memory is as long as the supply's pages
abbrev pub whole : {X : Type 0} → Model → (k : ℕ) → X → Result X RackFault
whole m k x = cond (length m.memory == length m.pages * page_bytes) (Ok x) (Err (WrongMemory k))

-- the state that an open leads to, or why it is refused before the pool is asked
abbrev pub open_checks : (w : ℕ) → Model → (k len : ℕ) → Result State RackFault
open_checks w m k len =
    cond (nat_lt k line_count)
    (cond (len == 0) (Err (NoLength k)) (cond (nat_le (len * w) longest_request) (turned (line m.lines k).state Open k) (Err (TooLong k))))
    (Err (NoLine k))

-- an open's answer by the pool's: the block's offset, or the pool's refusal with the line
abbrev pub open_answer : (k : ℕ) → Result Block PoolFault → Result ℕ RackFault
open_answer k (Ok b) = Ok b.offset
open_answer k (Err e) = Err (Pool e k)

-- the lines after it
abbrev pub open_lines : List Line → (k len : ℕ) → Result Block PoolFault → List Line
open_lines ls k len (Ok b) = slice_set ls k (fresh b.offset len)
open_lines ls k len (Err e) = ls

abbrev pub OpensAs : Rule → (w : ℕ) → Model → (k len : ℕ) → Result State RackFault → Result ℕ RackFault → Model → Type 0
OpensAs R w m k len (Ok s) r n =
    (a : Result Block PoolFault) × Taken R (len * w) m.runs n.runs m.pages n.pages a
    × (r ≡ open_answer k a) × (n.lines ≡ open_lines m.lines k len a) × (n.memory ≡ m.memory)
OpensAs R w m k len (Err f) r n = (r ≡ Err f) × (n ≡ m)

abbrev pub Opens : Rule → (w : ℕ) → Model → (k len : ℕ) → Result ℕ RackFault → Model → Type 0
Opens R w m k len r n = OpensAs R w m k len (open_checks w m k len) r n

-- the sample x is put at the next position of the line k
pub record Written {X : Type 0} (coded : X → List ℕ) (w : ℕ) (m : Model) (k : ℕ) (x : X) (n : Model) : Type 0 where
  pub lines : n.lines ≡ slice_set m.lines k (fed (line m.lines k))
  pub runs : n.runs ≡ m.runs
  pub pages : n.pages ≡ m.pages
  pub memory : n.memory ≡ written coded w m.memory (line m.lines k) x

-- the answer of a call that writes
abbrev pub write_answer : Verb → Model → (k : ℕ) → Result (Unit {0}) RackFault
write_answer verb m k = allowed (turns verb m.lines k) (whole m k tt)

-- a call puts the sample x where the line grants it
abbrev pub Puts : {X : Type 0} → Coding X → Verb → Model → (k : ℕ) (x : X) → Result (Unit {0}) RackFault → Model → Type 0
Puts C verb m k x r n = (r ≡ write_answer verb m k) × MatchResult r (λ _. Written C.coded C.wide m k x n) (λ _. n ≡ m)

abbrev pub Feeds : {X : Type 0} → Coding X → Model → (k : ℕ) (x : X) → Result (Unit {0}) RackFault → Model → Type 0
Feeds C = Puts C Feed

abbrev pub Ticks : {X : Type 0} → Coding X → Model → (k : ℕ) → Result (Unit {0}) RackFault → Model → Type 0
Ticks C m k = Puts C Tick m k C.silent

abbrev pub tap_answer : {X : Type 0} → Coding X → Model → (k d : ℕ) → Result X RackFault
tap_answer C m k d =
    allowed (turns Tap m.lines k) (cond (nat_lt d (line m.lines k).length) (whole m k (tapped C.heard C.silent C.wide m.memory (line m.lines k) d)) (Err (TooFar k)))

abbrev pub Rings : Model → (k : ℕ) → Result (Unit {0}) RackFault → Model → Type 0
Rings m k r n =
    (r ≡ done (turns Ring m.lines k))
    × MatchResult r (λ _. n ≡ model (slice_set m.lines k (rung (line m.lines k))) m.runs m.pages m.memory) (λ _. n ≡ m)

-- the line's block goes back to the pool
pub record Closed (R : Rule) (m : Model) (k : ℕ) (n : Model) : Type 0 where
  pub lines : n.lines ≡ slice_set m.lines k unused
  pub released : Released R m.runs n.runs m.pages n.pages (line m.lines k).offset
  pub memory : n.memory ≡ m.memory

abbrev pub Closes : Rule → Model → (k : ℕ) → Result (Unit {0}) RackFault → Model → Type 0
Closes R m k r n = (r ≡ done (turns Close m.lines k)) × MatchResult r (λ _. Closed R m k n) (λ _. n ≡ m)

abbrev pub kept_answer : List Line → (k : ℕ) → Result ℕ RackFault
kept_answer ls k = allowed (turns Kept ls k) (Ok (line ls k).kept)
