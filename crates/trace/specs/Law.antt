-- The law over whole runs: what holds after any list of calls of a new rack, by the book of the calls and their answers.
use Rattle.std.specs.Prelude.{◌≡◌, ℕ, ◌+◌, ◌*◌, ◌<◌, ◌≤◌, min, List, [], ◌∷◌, ◌++◌, length, Ok}
use Rattle.classes.specs.Limits.{page_bytes}
use Rattle.pages.specs.Table.{Out}
use Rattle.rack.specs.declared.state.State.{State}
use Rattle.rack.specs.declared.state.State.TheVariants.{Unused, Playing, Ringing}
use Rattle.pages.specs.Rule.{Rule}
use Rattle.rack.specs.Model.{Model, fresh_model, Coding, kept_answer}
use Rattle.trace.specs.declared.call.Call.{Call}
use Rattle.trace.specs.declared.call.Call.TheVariants.{Open, Tap, Close}
use Rattle.trace.specs.declared.call.Answer.TheVariants.{Opened, Done, Heard}
use Rattle.trace.specs.Steps.{Reply, Deed, Step, Ran, beside}
use Rattle.trace.specs.Book.{Phase, playing, ringing, Entry, idle, active, book}
use Rattle.trace.specs.History.{Recalled}

abbrev pub state_of : Phase → State
state_of playing = Playing
state_of ringing = Ringing

-- the state that a line has by the book
abbrev pub book_state : {X : Type 0} → Entry X → State
book_state idle = Unused
book_state (active p len h o s) = state_of p

-- the line is in use
abbrev pub Active : {X : Type 0} → Entry X → Type 0
Active idle = ⊥
Active (active p len h o s) = Unit {0}

-- the byte lies in the block of the line, which is in use
abbrev pub InBlock : {X : Type 0} → Entry X → (byte : ℕ) → Type 0
InBlock idle byte = ⊥
InBlock (active p len h o s) byte = (o ≤ byte) × (byte < o + s)

-- the block of the line, which is in use, lies in the run of `count` pages from `first` on
abbrev pub InRun : {X : Type 0} → Entry X → (first count : ℕ) → Type 0
InRun idle first count = ⊥
InRun (active p len h o s) first count = (first * page_bytes ≤ o) × (o + s ≤ (first + count) * page_bytes)

-- what a granted tap of the line answers
abbrev pub Tells : {X : Type 0} → (silent : X) → Entry X → (d : ℕ) (x : X) → Type 0
Tells silent idle d x = ⊥
Tells silent (active p len h o s) d x = (d < len) × Recalled silent h d x

-- how many samples the line keeps: as many as it was fed, at most its length
abbrev pub Keeps : {X : Type 0} → Entry X → (n : ℕ) → Type 0
Keeps idle n = ⊥
Keeps (active p len h o s) n = n ≡ min (length h) len

-- what holds once the calls of the log were answered so, and the rack and its memory are at m
pub record Law {X : Type 0} (R : Rule) (C : Coding X) (log : List (Deed X)) (m : Model) : Type 0 where
  -- no byte lies in the blocks of two lines in use
  pub apart : (j k byte : ℕ) → InBlock (book C log j) byte → InBlock (book C log k) byte → j ≡ k
  -- the block of a line in use lies in one run that is out of the supply
  pub housed : (k : ℕ) → Active (book C log k) → (first : ℕ) × (count : ℕ) × Out m.pages first count × InRun (book C log k) first count
  -- and every run that is out holds such a block
  pub filled : (first count : ℕ) → Out m.pages first count → (k : ℕ) × InRun (book C log k) first count
  -- a tap that is granted next answers the sample with exactly d newer ones, or silence
  pub taps : (k d : ℕ) (x : X) (n : Model) → Step R C m (Tap k d) (Ok (Heard x)) n → Tells C.silent (book C log k) d x
  -- how many samples a line keeps
  pub keeps : (k n : ℕ) → kept_answer m.lines k ≡ Ok n → Keeps (book C log k) n
  -- where the last call was a granted close, opening that line next, with the length that it had, is granted
  pub reopens : (before : List (Deed X)) (k len o s : ℕ) (p : Phase) (h : List X) (a : Reply X) (n : Model)
      → log ≡ before ++ (Close k, Ok Done) ∷ [] → book C before k ≡ active p len h o s → Step R C m (Open k len) a n → (offset : ℕ) × (a ≡ Ok (Opened offset))

-- whatever run led from a new rack over a supply with nothing out, with whatever memory, to m: with these calls at its end it keeps the law
abbrev pub KeepsLawOver : {X : Type 0} → Rule → Coding X → (m : Model) → List (Deed X) → (n : Model) → Type 0
KeepsLawOver {X} R C m more n = (span : ℕ) (memory : List ℕ) (log : List (Deed X)) → Ran R C (fresh_model span memory) log m → Law R C (log ++ more) n

-- the same of one call
abbrev pub KeepsLaw : {X : Type 0} → Rule → Coding X → (m : Model) → Call X → Reply X → (n : Model) → Type 0
KeepsLaw R C m c a n = KeepsLawOver R C m ((c, a) ∷ []) n

-- from m all the calls were made and answered so, which led to n; and whatever run led from a new rack to m, with these calls at its end it
-- keeps the law
pub record Lawful {X : Type 0} (R : Rule) (C : Coding X) (m : Model) (calls : List (Call X)) (answers : List (Reply X)) (n : Model) : Type 0 where
  pub all : length answers ≡ length calls
  pub ran : Ran R C m (beside calls answers) n
  pub law : KeepsLawOver R C m (beside calls answers) n
