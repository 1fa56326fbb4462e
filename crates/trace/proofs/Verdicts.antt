-- What a granted answer says of the tests before it.
use Rattle.std.proofs.Common.{◌≡◌, ℕ, ◌*◌, ◌<◌, ◌≤◌, List, length, Ok, Err, Result, refl, arith}
use Rattle.std.proofs.lemmas.Bool.Decides.{nat_tests}
use Rattle.rack.specs.declared.line.Line.{Line}
use Rattle.rack.specs.declared.state.State.{State}
use Rattle.rack.specs.declared.state.State.TheVariants.{Unused, Playing, Ringing}
use Rattle.rack.specs.declared.state.Verb.{Verb}
use Rattle.rack.specs.declared.state.Verb.TheVariants.{Open, Feed, Tick, Tap, Ring, Close, Kept}
use Rattle.rack.specs.Turns.{turned}
use Rattle.rack.specs.Verbs.{used_by}
use Rattle.rack.specs.Lines.{unused, line, used, tapped}
use Rattle.rack.specs.Model.{Model, Coding, turns, done, open_checks, write_answer, tap_answer, kept_answer}

pub not_ok : {A E P : Type 0} (f : E) (v : A) → ◌≡◌ {A = Result A E} (Err f) (Ok v) → P
not_ok f v e = cc

pub ok_same : {A E : Type 0} (x y : A) → ◌≡◌ {A = Result A E} (Ok x) (Ok y) → x ≡ y
ok_same x y e = cc

turned_use : (s : State) (v : Verb) (k : ℕ) (t : State) → turned s v k ≡ Ok t → used s ≡ used_by v
turned_use Unused Open k t e = refl
turned_use Playing Feed k t e = refl
turned_use Playing Tap k t e = refl
turned_use Playing Ring k t e = refl
turned_use Playing Kept k t e = refl
turned_use Ringing Tick k t e = refl
turned_use Ringing Tap k t e = refl
turned_use Ringing Close k t e = refl
turned_use Ringing Kept k t e = refl
turned_use s v k t e = not_ok _ t e

pub done_turns : (v : Verb) (ls : List Line) (k : ℕ) (u : Unit {0}) → Ok u ≡ done (turns v ls k) → (k < 64) × (used (line ls k).state ≡ used_by v)
done_turns v ls k u e = grind (arith, nat_tests, turned_use (line ls k).state v k)

pub write_ok : (v : Verb) (m : Model) (k : ℕ) (u : Unit {0}) → Ok u ≡ write_answer v m k → (k < 64) × (used (line m.lines k).state ≡ used_by v) × (length m.memory ≡ length m.pages * 512)
write_ok v m k u e = grind (arith, nat_tests, turned_use (line m.lines k).state v k)

pub tap_ok : {X : Type 0} (C : Coding X) (m : Model) (k d : ℕ) (x : X) → Ok x ≡ tap_answer C m k d
    → (used (line m.lines k).state ≡ 1) × (d < (line m.lines k).length) × (x ≡ tapped C.heard C.silent C.wide m.memory (line m.lines k) d)
tap_ok C m k d x e = grind (arith, nat_tests, turned_use (line m.lines k).state Tap k)

pub kept_ok : (ls : List Line) (k n : ℕ) → kept_answer ls k ≡ Ok n → (used (line ls k).state ≡ 1) × (n ≡ (line ls k).kept)
kept_ok ls k n e = grind (arith, nat_tests, turned_use (line ls k).state Kept k)

pub checks_ok : (w : ℕ) (m : Model) (k len : ℕ) (s : State) → open_checks w m k len ≡ Ok s → (k < 64) × (0 < len) × (len * w ≤ 130560) × (used (line m.lines k).state ≡ 0)
checks_ok w m k len s e = grind (arith, nat_tests, turned_use (line m.lines k).state Open k s)

-- an open of an unused line that meets every test comes to the pool
pub checks_pass : (w : ℕ) (m : Model) (k len : ℕ) → k < 64 → 0 < len → len * w ≤ 130560 → line m.lines k ≡ unused → open_checks w m k len ≡ Ok Playing
checks_pass w m k len h some few e = grind (arith, nat_tests)
