-- A whole preset change, from its parts.
use Rattle.std.proofs.Common.{◌≡◌, ℕ, List, ◌++◌, Ok, Err, Result, sym, ap, ◌∙◌, inl, inr}
use Rattle.pages.specs.declared.supply.Supply.{Ghosts as SupplyGhosts}
use Rattle.samples.specs.declared.kind.Kind.{Ghosts as KindGhosts}
use Rattle.rack.specs.declared.fault.RackFault.{RackFault}
use Rattle.rack.specs.declared.line.Line.{Line}
use Rattle.rack.specs.declared.state.State.TheVariants as state
use Rattle.rack.specs.Lines.{line}
use Rattle.rack.specs.Model.{Model, fresh_model}
use Rattle.trace.specs.Steps.{Deed, Ran}
use Rattle.trace.proofs.Promises.{Promises}
use Rattle.trace.proofs.Rules.{ran_same}
use Rattle.trace.proofs.Runs.{every_run}
use Rattle.trace.proofs.Sequences.{ran_on}
use Rattle.board.specs.declared.board.Board.{Board}
use Rattle.board.specs.declared.fault.BoardFault.{BoardFault}
use Rattle.board.specs.Tickets.{Valid}
use Rattle.board.specs.Views.{BoardModel, model_of, rule_of, coding_of, seen, SameBoard}
use Rattle.board.proofs.Clients.{same_boards, still_valid}
use Rattle.preset.specs.declared.voice.Voice.{Voice}
use Rattle.preset.specs.declared.change.Entered.{Entered}
use Rattle.preset.specs.Change.{entering, refusing, leaving, Played, Changes}
use Rattle.preset.specs.Steps.{Enters, EntersOr, Leaves}

-- a line that plays is not one that is unused
two_lines : (m : Model) (j k : ℕ) → Valid m j state.Playing → (line m.lines k).state ≡ state.Unused → j ≡ k → ⊥
two_lines m j k v u e = cc v.1

module _ {X : Type 0} (b d e : BoardModel X) (old new : Voice X) (v : Entered X) (first : Enters b d old v) where
  -- the old voice's ticket, whether the new one has entered or not
  pub old_valid : (r : Result (Entered X) RackFault) → EntersOr d e new r → Valid e.rack v.ticket.line state.Playing
  old_valid (Ok w) second = rw first.own (still_valid d.rack e.rack new.line second.only old.line state.Playing (two_lines d.rack old.line new.line first.valid second.was) first.valid)
  old_valid (Err f) second = rw first.own (first.valid.0, ap (λ (ls : List Line). (line ls old.line).state) second.1 ∙ first.valid.1)

  -- the new voice's ticket, once the old one has left
  pub new_valid : (w : Entered X) → Enters d e new w → (z : BoardModel X) (h : Result X BoardFault) → Leaves e z v.ticket.line h → Valid z.rack w.ticket.line state.Playing
  new_valid w second z h gone =
      let left : Leaves e z old.line h = rw first.own at gone in
      rw second.own (still_valid e.rack z.rack old.line left.only new.line state.Playing (λ same. two_lines d.rack old.line new.line first.valid second.was (sym same)) second.valid)

-- what follows from a run of a board's rack
module _ {S K X : Type 0} {supply : SupplyGhosts S} {kind : KindGhosts K X} (b : Board S K X supply kind) (m : List ℕ) (p : Promises (rule_of b) (coding_of b)) (old new : Voice X) where
  played : (d : Board S K X supply kind) (n : List ℕ) (log : List (Deed X)) → Ran (rule_of b) (coding_of b) (model_of b m) log (model_of d n) → Played (seen b m) (seen d n) log
  played d n log r = record {
    ran = r;
    law = λ span memory before led. every_run p span memory (before ++ log) (model_of d n) (ran_on (rule_of b) (coding_of b) (fresh_model span memory) (model_of b m) (model_of d n) before log led r);
  }

  pub not_begun : (d : Board S K X supply kind) (n : List ℕ) (f : RackFault) → EntersOr (seen b m) (seen d n) old (Err f) → Changes (seen b m) (seen d n) old new (Err f)
  not_begun d n f declined = inl (played d n (refusing old f) declined.0)

  -- the old voice enters, the new one enters or not, and the old one leaves: d, e and g after each
  module _ (d e g : Board S K X supply kind) (n o q : List ℕ) (first : SameBoard b d) (second : SameBoard d e) (v : Entered X) (h : Result X BoardFault) (enters : Enters (seen b m) (seen d n) old v) (leaves : Leaves (seen e o) (seen g q) v.ticket.line h) where
    gone : Leaves (seen e o) (seen g q) old.line h
    gone = rw enters.own at leaves

    pub broken_off : (f : RackFault) → EntersOr (seen d n) (seen e o) new (Err f) → Changes (seen b m) (seen g q) old new (Err f)
    broken_off f declined =
        let R = rule_of b in
        let C = coding_of b in
        let x = entering old enters.how in
        let y = refusing {X = X} new f in
        let z = leaving old.line gone.how in
        let last = ran_same R (rule_of e) (same_boards b d e first second).rule C (model_of e o) (model_of g q) z gone.ran in
        let rest = ran_on R C (model_of d n) (model_of e o) (model_of g q) y z (ran_same R (rule_of d) first.rule C (model_of d n) (model_of e o) y declined.0) last in
        inr (enters.how, gone.how, played g q (x ++ (y ++ z)) (ran_on R C (model_of b m) (model_of d n) (model_of g q) x (y ++ z) enters.ran rest))

    -- and the new one leaves
    pub changed : (third : SameBoard e g) (j : Board S K X supply kind) (s : List ℕ) (w : Entered X) (i : Result X BoardFault) → Enters (seen d n) (seen e o) new w → Leaves (seen g q) (seen j s) w.ticket.line i
        → Changes (seen b m) (seen j s) old new (Ok (record { old = v.heard; new = w.heard; rung = h }))
    changed third j s w i joins parts =
        let R = rule_of b in
        let C = coding_of b in
        let last : Leaves (seen g q) (seen j s) new.line i = rw joins.own at parts in
        let x = entering old enters.how in
        let y = entering new joins.how in
        let z = leaving old.line gone.how in
        let t = leaving new.line last.how in
        let same = same_boards b d e first second in
        let fourth = ran_same R (rule_of g) (same_boards b e g same third).rule C (model_of g q) (model_of j s) t last.ran in
        let leaving = ran_on R C (model_of e o) (model_of g q) (model_of j s) z t (ran_same R (rule_of e) same.rule C (model_of e o) (model_of g q) z gone.ran) fourth in
        let rest = ran_on R C (model_of d n) (model_of e o) (model_of j s) y (z ++ t) (ran_same R (rule_of d) first.rule C (model_of d n) (model_of e o) y joins.ran) leaving in
        (enters.how, joins.how, gone.how, last.how, played j s (x ++ (y ++ (z ++ t))) (ran_on R C (model_of b m) (model_of d n) (model_of j s) x (y ++ (z ++ t)) enters.ran rest), cc (enters.heard, joins.heard, gone.heard))
