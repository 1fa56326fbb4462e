-- A voice enters, and a voice leaves.
use Rattle.std.proofs.Common.{◌≡◌, ℕ, List, Ok, Err, Result, sym, refl, ap, ◌∙◌, subst, arith}
use Rattle.pages.specs.declared.supply.Supply.{Ghosts as SupplyGhosts}
use Rattle.samples.specs.declared.kind.Kind.{Ghosts as KindGhosts}
use Rattle.rack.specs.declared.fault.RackFault.{RackFault}
use Rattle.rack.specs.declared.line.Line.{Line}
use Rattle.rack.specs.declared.state.State.TheVariants as state
use Rattle.rack.specs.Model.{Model, Ticks, Rings, Closes}
use Rattle.trace.specs.declared.call.Answer.TheVariants.{Done}
use Rattle.trace.specs.declared.call.Call.TheVariants.{Close}
use Rattle.trace.specs.Steps.{heard}
use Rattle.trace.proofs.Verdicts.{ok_same}
use Rattle.trace.proofs.Rules.{step_same}
use Rattle.board.specs.declared.board.Board.{Board}
use Rattle.board.specs.declared.fault.BoardFault.{BoardFault}
use Rattle.board.specs.declared.ticket.Declined.{Declined}
use Rattle.board.specs.declared.ticket.Opened.{Opened}
use Rattle.board.specs.declared.ticket.Playing.{Playing}
use Rattle.board.specs.declared.ticket.Ringing.{Ringing}
use Rattle.board.specs.declared.ticket.Ticket.{Ticket}
use Rattle.board.specs.Calls.{ticket, BoardOpens, BoardFeeds, BoardTicks, BoardTaps, BoardRings, BoardCloses}
use Rattle.board.specs.Tickets.{Valid, OnlyLine}
use Rattle.board.specs.Views.{BoardModel, mark_of, rule_of, coding_of, model_of, seen, SameBoard}
use Rattle.board.proofs.Admission.{admitted}
use Rattle.board.proofs.Clients.{same_boards, only_line, that_line, open_granted, open_declined, open_lines_lem, refused_lines, written_lines, ring_granted, close_granted}
use Rattle.preset.specs.declared.voice.Voice.{Voice}
use Rattle.preset.specs.Steps.{Enters, EntersOr, Leaves}

pub not_entered : {X : Type 0} (b d : BoardModel X) (v : Voice X) (f : RackFault) → BoardOpens b d v.line v.length (Err f) → EntersOr b d v (Err f)
not_entered b d v f opens =
    let h = open_declined b d v.line v.length f opens in
    ((d.rack, (Err f, h, refl), refl), refused_lines b.rule b.coding.wide b.rack d.rack v.line v.length f h)

-- opened, fed and tapped: d after the open, e after the feed
pub entered : {S K X : Type 0} {supply : SupplyGhosts S} {kind : KindGhosts K X} (b d e : Board S K X supply kind) (memory after : List ℕ) (v : Voice X) (o : Opened) (f : Result (Unit {0}) BoardFault) (h : Result X BoardFault)
    → SameBoard b d → SameBoard d e → BoardOpens (seen b memory) (seen d memory) v.line v.length (Ok o) → BoardFeeds (seen d memory) (seen e after) o.ticket v.sample f → BoardTaps (seen e after) o.ticket 0 h
    → Enters (seen b memory) (seen e after) v (record { ticket = o.ticket; heard = h })
entered b d e memory after v o f h first second opens feeds taps =
    let k = v.line in
    let m = seen b memory in
    let n = seen d memory in
    let z = seen e after in
    let mine : Ticket Playing = ticket b.mark k in
    let granted = open_granted m n k v.length o opens in
    let fed = admitted n z mine _ (sym first.mark) f (subst (λ (t : Ticket Playing). BoardFeeds n z t v.sample f) granted.0 feeds) in
    let tap = admitted z z mine _ (sym first.mark ∙ sym second.mark) h (subst (λ (t : Ticket Playing). BoardTaps z t 0 h) granted.0 taps) in
    let opened = open_lines_lem m.rule m.coding.wide m.rack n.rack k v.length o.offset granted.1 in
    let that = that_line m.rack n.rack k _ opened.2 (omega (arith, opened.0, b.rack.inner.many)) in
    let kept = written_lines m.coding.coded m.coding.wide n.rack z.rack k v.sample fed.0 d.rack.inner.many fed.1.0.1 opened.0 in
    record {
      how = record { offset = o.offset; fed = fed.0; tapped = tap.0 };
      ran = (n.rack, (Ok o.offset, granted.1, refl), (z.rack, (fed.0, fed.1.0, refl), (z.rack, (ap heard tap.1.0, refl), refl)));
      own = granted.0;
      heard = tap.2;
      valid = (opened.0, kept.1 ∙ ap (λ (l : Line). l.state) that);
      was = opened.1;
      only = λ j ne. kept.0 j ne ∙ only_line m.rack n.rack k _ opened.2 j ne;
    }

-- the line of a ticket, which plays, is left to ring, and ticked: d after the ring, e after the tick
module _ {S K X : Type 0} {supply : SupplyGhosts S} {kind : KindGhosts K X} (b d e : Board S K X supply kind) (memory after : List ℕ) (t : Ticket Playing) (mine : t.mark ≡ mark_of b) (valid : Valid (model_of b memory) t.line state.Playing)
    (r : Result (Ticket Ringing) (Declined (Ticket Playing))) (u : Ticket Ringing) (granted : r ≡ Ok u) (first : SameBoard b d) (rings : BoardRings (seen b memory) (seen d memory) t r)
    (f : Result (Unit {0}) BoardFault) (second : SameBoard d e) (ticks : BoardTicks (seen d memory) (seen e after) u f) where
  ring : (u ≡ ticket t.mark t.line) × Rings (model_of b memory) t.line (Ok tt) (model_of d memory)
  ring = let g = ring_granted (seen b memory) (seen d memory) t r mine valid rings in (ok_same u _ (sym granted ∙ g.0), g.1)

  tick : (s : Result (Unit {0}) RackFault) × Ticks (coding_of d) (model_of d memory) t.line s (model_of e after)
  tick =
      let rung : Ticket Ringing = ticket t.mark t.line in
      let a = admitted (seen d memory) (seen e after) rung _ (mine ∙ sym first.mark) f (subst (λ (x : Ticket Ringing). BoardTicks (seen d memory) (seen e after) x f) ring.0 ticks) in
      (a.0, a.1.0)

  -- no other line is changed, and this one rings
  kept : OnlyLine (model_of d memory) t.line (model_of e after) × Valid (model_of e after) t.line state.Ringing
  kept =
      let that = that_line (model_of b memory) (model_of d memory) t.line _ (ap (λ (x : Model). x.lines) ring.1.1) (omega (arith, valid.0, b.rack.inner.many)) in
      let lines = written_lines kind.coded kind.wide (model_of d memory) (model_of e after) t.line kind.silent tick.0 d.rack.inner.many tick.1.1 valid.0 in
      (lines.0, (valid.0, lines.1 ∙ ap (λ (l : Line). l.state) that))

  -- so it is closed
  pub closed : (g : Board S K X supply kind) (c : Result (Unit {0}) (Declined (Ticket Ringing))) → BoardCloses (seen e after) (seen g after) u c → (c ≡ Ok tt) × Closes (rule_of e) (model_of e after) t.line (Ok tt) (model_of g after)
  closed g c closes =
      let rung : Ticket Ringing = ticket t.mark t.line in
      close_granted (seen e after) (seen g after) rung c (mine ∙ sym first.mark ∙ sym second.mark) kept.1 (subst (λ (x : Ticket Ringing). BoardCloses (seen e after) (seen g after) x c) ring.0 closes)

  -- tapped and closed
  pub left : (g : Board S K X supply kind) (h : Result X BoardFault) (c : Result (Unit {0}) (Declined (Ticket Ringing))) → BoardTaps (seen e after) u 1 h → BoardCloses (seen e after) (seen g after) u c → Leaves (seen b memory) (seen g after) t.line h
  left g h c taps closes =
      let k = t.line in
      let rung : Ticket Ringing = ticket t.mark t.line in
      let tap = admitted (seen e after) (seen e after) rung _ (mine ∙ sym first.mark ∙ sym second.mark) h (subst (λ (x : Ticket Ringing). BoardTaps (seen e after) x 1 h) ring.0 taps) in
      let close = (closed g c closes).1 in
      let same = (same_boards b d e first second).rule in
      record {
        how = record { ticked = tick.0; tapped = tap.0 };
        ran = (
          model_of d memory,
          (Ok tt, ring.1, refl),
          (
            model_of e after,
            (tick.0, tick.1, refl),
            (model_of e after, (ap heard tap.1.0, refl), (model_of g after, step_same (rule_of b) (rule_of e) same (coding_of b) (model_of e after) (model_of g after) (Close k) (Ok Done) (Ok tt, close, refl), refl)),
          ),
        );
        heard = tap.2;
        only = λ j ne. only_line (model_of e after) (model_of g after) k _ close.1.lines j ne ∙ kept.0 j ne ∙ only_line (model_of b memory) (model_of d memory) k _ (ap (λ (x : Model). x.lines) ring.1.1) j ne;
      }
