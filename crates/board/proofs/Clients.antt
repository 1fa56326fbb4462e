-- For clients: what a board does with a valid ticket, and which tickets are valid after it.
use Rattle.std.proofs.Common.{◌≡◌, ℕ, ◌<◌, List, length, set, Ok, Err, Result, MatchResult, sym, refl, ap, ◌∙◌, subst, arith}
use Rattle.std.proofs.lemmas.List.{get_or-set_same, get_or-set_other}
use Rattle.pages.specs.declared.supply.Supply.{Ghosts as SupplyGhosts}
use Rattle.samples.specs.declared.kind.Kind.{Ghosts as KindGhosts}
use Rattle.pool.specs.declared.block.Block.{Block}
use Rattle.pool.specs.declared.fault.PoolFault.{PoolFault}
use Rattle.rack.specs.declared.fault.RackFault.{RackFault}
use Rattle.rack.specs.declared.line.Line.{Line}
use Rattle.rack.specs.declared.state.State.{State}
use Rattle.rack.specs.declared.state.State.TheVariants as state
use Rattle.rack.specs.declared.state.Verb.TheVariants as verb
use Rattle.rack.specs.Lines.{unused, line, used, fresh}
use Rattle.pages.specs.Rule.{Rule}
use Rattle.rack.specs.Model.{Model, done, Opens, OpensAs, open_checks, open_answer, open_lines, Written, Rings, Closes}
use Rattle.pages.proofs.SameRules.{same_next}
use Rattle.trace.proofs.Verdicts.{not_ok, ok_same, checks_ok}
use Rattle.board.specs.declared.board.Board.{Board}
use Rattle.board.specs.declared.ticket.Declined.{Declined}
use Rattle.board.specs.declared.ticket.Opened.{Opened}
use Rattle.board.specs.declared.ticket.Playing.{Playing}
use Rattle.board.specs.declared.ticket.Ringing.{Ringing}
use Rattle.board.specs.declared.ticket.Ticket.{Ticket}
use Rattle.board.specs.Faults.{passed}
use Rattle.board.specs.Calls.{ticket, opened_by, rung_by, closed_by, BoardOpens, BoardRings, BoardCloses}
use Rattle.board.specs.Tickets.{Valid, OnlyLine}
use Rattle.board.specs.Views.{BoardModel, rule_of, SameBoard}
use Rattle.board.proofs.Admission.{admitted}
use Rattle.board.proofs.Welcomes.{valid_turns}

-- what two calls kept
pub same_boards : {S K X : Type 0} {supply : SupplyGhosts S} {kind : KindGhosts K X} (b d e : Board S K X supply kind) → SameBoard b d → SameBoard d e → SameBoard b e
same_boards b d e s t = record { mark = t.mark ∙ s.mark; rule = same_next (rule_of b) (rule_of d) (rule_of e) s.rule t.rule }

-- one record is changed
module _ (m n : Model) (k : ℕ) (l : Line) (e : n.lines ≡ set m.lines k l) where
  pub only_line : OnlyLine m k n
  only_line j ne = ap (λ (ls : List Line). line ls j) e ∙ get_or-set_other m.lines k j l unused ne

  pub that_line : k < length m.lines → line n.lines k ≡ l
  that_line h = ap (λ (ls : List Line). line ls k) e ∙ get_or-set_same m.lines k l unused h

-- a ticket of another line is as valid as before
pub still_valid : (m n : Model) (k : ℕ) → OnlyLine m k n → (j : ℕ) (s : State) → (j ≡ k → ⊥) → Valid m j s → Valid n j s
still_valid m n k only j s ne v = (v.0, ap (λ (l : Line). l.state) (only j ne) ∙ v.1)

-- a granted open: the line was unused
pub open_lines_lem : (R : Rule) (w : ℕ) (m n : Model) (k len o : ℕ) → Opens R w m k len (Ok o) n → (k < 64) × ((line m.lines k).state ≡ state.Unused) × (n.lines ≡ set m.lines k (fresh o len))
open_lines_lem R w m n k len o h = go (open_checks w m k len) refl h
  where
    idle : (s : State) → used s ≡ 0 → s ≡ state.Unused
    idle state.Unused e = refl
    idle state.Playing e = absurd (omega arith)
    idle state.Ringing e = absurd (omega arith)

    taken : (a : Result Block PoolFault) → ◌≡◌ {A = Result ℕ RackFault} (Ok o) (open_answer k a) → n.lines ≡ open_lines m.lines k len a → n.lines ≡ set m.lines k (fresh o len)
    taken (Ok b) e is = is ∙ ap (λ (x : ℕ). set m.lines k (fresh x len)) (sym (ok_same o b.offset e))
    taken (Err f) e is = not_ok _ o (sym e)

    go : (c : Result State RackFault) → open_checks w m k len ≡ c → OpensAs R w m k len c (Ok o) n → (k < 64) × ((line m.lines k).state ≡ state.Unused) × (n.lines ≡ set m.lines k (fresh o len))
    go (Ok c) e x = let f = checks_ok w m k len c e in (f.0, idle (line m.lines k).state f.3, taken x.0 x.2 x.3)
    go (Err f) e x = not_ok f o (sym x.0)

-- an open that is refused changes no line
pub refused_lines : (R : Rule) (w : ℕ) (m n : Model) (k len : ℕ) (f : RackFault) → Opens R w m k len (Err f) n → n.lines ≡ m.lines
refused_lines R w m n k len f h = go (open_checks w m k len) h
  where
    asked : (a : Result Block PoolFault) → ◌≡◌ {A = Result ℕ RackFault} (Err f) (open_answer k a) → n.lines ≡ open_lines m.lines k len a → n.lines ≡ m.lines
    asked (Ok b) e is = not_ok f b.offset e
    asked (Err g) e is = is

    go : (c : Result State RackFault) → OpensAs R w m k len c (Err f) n → n.lines ≡ m.lines
    go (Ok c) x = asked x.0 x.2 x.3
    go (Err g) x = ap (λ (y : Model). y.lines) x.1

-- a feed or a tick, granted or not, changes the record of its line alone, and not its state
pub written_lines : {X : Type 0} (coded : X → List ℕ) (w : ℕ) (m n : Model) (k : ℕ) (x : X) (r : Result (Unit {0}) RackFault) → length m.lines ≡ 64 → MatchResult r (λ _. Written coded w m k x n) (λ _. n ≡ m) → k < 64
    → OnlyLine m k n × ((line n.lines k).state ≡ (line m.lines k).state)
written_lines coded w m n k x (Ok u) many h low = (only_line m n k _ h.lines, ap (λ (l : Line). l.state) (that_line m n k _ h.lines (omega arith)))
written_lines coded w m n k x (Err f) many h low = ((λ j ne. ap (λ (y : Model). line y.lines j) h), ap (λ (y : Model). (line y.lines k).state) h)

module _ {X : Type 0} (b d : BoardModel X) where
  -- a granted open answers the board's own ticket
  pub open_granted : (k len : ℕ) (o : Opened) → BoardOpens b d k len (Ok o) → (o.ticket ≡ ticket b.mark k) × Opens b.rule b.coding.wide b.rack k len (Ok o.offset) d.rack
  open_granted k len o (s, h, law, is) = go s h is
    where
      go : (s : Result ℕ RackFault) → Opens b.rule b.coding.wide b.rack k len s d.rack → Ok o ≡ opened_by b.mark k s → (o.ticket ≡ ticket b.mark k) × Opens b.rule b.coding.wide b.rack k len (Ok o.offset) d.rack
      go (Ok at) h is =
          let same = ok_same o _ is in (
            ap (λ (x : Opened). x.ticket) same,
            subst (λ (x : ℕ). Opens b.rule b.coding.wide b.rack k len (Ok x) d.rack) (sym (ap (λ (x : Opened). x.offset) same)) h,
          )
      go (Err g) h is = not_ok g o (sym is)

  pub open_declined : (k len : ℕ) (f : RackFault) → BoardOpens b d k len (Err f) → Opens b.rule b.coding.wide b.rack k len (Err f) d.rack
  open_declined k len f (s, h, law, is) = go s h is
    where
      go : (s : Result ℕ RackFault) → Opens b.rule b.coding.wide b.rack k len s d.rack → Err f ≡ opened_by b.mark k s → Opens b.rule b.coding.wide b.rack k len (Err f) d.rack
      go (Ok at) h is = not_ok f _ is
      go (Err g) h is =
          let same : f ≡ g = cc in
          subst (λ (x : RackFault). Opens b.rule b.coding.wide b.rack k len (Err x) d.rack) (sym same) h

  -- a valid playing ticket is always rung
  pub ring_granted : (t : Ticket Playing) (r : Result (Ticket Ringing) (Declined (Ticket Playing))) → t.mark ≡ b.mark → Valid b.rack t.line state.Playing → BoardRings b d t r
      → (r ≡ Ok (ticket t.mark t.line)) × Rings b.rack t.line (Ok tt) d.rack
  ring_granted t r own v (a, h, is) =
      let s = admitted b d t _ own a h in
      let turn = ap done (valid_turns verb.Ring b.rack t.line state.Playing state.Ringing v refl) in
      let ok : s.0 ≡ Ok tt = s.1.0.0 ∙ turn in
      (is ∙ ap (rung_by t) (s.2 ∙ ap passed ok), subst (λ (x : Result (Unit {0}) RackFault). Rings b.rack t.line x d.rack) ok s.1.0)

  -- a valid ringing ticket always closes its line
  pub close_granted : (t : Ticket Ringing) (r : Result (Unit {0}) (Declined (Ticket Ringing))) → t.mark ≡ b.mark → Valid b.rack t.line state.Ringing → BoardCloses b d t r → (r ≡ Ok tt) × Closes b.rule b.rack t.line (Ok tt) d.rack
  close_granted t r own v (a, h, is) =
      let s = admitted b d t _ own a h in
      let turn = ap done (valid_turns verb.Close b.rack t.line state.Ringing state.Unused v refl) in
      let ok : s.0 ≡ Ok tt = s.1.0.0 ∙ turn in
      (is ∙ ap (closed_by t) (s.2 ∙ ap passed ok), subst (λ (x : Result (Unit {0}) RackFault). Closes b.rule b.rack t.line x d.rack) ok s.1.0)
