-- A ticket that is out is welcome: its line is in its state.
use Rattle.std.proofs.Common.{◌≡◌, ℕ, ◌*◌, ◌≤◌, Bool, true, false, cond, eqb, ltb, List, length, Ok, Err, Result, sym, ap, ◌∙◌, subst, ⊎_elim, arith}
use Rattle.std.proofs.lemmas.List.{get_or_past}
use Rattle.std.proofs.lemmas.Bool.{cases_lt, lt-ltb, cond-true}
use Rattle.rack.specs.declared.fault.RackFault.{RackFault}
use Rattle.rack.specs.declared.fault.RackFault.TheVariants.{WrongMemory}
use Rattle.rack.specs.declared.line.Line.{Line}
use Rattle.rack.specs.declared.state.State.{State}
use Rattle.rack.specs.declared.state.State.TheVariants.{Unused}
use Rattle.rack.specs.declared.state.Verb.{Verb}
use Rattle.rack.specs.Lines.{unused}
use Rattle.rack.specs.Turns.{turned}
use Rattle.rack.specs.Model.{Model, fresh_model, turns, allowed, whole}
use Rattle.trace.specs.Steps.{Deed, Ran}
use Rattle.trace.specs.Book.{Phase, playing, ringing, Entry, idle, active, book}
use Rattle.trace.specs.Law.{Active, state_of, book_state}
use Rattle.trace.proofs.Promises.{Promises}
use Rattle.trace.proofs.Runs.{every_state}
use Rattle.board.specs.declared.fault.BoardFault.{BoardFault}
use Rattle.board.specs.declared.ticket.Ticket.{Ticket}
use Rattle.board.specs.Faults.{passed}
use Rattle.board.specs.Tickets.{Valid, TicketOut, Welcome, Honours}
use Rattle.board.specs.Views.{BoardModel}

-- a valid ticket is granted what its state grants
pub valid_turns : (v : Verb) (m : Model) (k : ℕ) (s t : State) → Valid m k s → turned s v k ≡ Ok t → turns v m.lines k ≡ Ok t
valid_turns v m k s t h e = cond-true (ltb k 64) _ _ (lt-ltb k 64 h.0) ∙ ap (λ (x : State). turned x v k) h.1 ∙ e

module _ {X : Type 0} (b : BoardModel X) where
  pub whole_welcome : {A : Type 0} (k : ℕ) (x : A) → Welcome (passed (whole b.rack k x))
  whole_welcome k x = go (eqb (length b.rack.memory) (length b.rack.pages * 512))
    where
      go : (whole : Bool) → Welcome (passed (cond whole (Ok x) (Err (WrongMemory k))))
      go true = tt
      go false = ((λ e. omega arith), (λ e. omega arith), (λ e. omega arith), (λ e. omega arith))

module _ {X : Type 0} (b : BoardModel X) (p : Promises b.rule b.coding) (many : length b.rack.lines ≡ 64) where
  -- the line of a ticket that is out is in use, in the ticket's state
  pub out_state : (k : ℕ) (s : State) (span : ℕ) (memory : List ℕ) (log : List (Deed X)) → Ran b.rule b.coding (fresh_model span memory) log b.rack → TicketOut (book b.coding log) k s → Valid b.rack k s × (s ≡ Unused → ⊥)
  out_state k s span memory log ran out =
      let is = every_state b.coding p.long p.wide b.rule span memory log b.rack ran k in
      let past : 64 ≤ k → Unused ≡ book_state (book b.coding log k) = λ h. sym (ap (λ (l : Line). l.state) (get_or_past b.rack.lines k unused (omega arith))) ∙ is in (
        (⊎_elim (λ h. h) (λ h. absurd (used (book b.coding log k) out.0 (past h))) (cases_lt k 64), is ∙ out.1),
        λ e. used (book b.coding log k) out.0 (sym e ∙ sym out.1),
      )
    where
      phase : (q : Phase) → Unused ≡ state_of q → ⊥
      phase playing e = cc
      phase ringing e = cc

      used : (e : Entry X) → Active e → Unused ≡ book_state e → ⊥
      used idle a z = a
      used (active q len h o n) a z = phase q z

  -- a call that the ticket's state grants is welcome, if what comes after the state is
  pub granted : {A P : Type 0} (v : Verb) (s n : State) (t : Ticket P) → turned s v t.line ≡ Ok n → (rest : Result A RackFault) → Welcome (passed rest) → (r : Result A BoardFault)
      → r ≡ passed (allowed (turns v b.rack.lines t.line) rest) → Honours b t s r
  granted v s n t e rest w r is span memory log ran out =
      let o = out_state t.line s span memory log ran out in
      let same = ap (λ (a : Result State RackFault). passed (allowed a rest)) (valid_turns v b.rack t.line s n o.0 e) in
      subst Welcome (sym (is ∙ same)) w
