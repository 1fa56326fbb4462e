-- Each call of a board with its own ticket: what it does by the rack's own contract, that the law is kept, and that a ticket that is out is welcome.
use Rattle.std.proofs.Common.{◌≡◌, ℕ, Bool, true, false, cond, ltb, length, Ok, Err, Result, refl, ap, ◌∙◌, subst, arith}
use Rattle.rack.specs.declared.fault.RackFault.{RackFault}
use Rattle.rack.specs.declared.fault.RackFault.TheVariants.{TooFar}
use Rattle.rack.specs.declared.state.State.{State}
use Rattle.rack.specs.declared.state.State.TheVariants as state
use Rattle.rack.specs.declared.state.Verb.TheVariants as verb
use Rattle.rack.specs.Lines.{line, tapped}
use Rattle.rack.specs.Model.{turns, allowed, done, whole, Opens, Feeds, Ticks, tap_answer, Rings, Closes}
use Rattle.trace.specs.declared.call.Call.TheVariants.{Open, Feed, Tick, Tap, Ring, Close}
use Rattle.trace.specs.Steps.{opened, acknowledged, heard}
use Rattle.trace.proofs.Promises.{Promises}
use Rattle.trace.proofs.Runs.{keeps_law}
use Rattle.board.specs.declared.fault.BoardFault.{BoardFault}
use Rattle.board.specs.declared.ticket.Opened.{Opened}
use Rattle.board.specs.declared.ticket.Playing.{Playing}
use Rattle.board.specs.declared.ticket.Ringing.{Ringing}
use Rattle.board.specs.declared.ticket.Ticket.{Ticket}
use Rattle.board.specs.Faults.{passed}
use Rattle.board.specs.Calls.{opened_by, BoardOpens, BoardFeeds, BoardTicks, BoardTaps, RingsLine, ClosesLine}
use Rattle.board.specs.Tickets.{own_line, Welcome, Honours}
use Rattle.board.specs.Views.{BoardModel}
use Rattle.board.proofs.Admission.{own_is, admits}
use Rattle.board.proofs.Welcomes.{out_state, whole_welcome, granted}

-- a call without a value is allowed or not
done_allowed : (a : Result State RackFault) → done a ≡ allowed a (Ok tt)
done_allowed (Ok s) = refl
done_allowed (Err f) = refl

module _ {X : Type 0} (b d : BoardModel X) (p : Promises b.rule b.coding) where
  pub opens : (k len : ℕ) (s : Result ℕ RackFault) → Opens b.rule b.coding.wide b.rack k len s d.rack → (r : Result Opened RackFault) → r ≡ opened_by b.mark k s → BoardOpens b d k len r
  opens k len s h r is = (s, h, keeps_law p b.rack d.rack (Open k len) (opened s) (s, h, refl), is)

module _ {X : Type 0} (b d : BoardModel X) (p : Promises b.rule b.coding) (many : length b.rack.lines ≡ 64) where
  pub feeds : (t : Ticket Playing) (x : X) (k : ℕ) → Ok k ≡ own_line b.mark t → (s : Result (Unit {0}) RackFault) → Feeds b.coding b.rack k x s d.rack → (r : Result (Unit {0}) BoardFault)
      → r ≡ passed s → BoardFeeds b d t x r × Honours b t state.Playing r
  feeds t x k own s h r is =
      let at = subst (λ (i : ℕ). Feeds b.coding b.rack i x s d.rack) (own_is b.mark t k own) h in (
        admits b d t _ k own s (at, keeps_law p b.rack d.rack (Feed t.line x) (acknowledged s) (s, at, refl)) r is,
        granted b p many verb.Feed state.Playing state.Playing t refl (whole b.rack t.line tt) (whole_welcome b t.line tt) r (is ∙ ap passed at.0),
      )

  pub ticks : (t : Ticket Ringing) (k : ℕ) → Ok k ≡ own_line b.mark t → (s : Result (Unit {0}) RackFault) → Ticks b.coding b.rack k s d.rack → (r : Result (Unit {0}) BoardFault)
      → r ≡ passed s → BoardTicks b d t r × Honours b t state.Ringing r
  ticks t k own s h r is =
      let at = subst (λ (i : ℕ). Ticks b.coding b.rack i s d.rack) (own_is b.mark t k own) h in (
        admits b d t _ k own s (at, keeps_law p b.rack d.rack (Tick t.line) (acknowledged s) (s, at, refl)) r is,
        granted b p many verb.Tick state.Ringing state.Ringing t refl (whole b.rack t.line tt) (whole_welcome b t.line tt) r (is ∙ ap passed at.0),
      )

  pub rings : (t : Ticket Playing) (k : ℕ) → Ok k ≡ own_line b.mark t → (s : Result (Unit {0}) RackFault) → Rings b.rack k s d.rack → (r : Result (Unit {0}) BoardFault) → r ≡ passed s
      → RingsLine b d t r × Honours b t state.Playing r
  rings t k own s h r is =
      let at = subst (λ (i : ℕ). Rings b.rack i s d.rack) (own_is b.mark t k own) h in (
        admits b d t _ k own s (at, keeps_law p b.rack d.rack (Ring t.line) (acknowledged s) (s, at, refl)) r is,
        granted b p many verb.Ring state.Playing state.Ringing t refl (Ok tt) tt r (is ∙ ap passed (at.0 ∙ done_allowed (turns verb.Ring b.rack.lines t.line))),
      )

  pub closes : (t : Ticket Ringing) (k : ℕ) → Ok k ≡ own_line b.mark t → (s : Result (Unit {0}) RackFault) → Closes b.rule b.rack k s d.rack → (r : Result (Unit {0}) BoardFault) → r ≡ passed s
      → ClosesLine b d t r × Honours b t state.Ringing r
  closes t k own s h r is =
      let at = subst (λ (i : ℕ). Closes b.rule b.rack i s d.rack) (own_is b.mark t k own) h in (
        admits b d t _ k own s (at, keeps_law p b.rack d.rack (Close t.line) (acknowledged s) (s, at, refl)) r is,
        granted b p many verb.Close state.Ringing state.Unused t refl (Ok tt) tt r (is ∙ ap passed (at.0 ∙ done_allowed (turns verb.Close b.rack.lines t.line))),
      )

module _ {X : Type 0} (b : BoardModel X) where
  -- past the state a tap is refused for its distance or for the memory
  tap_rest : (k d : ℕ) → Welcome (passed (cond (ltb d (line b.rack.lines k).length) (whole b.rack k (tapped b.coding.heard b.coding.silent b.coding.wide b.rack.memory (line b.rack.lines k) d)) (Err (TooFar k))))
  tap_rest k d = go (ltb d (line b.rack.lines k).length)
    where
      x : X
      x = tapped b.coding.heard b.coding.silent b.coding.wide b.rack.memory (line b.rack.lines k) d

      go : (near : Bool) → Welcome (passed (cond near (whole b.rack k x) (Err (TooFar k))))
      go true = whole_welcome b k x
      go false = ((λ e. omega arith), (λ e. omega arith), (λ e. omega arith), (λ e. omega arith))

module _ {X : Type 0} (b : BoardModel X) (p : Promises b.rule b.coding) (many : length b.rack.lines ≡ 64) where
  -- a ticket of either state is welcome
  tap_welcome : {P : Type 0} (s : State) (t : Ticket P) (d : ℕ) (r : Result X BoardFault) → r ≡ passed (tap_answer b.coding b.rack t.line d) → Honours b t s r
  tap_welcome state.Unused t d r is = λ span memory log ran out. absurd ((out_state b p many t.line state.Unused span memory log ran out).1 refl)
  tap_welcome state.Playing t d r is = granted b p many verb.Tap state.Playing state.Playing t refl _ (tap_rest b t.line d) r is
  tap_welcome state.Ringing t d r is = granted b p many verb.Tap state.Ringing state.Ringing t refl _ (tap_rest b t.line d) r is

  pub taps : {P : Type 0} (state : State) (t : Ticket P) (d k : ℕ) → Ok k ≡ own_line b.mark t → (s : Result X RackFault) → s ≡ tap_answer b.coding b.rack k d → (r : Result X BoardFault)
      → r ≡ passed s → BoardTaps b t d r × Honours b t state r
  taps state t d k own s h r is =
      let at = subst (λ (i : ℕ). s ≡ tap_answer b.coding b.rack i d) (own_is b.mark t k own) h in (
        admits b b t _ k own s (at, keeps_law p b.rack b.rack (Tap t.line d) (heard s) (ap heard at, refl)) r is,
        tap_welcome state t d r (is ∙ ap passed at),
      )
