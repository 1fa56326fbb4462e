-- What each call of a board answers and leaves, by the relations of the rack's own contracts, and that it keeps the law of the rack.
use Rattle.std.specs.Prelude.{◌≡◌, ℕ, Ok, Err, Result, MatchResult}
use Rattle.rack.specs.declared.fault.RackFault.{RackFault}
use Rattle.rack.specs.Model.{Opens, Feeds, Ticks, tap_answer, Rings, Closes}
use Rattle.trace.specs.declared.call.Call.TheVariants as call
use Rattle.trace.specs.Steps.{opened, acknowledged, heard}
use Rattle.trace.specs.Law.{KeepsLaw}
use Rattle.board.specs.declared.fault.BoardFault.{BoardFault}
use Rattle.board.specs.declared.ticket.Declined.{Declined}
use Rattle.board.specs.declared.ticket.Opened.{Opened}
use Rattle.board.specs.declared.ticket.Playing.{Playing}
use Rattle.board.specs.declared.ticket.Ringing.{Ringing}
use Rattle.board.specs.declared.ticket.Ticket.{Ticket}
use Rattle.board.specs.Faults.{passed}
use Rattle.board.specs.Tickets.{own_line}
use Rattle.board.specs.Views.{BoardModel}

abbrev pub ticket : {P : Type 0} → (mark line : ℕ) → Ticket P
ticket mark line = record { mark = mark; line = line; phase = record {} }

-- the answer to an open: a ticket with the board's mark and the line, and the block's offset
abbrev pub opened_by : (own line : ℕ) → Result ℕ RackFault → Result Opened RackFault
opened_by own k (Ok offset) = Ok (record { ticket = ticket own k; offset = offset })
opened_by own k (Err f) = Err f

-- the answer to a ring: a ringing ticket for the playing one, which else comes back
abbrev pub rung_by : Ticket Playing → Result (Unit {0}) BoardFault → Result (Ticket Ringing) (Declined (Ticket Playing))
rung_by t (Ok u) = Ok (ticket t.mark t.line)
rung_by t (Err f) = Err (record { ticket = t; fault = f })

-- the answer to a close: the ticket is spent, or comes back
abbrev pub closed_by : Ticket Ringing → Result (Unit {0}) BoardFault → Result (Unit {0}) (Declined (Ticket Ringing))
closed_by t (Ok u) = Ok u
closed_by t (Err f) = Err (record { ticket = t; fault = f })

-- the same answers without their tickets
abbrev pub verdict : {A T : Type 0} → Result A (Declined T) → Result (Unit {0}) BoardFault
verdict (Ok x) = Ok tt
verdict (Err d) = Err d.fault

-- a board before a call, and after it
module _ {X : Type 0} (b d : BoardModel X) where
  -- a call with the board's own ticket does what the rack does; with another's it is refused, and nothing changes
  abbrev pub Admits : {A P : Type 0} → Ticket P → (does : Result A RackFault → Type 0) → Result A BoardFault → Type 0
  Admits {A} t does r = MatchResult (own_line b.mark t) (λ _. (s : Result A RackFault) × does s × (r ≡ passed s)) (λ f. (r ≡ Err f) × (d.rack ≡ b.rack))

  abbrev pub BoardOpens : (line length : ℕ) → Result Opened RackFault → Type 0
  BoardOpens k len r =
      (s : Result ℕ RackFault) × Opens b.rule b.coding.wide b.rack k len s d.rack × KeepsLaw b.rule b.coding b.rack (call.Open k len) (opened s) d.rack
      × (r ≡ opened_by b.mark k s)

  abbrev pub BoardFeeds : Ticket Playing → (x : X) → Result (Unit {0}) BoardFault → Type 0
  BoardFeeds t x =
      Admits t (λ s. Feeds b.coding b.rack t.line x s d.rack × KeepsLaw b.rule b.coding b.rack (call.Feed t.line x) (acknowledged s) d.rack)

  abbrev pub BoardTicks : Ticket Ringing → Result (Unit {0}) BoardFault → Type 0
  BoardTicks t =
      Admits t (λ s. Ticks b.coding b.rack t.line s d.rack × KeepsLaw b.rule b.coding b.rack (call.Tick t.line) (acknowledged s) d.rack)

  abbrev pub RingsLine : Ticket Playing → Result (Unit {0}) BoardFault → Type 0
  RingsLine t = Admits t (λ s. Rings b.rack t.line s d.rack × KeepsLaw b.rule b.coding b.rack (call.Ring t.line) (acknowledged s) d.rack)

  abbrev pub BoardRings : Ticket Playing → Result (Ticket Ringing) (Declined (Ticket Playing)) → Type 0
  BoardRings t r = (a : Result (Unit {0}) BoardFault) × RingsLine t a × (r ≡ rung_by t a)

  abbrev pub ClosesLine : Ticket Ringing → Result (Unit {0}) BoardFault → Type 0
  ClosesLine t = Admits t (λ s. Closes b.rule b.rack t.line s d.rack × KeepsLaw b.rule b.coding b.rack (call.Close t.line) (acknowledged s) d.rack)

  abbrev pub BoardCloses : Ticket Ringing → Result (Unit {0}) (Declined (Ticket Ringing)) → Type 0
  BoardCloses t r = (a : Result (Unit {0}) BoardFault) × ClosesLine t a × (r ≡ closed_by t a)

-- a tap changes nothing
abbrev pub BoardTaps : {X P : Type 0} → BoardModel X → Ticket P → (d : ℕ) → Result X BoardFault → Type 0
BoardTaps b t d =
    Admits b b t (λ s. (s ≡ tap_answer b.coding b.rack t.line d) × KeepsLaw b.rule b.coding b.rack (call.Tap t.line d) (heard s) b.rack)
