-- Whose tickets a board takes, and what is true of tickets that were answered and not spent: they are never refused for the state of their line.
use Rattle.std.specs.Prelude.{◌≡◌, ◌≢◌, ℕ, ◌<◌, cond, List, Ok, Err, Result, ◌==◌}
use Rattle.rack.specs.declared.state.State.{State}
use Rattle.rack.specs.Limits.{line_count}
use Rattle.rack.specs.Lines.{line}
use Rattle.rack.specs.Model.{Model, fresh_model}
use Rattle.trace.specs.Steps.{Deed, Ran}
use Rattle.trace.specs.Book.{Book, book}
use Rattle.trace.specs.Law.{Active, book_state}
use Rattle.board.specs.declared.fault.BoardFault.{BoardFault}
use Rattle.board.specs.declared.fault.BoardFault.TheVariants.{OtherMark}
use Rattle.board.specs.declared.ticket.Ticket.{Ticket}
use Rattle.board.specs.Faults.{number}
use Rattle.board.specs.Views.{BoardModel}

-- what stands for a ticket with such a mark and such a line
abbrev pub standing : (mark line : ℕ) → Ticket (Unit {0})
standing mark line = record { mark = mark; line = line; phase = record {} }

-- the line of a ticket with the board's mark; one with another is refused by 40, which tells the line
abbrev pub own_line : {P : Type 0} → (own : ℕ) → Ticket P → Result ℕ BoardFault
own_line own t = cond (t.mark == own) (Ok t.line) (Err (OtherMark t.line))

-- a ticket for the line in the state s speaks true: there is such a line, and that is its state
abbrev pub Valid : Model → (line : ℕ) → State → Type 0
Valid m k s = (k < line_count) × ((line m.lines k).state ≡ s)

-- no line but k is changed
abbrev pub OnlyLine : Model → (k : ℕ) → Model → Type 0
OnlyLine m k n = (j : ℕ) → (j ≢ k) → line n.lines j ≡ line m.lines j

-- a ticket for the line in the state s is out: by the book of the board's calls the line is in use and in that state. The book makes a line playing
-- with a granted open, which answers the playing ticket; ringing with a granted ring, which spends that one and answers the ringing
-- ticket; and idle with a granted close, which spends it
abbrev pub TicketOut : {X : Type 0} → Book X → (line : ℕ) → State → Type 0
TicketOut b k s = Active (b k) × (book_state (b k) ≡ s)

-- the answer is not that there is no such line, that it is unused, that it rings or that it plays
abbrev pub Welcome : {A : Type 0} → Result A BoardFault → Type 0
Welcome (Ok x) = Unit {0}
Welcome (Err f) = (number f ≢ 31) × (number f ≢ 35) × (number f ≢ 36) × (number f ≢ 37)

-- a call with a ticket for the line in the state s was answered by r: whatever calls led from a new board over a supply with nothing out to b, if
-- the ticket was out, the answer is none of these
abbrev pub Honours : {X A P : Type 0} → (b : BoardModel X) → Ticket P → State → Result A BoardFault → Type 0
Honours {X} b t s r =
    (span : ℕ) (memory : List ℕ) (log : List (Deed X)) → Ran b.rule b.coding (fresh_model span memory) log b.rack → TicketOut (book b.coding log) t.line s → Welcome r
