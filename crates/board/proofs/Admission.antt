-- A ticket of the board's own mark, and one of another.
use Rattle.std.proofs.Common.{◌≡◌, ℕ, Bool, true, false, cond, eqb, Ok, Err, Result, sym, ap, ◌∙◌, subst}
use Rattle.std.proofs.lemmas.Bool.{eq-eqb}
use Rattle.std.proofs.lemmas.Result.{err_from_is_err_and}
use Rattle.std.specs.Result.{MatchResult, IsErrAnd}
use Rattle.rack.specs.declared.fault.RackFault.{RackFault}
use Rattle.board.specs.declared.fault.BoardFault.{BoardFault}
use Rattle.board.specs.declared.fault.BoardFault.TheVariants.{OtherMark, Rack}
use Rattle.board.specs.declared.ticket.Ticket.{Ticket}
use Rattle.board.specs.Faults.{passed}
use Rattle.board.specs.Tickets.{own_line}
use Rattle.board.specs.Views.{BoardModel}
use Rattle.board.specs.Calls.{Admits}

-- what a `?` answers is the refusal that it met
pub refused : {A E : Type 0} (P : Result A E → Type 0) (f : E) (r : Result A E) → IsErrAnd r (λ y. y ≡ f) → P (Err f) → P r
refused {A} {E} P f r h x = let p = err_from_is_err_and r h in subst P (sym p.1) (subst (λ (y : E). P (Err y)) (sym p.2) x)

-- the rack's refusal as the board's
pub passes : {A : Type 0} (s : Result A RackFault) (r : Result A BoardFault) → MatchResult s (λ x. r ≡ Ok x) (λ f. IsErrAnd r (λ y. y ≡ Rack f)) → r ≡ passed s
passes (Ok x) r h = h
passes (Err f) r h = let p = err_from_is_err_and r h in p.1 ∙ ap (λ (y : BoardFault). Err y) p.2

-- the ticket's line, once it was found to be the board's own
pub own_is : {P : Type 0} (own : ℕ) (t : Ticket P) (k : ℕ) → Ok k ≡ own_line own t → k ≡ t.line
own_is own t k = go (eqb t.mark own)
  where
    go : (b : Bool) → Ok k ≡ cond b (Ok t.line) (Err (OtherMark t.line)) → k ≡ t.line
    go true e = cc
    go false e = cc

module _ {X A P : Type 0} (b d : BoardModel X) (t : Ticket P) (does : Result A RackFault → Type 0) where
  pub admits : (k : ℕ) → Ok k ≡ own_line b.mark t → (s : Result A RackFault) → does s → (r : Result A BoardFault) → r ≡ passed s → Admits b d t does r
  admits k own s h r is = rw (← own) (s, h, is)

  pub admitted : t.mark ≡ b.mark → (r : Result A BoardFault) → Admits b d t does r → (s : Result A RackFault) × does s × (r ≡ passed s)
  admitted e r h = rw (eq-eqb t.mark b.mark e) at h
