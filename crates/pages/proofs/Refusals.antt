-- A count for which no place is found is refused, as one that does not fit.
use Rattle.std.proofs.Common.{◌≡◌, ℕ, ◌<◌, ◌≤◌, List, Option, None, Ok, Err, Result, refl, sym, ◌∙◌, subst, arith}
use Rattle.std.proofs.lemmas.Bool.{false≢true}
use Rattle.std.specs.Option.{ok_or}
use Rattle.std.specs.Result.{IsErr, IsErrAnd}
use Rattle.pages.specs.declared.fault.SupplyFault.{SupplyFault}
use Rattle.pages.specs.declared.fault.SupplyFault.TheVariants.{NoFit}
use Rattle.pages.specs.declared.run.Run.{Run}
use Rattle.pages.specs.Rule.{Rule}
use Rattle.pages.specs.Calls.{Taken, NotTaken}

module _ (R : Rule) (c : ℕ) (t : List ℕ) (some : 0 < c) (most : c ≤ R.largest) (unfit : R.fits t c → ⊥) where
  pub no_fit : (e : SupplyFault) → e ≡ NoFit c → NotTaken R c t t e
  no_fit e d = subst (λ (y : SupplyFault). NotTaken R c t t y) (sym d) (record { kept = refl; told = refl; none = λ z. omega arith; above = λ z. omega arith; unfit = λ a b. (refl, unfit) })

  pub no_place : (o : Option ℕ) → o ≡ None → (e : SupplyFault) → Err e ≡ ok_or o (NoFit c) → (r : Result Run SupplyFault) → IsErr r → IsErrAnd r (λ x. x ≡ e) → Taken R c t t r
  no_place o n e w (Ok run) i f = absurd (false≢true i)
  no_place o n e w (Err x) i f =
      no_fit x (f ∙ subst (λ (y : Result ℕ SupplyFault). IsErrAnd y (λ z. e ≡ z)) (subst (λ (q : Option ℕ). Err e ≡ ok_or q (NoFit c)) n w) refl)
