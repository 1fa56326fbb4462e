-- Lemmas on the placement of the first fit: a run has its own pages alone, at any page.
use Rattle.std.specs.Prelude.{◌≡◌, ℕ, List, refl}
use Rattle.std.proofs.Common.{sym, subst, arith}
use Rattle.std.proofs.Math.Nat.{mod-one}
use Rattle.std.proofs.lemmas.List.{map-id}
use Rattle.pages.specs.Spans.{good_span}
use Rattle.pages.specs.Table.{Free}
use Rattle.pages.specs.FirstFitRule.{FreeRow, first_fit}
use Rattle.pages.specs.Placement.{GoodSpans, Reserving, SaysRoom, lowest_fit}
use Rattle.std.proofs.lemmas.Bool.Decides.{nat_tests}

pub own_pages : Reserving (λ c. c) (λ _. 1)
own_pages = record { none = refl; holds = λ c. omega arith; some = λ c p. omega arith; within = λ c p. omega arith }

pub good_spans : GoodSpans good_span (λ c. c)
good_spans = record { some = λ n h. grind (arith, nat_tests); most = λ n h. grind (arith, nat_tests); wide = λ n h c l. l; one = refl }

pub free_row : SaysRoom (λ c. c) (λ _. 1) FreeRow
free_row n t c p _ = (
  (λ h. (mod-one p, h.0, subst (λ (u : List ℕ). Free u p c) (sym (map-id t)) h.1)),
  λ h. (h.1, subst (λ (u : List ℕ). Free u p c) (map-id t) h.2),
)

-- the rule of the first fit is that of a supply that takes the lowest place with room for a row
pub first_fit_is : (n : ℕ) → lowest_fit FreeRow n ≡ first_fit n
first_fit_is n = refl
