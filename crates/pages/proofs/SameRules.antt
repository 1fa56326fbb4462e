-- A rule says what it says itself, and rules that say the same may be told one after another.
use Rattle.std.proofs.Common.{refl, ◌∙◌}
use Rattle.pages.specs.Rule.{Rule, SameRule}

pub same_rule : (R : Rule) → SameRule R R
same_rule R = record { largest = refl; fits = λ t c. ((λ h. h), (λ h. h)); chooses = λ t c p. ((λ h. h), (λ h. h)) }

pub same_next : (R Q T : Rule) → SameRule R Q → SameRule Q T → SameRule R T
same_next R Q T a b =
    record {
      largest = b.largest ∙ a.largest;
      fits = λ t c. ((λ h. (b.fits t c).0 ((a.fits t c).0 h)), (λ h. (a.fits t c).1 ((b.fits t c).1 h)));
      chooses = λ t c p. ((λ h. (b.chooses t c p).0 ((a.chooses t c p).0 h)), (λ h. (a.chooses t c p).1 ((b.chooses t c p).1 h)));
    }
