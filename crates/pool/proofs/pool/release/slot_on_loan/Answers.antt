-- One slot begins at an offset.
use Rattle.std.proofs.Common.{◌≡◌, ℕ, ◌-◌, ◌*◌, false, sym, refl, subst, ◌∙◌, arith}
use Rattle.runs.specs.declared.shape.Shape.{Shape}
use Rattle.runs.specs.Shapes.{SlotStarts}
use Rattle.runs.specs.Table.{is_on_loan}
use Rattle.pool.specs.Release.{Begins}
use Rattle.pool.proofs.Sound.{one_slot}
use Rattle.pool.proofs.pool.release.slot_on_loan.Goals as goal

pub returns-then-not-is_on_loan : goal.returns-then-not-is_on_loan
returns-then-not-is_on_loan c =
    let r = c.args.run in
    let h = subst (λ (z : Shape). SlotStarts z (c.args.offset - c.first.result * 512) c.in-Some.slot) c.shape.ensures c.in-Some.ensures in
    let b : Begins r c.in-Some.slot c.args.offset = (h.0, omega (arith, h.1, c.requires, c.first.ensures.is)) in
    record {
      between = λ n. absurd (n c.in-Some.slot b);
      idle = λ s d. (subst (λ (n : ℕ). is_on_loan r n ≡ false) (one_slot r c.in-Some.slot s c.args.offset b d) (sym c.is_on_loan.ensures ∙ c.if-not-is_on_loan.true), (refl, refl));
    }
