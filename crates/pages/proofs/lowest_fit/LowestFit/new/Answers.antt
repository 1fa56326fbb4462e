-- The span that the check grants, over a blank table.
use Rattle.std.proofs.Common.{◌≡◌, ℕ, true, replicate, sym, ap, ◌∙◌, subst, arith}
use Rattle.std.proofs.lemmas.Bool.{cond-true, cond-false}
use Rattle.std.proofs.lemmas.List.{take-replicate, length-replicate}
use Rattle.pages.specs.Limits.{max_span}
use Rattle.pages.specs.Spans.{granted_span}
use Rattle.pages.specs.Tables.{get_or_zeros}
use Rattle.pages.specs.Placements.{reserved}
use Rattle.pages.proofs.Made.{passes, granted_good}
use Rattle.pages.proofs.lowest_fit.LowestFit.new.Goals as goal
use Rattle.pages.proofs.lowest_fit.LowestFit.new.Goals.{then-is_ok, else-is_ok}

pub returns-clause-span : goal.returns-clause-span
returns-clause-span g c =
    let n = c.args.span in
    let good = g.P.Placement.good n in
    let e = c.is_ok.ensures.value ∙ passes good n c.check.result c.check.ensures in
    elim c.if-is_ok.branch [ then-is_ok w ↦ w.result-is ∙ sym (cond-true good n 1 (sym e ∙ w.if-is_ok.true)) | else-is_ok w ↦ w.result-is ∙ sym (cond-false good n 1 (sym e ∙ w.if-is_ok.false)) ]

pub returns-clause-table : goal.returns-clause-table
returns-clause-table g c =
    let k = g.met.P.Placement.spans in
    let e = returns-clause-span g c in
    let h = granted_good g.P.Placement.good c.args.span k.one in
    take-replicate c.if-is_ok.result max_span 0 (omega (arith, e, k.most _ h)) ∙ ap (λ (m : ℕ). replicate m 0) e

pub invariant_of-result : goal.invariant_of-result
invariant_of-result g c =
    let n = c.args.span in
    let good = g.P.Placement.good n in
    let L = g.met.P.Placement.reserving in
    let t = replicate {A = ℕ} max_span 0 in
    let none = get_or_zeros max_span in
    let e = c.is_ok.ensures.value ∙ passes good n c.check.result c.check.ensures in
    let m : c.if-is_ok.result ≡ granted_span good n = elim c.if-is_ok.branch [ then-is_ok w ↦ w.result-is ∙ sym (cond-true good n 1 (sym e ∙ w.if-is_ok.true)) | else-is_ok w ↦ w.result-is ∙ sym (cond-false good n 1 (sym e ∙ w.if-is_ok.false)) ] in
    record {
      good = subst (λ (x : ℕ). g.P.Placement.good x ≡ true) (sym m) (granted_good g.P.Placement.good n g.met.P.Placement.spans.one);
      sized = length-replicate {A = ℕ} max_span 0;
      inside = λ f h. omega (arith, reserved L t f, ap g.P.Placement.reserve (none f), L.none);
      apart = λ f q l h. omega (arith, reserved L t q, ap g.P.Placement.reserve (none q), L.none);
      aligned = λ q h. omega (arith, none q);
    }
