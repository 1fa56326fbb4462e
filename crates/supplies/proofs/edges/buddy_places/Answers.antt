-- Each take begins where the one before it left the table.
use Rattle.std.proofs.Common.{◌≡◌, ℕ, List, take, replicate, refl, ap, ◌∙◌}
use Rattle.std.proofs.lemmas.Bool.{cond-true, eq-eqb}
use Rattle.pages.specs.Spans.{granted_span}
use Rattle.buddy.specs.Reserve.{power_for, good_buddy_span}
use Rattle.pages.specs.declared.lowest_fit.LowestFit.{LowestFit}
use Rattle.pages.specs.declared.placement.Placement.{Ghosts}
use Rattle.buddy.specs.Powers.{power_own}
use Rattle.supplies.proofs.BuddyEdge.{went5, went3, went4, none1}
use Rattle.supplies.proofs.edges.buddy_places.Goals as goal

granted16 : granted_span (good_buddy_span 16) 16 ≡ 16
granted16 = cond-true (good_buddy_span 16) 16 1 (eq-eqb (power_for 16) 16 (power_own 16 4 refl))

abbrev table : {P : Type 0} {g : Ghosts P} → LowestFit P g → List ℕ
table s = take s.span s.counts

pub returns : goal.returns
returns c =
    let s0 = c.new-supply.result in
    let s1 = c.take-five.new.self in
    let s2 = c.take-three.new.self in
    let s3 = c.take-four.new.self in
    let s4 = c.take-one.new.self in
    let n0 : s0.span ≡ 16 = c.new-supply.ensures.span ∙ granted16 in
    let n1 : s1.span ≡ 16 = c.take-five.ensures.rule_kept.largest ∙ n0 in
    let n2 : s2.span ≡ 16 = c.take-three.ensures.rule_kept.largest ∙ n1 in
    let n3 : s3.span ≡ 16 = c.take-four.ensures.rule_kept.largest ∙ n2 in
    let v0 : table s0 ≡ replicate 16 0 = c.new-supply.ensures.table ∙ ap (λ (m : ℕ). replicate m 0) granted16 in
    let a = went5 s0.span n0 (table s0) (table s1) c.take-five.result c.take-five.ensures.taken v0 in
    let b = went3 s1.span n1 (table s1) (table s2) c.take-three.result c.take-three.ensures.taken a.1 in
    let d = went4 s2.span n2 (table s2) (table s3) c.take-four.result c.take-four.ensures.taken b.1 in
    (a.0, b.0, d.0, none1 s3.span n3 (table s3) (table s4) c.take-one.result c.take-one.ensures.taken d.1)
