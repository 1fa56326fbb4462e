-- Each take begins where the one before it left the table, by a rule that no take changes.
use Rattle.std.proofs.Common.{◌≡◌, ℕ, List, take, replicate, ap, ◌∙◌}
use Rattle.pages.specs.FirstFitRule.{first_fit}
use Rattle.pages.specs.declared.lowest_fit.LowestFit.{LowestFit}
use Rattle.pages.specs.declared.placement.Placement.{Ghosts as Places}
use Rattle.pages.specs.declared.supply.Supply.{Ghosts}
use Rattle.pages.proofs.SameRules.{same_next}
use Rattle.guard.specs.declared.Guard.{Guard}
use Rattle.guard.specs.GuardRule.{extra_pages, shorter, guarded}
use Rattle.supplies.proofs.GuardEdge.{g0, rule, same_guard, went4, went5}
use Rattle.supplies.proofs.edges.guard_places.Goals as goal

abbrev table : {P : Type 0} {place : Places P} {g : Ghosts (LowestFit P place)} → Guard (LowestFit P place) g → List ℕ
table s = shorter s.more (take s.below.span s.below.counts)

pub returns : goal.returns
returns c =
    let made = c.new.result in
    let s0 = c.new-supply.result in
    let s1 = c.take-four.new.self in
    let s2 = c.take-five.new.self in
    let n : made.span ≡ 16 = c.new.ensures.span in
    let t : take made.span made.counts ≡ replicate 16 0 = c.new.ensures.table in
    let n0 : s0.below.span ≡ 16 = ap (λ s. s.span) c.new-supply.ensures.supply ∙ n in
    let one : extra_pages made.span (take made.span made.counts) ≡ 1 = ap (λ (m : ℕ). extra_pages m (take made.span made.counts)) n ∙ ap (extra_pages 16) t in
    let k0 : s0.more ≡ 1 = c.new-supply.ensures.extra ∙ one in
    let v0 : table s0 ≡ g0 = c.new-supply.ensures.table ∙ ap (λ (k : ℕ). shorter k (take made.span made.counts)) one ∙ ap (shorter 1) t in
    let R0 = guarded s0.more (first_fit s0.below.span) in
    let R1 = guarded s1.more (first_fit s1.below.span) in
    let same = same_guard s0.below.span s0.more n0 k0 in
    let a = went4 R0 same (table s0) (table s1) c.take-four.result c.take-four.ensures.taken v0 in
    let b = went5 R1 (same_next rule R0 R1 same c.take-four.ensures.rule_kept) (table s1) (table s2) c.take-five.result c.take-five.ensures.taken a.1 in
    (a.0, b.0)
