-- Each call begins where the one before it left the tables.
use Rattle.std.proofs.Common.{◌≡◌, ℕ, zero, suc, ◌+◌, ◌<◌, Bool, true, false, List, take, [], ◌∷◌, get_or, Some, None, refl, ap, ◌∙◌, arith}
use Rattle.classes.specs.Rule.{Smallest}
use Rattle.pages.specs.FirstFitRule.{first_fit}
use Rattle.pages.specs.declared.lowest_fit.LowestFit.{LowestFit}
use Rattle.pages.specs.declared.placement.Placement.{Ghosts as Places}
use Rattle.pages.specs.declared.supply.Supply.{Ghosts}
use Rattle.pool.specs.declared.pool.Pool.{Pool}
use Rattle.runs.specs.Bitmap.{clear_in}
use Rattle.pools.proofs.Rows.{Row, serves_row, beaten, smallest_is}
use Rattle.pools.proofs.Steps.{stage_none, begin_step, lend_step, release_step}
use Rattle.pools.proofs.edges.fuller_run.Goals as goal

small : Smallest 896 27
small = smallest_is 896 27 (omega arith) (omega arith) (omega arith) (omega arith) refl

abbrev row : ℕ → List Bool → Row
row first lent = record { first = first; class = 27; lent = lent }

-- four slots, of which the lowest are on loan
abbrev l1 : List Bool
l1 = true ∷ false ∷ false ∷ false ∷ []

abbrev l2 : List Bool
l2 = true ∷ true ∷ false ∷ false ∷ []

abbrev l3 : List Bool
l3 = true ∷ true ∷ true ∷ false ∷ []

abbrev l4 : List Bool
l4 = true ∷ true ∷ true ∷ true ∷ []

-- one and two of four slots came back
abbrev b1 : List Bool
b1 = false ∷ true ∷ true ∷ true ∷ []

abbrev b2 : List Bool
b2 = false ∷ false ∷ true ∷ true ∷ []

-- the second run has a free slot, and is used rather than the first
record Used (a b : List Bool) : Type 0 where
  pub free : serves_row 27 (Some (row 7 b)) ≡ true
  pub first : beaten 27 (row 7 b) (Some (row 0 a)) ≡ true

served : (b : List Bool) → (k : ℕ) → (k ≡ 0 → ⊥) → beaten 27 (row 0 b) (get_or (Some (row 0 b) ∷ []) k None) ≡ true
served b zero d = absurd (d refl)
served b (suc k) d = refl

second : (a b : List Bool) → Used a b → (k : ℕ) → (k ≡ 1 → ⊥) → beaten 27 (row 7 b) (get_or (Some (row 0 a) ∷ Some (row 7 b) ∷ []) k None) ≡ true
second a b h zero d = h.first
second a b h (suc zero) d = absurd (d refl)
second a b h (suc (suc k)) d = refl

free1 : serves_row 27 (Some (row 0 l1)) ≡ true
unfolding clear_in
free1 = refl

free2 : serves_row 27 (Some (row 0 l2)) ≡ true
unfolding clear_in
free2 = refl

free3 : serves_row 27 (Some (row 0 l3)) ≡ true
unfolding clear_in
free3 = refl

full : (k : ℕ) → serves_row 27 (get_or (Some (row 0 l4) ∷ []) k None) ≡ false
unfolding clear_in
full zero = refl
full (suc k) = refl

used1 : Used l4 l1
unfolding clear_in
used1 = record { free = refl; first = refl }

used2 : Used l4 l2
unfolding clear_in
used2 = record { free = refl; first = refl }

-- both runs have free slots here: two of the first, and one of the second
used3 : Used b2 l3
unfolding clear_in
used3 = record { free = refl; first = refl }

more4 : clear_in l4 + 1 < 4
unfolding clear_in
more4 = omega arith

more3 : clear_in b1 + 1 < 4
unfolding clear_in
more3 = omega arith

-- the table of pages
abbrev view : {P : Type 0} {place : Places P} {g : Ghosts (LowestFit P place)} → Pool (LowestFit P place) g → List ℕ
view p = take p.supply.span p.supply.counts

pub returns : goal.returns
returns c =
    let p0 = c.new-pool.result in
    let p1 = c.take-one.new.self in
    let p2 = c.take-two.new.self in
    let p3 = c.take-three.new.self in
    let p4 = c.take-four.new.self in
    let p5 = c.take-five.new.self in
    let p6 = c.take-six.new.self in
    let p7 = c.take-seven.new.self in
    let p8 = c.release-back.new.self in
    let p9 = c.release-more.new.self in
    let p10 = c.take-next.new.self in
    let n0 : p0.supply.span ≡ 16 = ap (λ s. s.span) c.new-pool.ensures.supply ∙ c.new.ensures.span in
    let n1 : p1.supply.span ≡ 16 = c.take-one.ensures.rule_kept.largest ∙ n0 in
    let n2 : p2.supply.span ≡ 16 = c.take-two.ensures.rule_kept.largest ∙ n1 in
    let n3 : p3.supply.span ≡ 16 = c.take-three.ensures.rule_kept.largest ∙ n2 in
    let n4 : p4.supply.span ≡ 16 = c.take-four.ensures.rule_kept.largest ∙ n3 in
    let n5 : p5.supply.span ≡ 16 = c.take-five.ensures.rule_kept.largest ∙ n4 in
    let n6 : p6.supply.span ≡ 16 = c.take-six.ensures.rule_kept.largest ∙ n5 in
    let n7 : p7.supply.span ≡ 16 = c.take-seven.ensures.rule_kept.largest ∙ n6 in
    let n8 : p8.supply.span ≡ 16 = c.release-back.ensures.rule_kept.largest ∙ n7 in
    let n9 : p9.supply.span ≡ 16 = c.release-more.ensures.rule_kept.largest ∙ n8 in
    let s0 = stage_none p0.runs.table (view p0) c.new-pool.ensures.runs p0.runs.long (c.new-pool.ensures.table ∙ c.new.ensures.table) in
    let t1 = begin_step p0.supply.span n0 896 27 small p0.runs.table p1.runs.table (view p0) (view p1) [] 0 s0 refl (omega arith) (omega arith) (λ k. refl) c.take-one.result c.take-one.ensures.taken in
    let t2 = lend_step (first_fit p1.supply.span) 896 27 small p1.runs.table p2.runs.table (view p1) (view p2) (Some (row 0 l1) ∷ []) 7 t1.1.0 0 (row 0 l1) refl (omega arith) free1 (served l1) c.take-two.result c.take-two.ensures.taken in
    let t3 = lend_step (first_fit p2.supply.span) 896 27 small p2.runs.table p3.runs.table (view p2) (view p3) (Some (row 0 l2) ∷ []) 7 t2.1.0 0 (row 0 l2) refl (omega arith) free2 (served l2) c.take-three.result c.take-three.ensures.taken in
    let t4 = lend_step (first_fit p3.supply.span) 896 27 small p3.runs.table p4.runs.table (view p3) (view p4) (Some (row 0 l3) ∷ []) 7 t3.1.0 0 (row 0 l3) refl (omega arith) free3 (served l3) c.take-four.result c.take-four.ensures.taken in
    let t5 = begin_step p4.supply.span n4 896 27 small p4.runs.table p5.runs.table (view p4) (view p5) (Some (row 0 l4) ∷ []) 7 t4.1.0 refl (omega arith) (omega arith) full c.take-five.result c.take-five.ensures.taken in
    let t6 = lend_step (first_fit p5.supply.span) 896 27 small p5.runs.table p6.runs.table (view p5) (view p6) (Some (row 0 l4) ∷ Some (row 7 l1) ∷ []) 14 t5.1.0 1 (row 7 l1) refl (omega arith) used1.free (second l4 l1 used1) c.take-six.result c.take-six.ensures.taken in
    let t7 = lend_step (first_fit p6.supply.span) 896 27 small p6.runs.table p7.runs.table (view p6) (view p7) (Some (row 0 l4) ∷ Some (row 7 l2) ∷ []) 14 t6.1.0 1 (row 7 l2) refl (omega arith) used2.free (second l4 l2 used2) c.take-seven.result c.take-seven.ensures.taken in
    let t8 = release_step (first_fit p7.supply.span) p7.runs.table p8.runs.table (view p7) (view p8) (Some (row 0 l4) ∷ Some (row 7 l3) ∷ []) 14 t7.1.0 0 (row 0 l4) refl (omega arith) 0 refl more4 0 refl c.release-back.result c.release-back.ensures.released c.release-back.ensures.found in
    let t9 = release_step (first_fit p8.supply.span) p8.runs.table p9.runs.table (view p8) (view p9) (Some (row 0 b1) ∷ Some (row 7 l3) ∷ []) 14 t8.1 0 (row 0 b1) refl (omega arith) 1 refl more3 896 refl c.release-more.result c.release-more.ensures.released c.release-more.ensures.found in
    let t10 = lend_step (first_fit p9.supply.span) 896 27 small p9.runs.table p10.runs.table (view p9) (view p10) (Some (row 0 b2) ∷ Some (row 7 l3) ∷ []) 14 t9.1 1 (row 7 l3) refl (omega arith) used3.free (second b2 l3 used3) c.take-next.result c.take-next.ensures.taken in
    ((t1.0, (t2.0, (t3.0, (t4.0, (t5.0, (t6.0, (t7.0, (t10.0, tt)))))))), t8.0, t9.0)
