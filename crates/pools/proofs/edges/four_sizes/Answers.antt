-- Each call begins where the one before it left the tables.
use Rattle.std.proofs.Common.{◌≡◌, ℕ, zero, suc, true, false, List, take, [], ◌∷◌, get_or, set, replicate, Some, None, sum, Option, refl, ap, ◌∙◌, arith}
use Rattle.classes.specs.Rule.{Smallest}
use Rattle.classes.specs.Long.{LongPages}
use Rattle.pages.specs.FirstFitRule.{first_fit}
use Rattle.pages.specs.declared.lowest_fit.LowestFit.{LowestFit}
use Rattle.pages.specs.declared.placement.Placement.{Ghosts as Places}
use Rattle.pages.specs.declared.supply.Supply.{Ghosts}
use Rattle.pool.specs.declared.pool.Pool.{Pool}
use Rattle.runs.specs.Bitmap.{clear_in}
use Rattle.pools.proofs.Rows.{Row, changed, serves_row, beaten, smallest_is}
use Rattle.pools.proofs.Steps.{fresh, stage_none, begin_step, lend_step, own_step}
use Rattle.pools.proofs.edges.four_sizes.Goals as goal

small8 : Smallest 8 0
small8 = smallest_is 8 0 (omega arith) (omega arith) (omega arith) (omega arith) refl

small10 : Smallest 10 1
small10 = smallest_is 10 1 (omega arith) (omega arith) (omega arith) (omega arith) refl

small9 : Smallest 9 1
small9 = smallest_is 9 1 (omega arith) (omega arith) (omega arith) (omega arith) refl

long2000 : LongPages 2000 4
long2000 = record { long = omega arith; within = omega arith; holds = omega arith; least = λ q h. omega arith }

abbrev one : List (Option Row)
one = Some (fresh 0 0) ∷ []

abbrev two : List (Option Row)
two = Some (fresh 0 0) ∷ Some (fresh 4 1) ∷ []

-- no row of 8 bytes serves 10
other : (k : ℕ) → serves_row 1 (get_or one k None) ≡ false
other zero = refl
other (suc k) = refl

-- the row of 10 bytes has free slots, and no other row serves
free : serves_row 1 (Some (fresh 4 1)) ≡ true
unfolding clear_in
free = refl

only : (k : ℕ) → (k ≡ 1 → ⊥) → beaten 1 (fresh 4 1) (get_or two k None) ≡ true
only zero d = refl
only (suc zero) d = absurd (d refl)
only (suc (suc k)) d = refl

-- the table of pages
abbrev view : {P : Type 0} {place : Places P} {g : Ghosts (LowestFit P place)} → Pool (LowestFit P place) g → List ℕ
view p = take p.supply.span p.supply.counts

pub returns : goal.returns
returns c =
    let p0 = c.new-pool.result in
    let p1 = c.take-eight.new.self in
    let p2 = c.take-ten.new.self in
    let p3 = c.take-nine.new.self in
    let p4 = c.take-own.new.self in
    let n0 : p0.supply.span ≡ 16 = ap (λ s. s.span) c.new-pool.ensures.supply ∙ c.new.ensures.span in
    let n1 : p1.supply.span ≡ 16 = c.take-eight.ensures.rule_kept.largest ∙ n0 in
    let n2 : p2.supply.span ≡ 16 = c.take-ten.ensures.rule_kept.largest ∙ n1 in
    let n3 : p3.supply.span ≡ 16 = c.take-nine.ensures.rule_kept.largest ∙ n2 in
    let v0 : (view p0) ≡ replicate 16 0 = c.new-pool.ensures.table ∙ c.new.ensures.table in
    let rs0 = p0.runs.table in
    let rs1 = p1.runs.table in
    let rs2 = p2.runs.table in
    let rs3 = p3.runs.table in
    let u0 = (view p0) in
    let u1 = (view p1) in
    let u2 = (view p2) in
    let u3 = (view p3) in
    let u4 = (view p4) in
    let s0 = stage_none rs0 u0 c.new-pool.ensures.runs p0.runs.long v0 in
    let a = begin_step p0.supply.span n0 8 0 small8 rs0 rs1 u0 u1 [] 0 s0 refl (omega arith) (omega arith) (λ k. refl) c.take-eight.result c.take-eight.ensures.taken in
    let b = begin_step p1.supply.span n1 10 1 small10 rs1 rs2 u1 u2 one 4 a.1.0 refl (omega arith) (omega arith) other c.take-ten.result c.take-ten.ensures.taken in
    let d = lend_step (first_fit p2.supply.span) 9 1 small9 rs2 rs3 u2 u3 two 9 b.1.0 1 (fresh 4 1) refl (omega arith) free only c.take-nine.result c.take-nine.ensures.taken in
    let e = own_step p3.supply.span n3 2000 4 long2000 rs3 p4.runs.table u3 u4 (set two 1 (Some (changed (fresh 4 1) 1 true))) 9 d.1.0 (omega arith) (omega arith) c.take-own.result c.take-own.ensures.taken in
    let u : u4 ≡ set (set (set (replicate 16 0) 0 4) 4 5) 9 4 =
    e.1 ∙ ap (λ (t : List ℕ). set t 9 4) (d.1.1 ∙ b.1.1 ∙ ap (λ (t : List ℕ). set t 4 5) (a.1.1 ∙ ap (λ (t : List ℕ). set t 0 4) v0)) in
    (a.0, b.0, d.0, e.0, c.pages_out-out.ensures ∙ ap sum u)
