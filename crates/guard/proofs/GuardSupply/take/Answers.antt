-- A run is taken below with its extra pages; a count fits here where it fits there with them.
use Rattle.std.proofs.Common.{ℕ, ◌+◌, ◌-◌, ◌≤◌, List, sum, length, refl, ap, subst, arith}
use Rattle.std.proofs.lemmas.List.{length-map}
use Rattle.guard.specs.GuardRule.{shorter}
use Rattle.guard.specs.Guarding.{took, took_above, took_counted, back, sum_le, shorter_inside, shorter_apart}
use Rattle.guard.proofs.GuardSupply.take.Goals as goal

pub returns-in_default-clause-taken : goal.returns-in_default-clause-taken
returns-in_default-clause-taken g c =
    let s = c.args.self.now in
    let k = s.more in
    let n = c.args.count in
    let R = g.S.Supply.rule s.below in
    let u = g.S.Supply.table s.below in
    let e = c.in_default.ensures.taken in
    record {
      kept = ap (shorter k) e.kept;
      told = refl;
      none = λ z. omega arith;
      above = λ z. omega arith;
      unfit = λ z y. (refl, λ f. (e.unfit (omega arith) (omega arith)).1 (subst (λ (x : List ℕ). R.fits x (n + k)) (back k u s.above) f.1));
    }

-- the pages of all runs are not more than the span
pub overflow_add-self : goal.overflow_add-self
overflow_add-self g c =
    let s = c.args.self.now in
    let u = g.S.Supply.table s.below in
    let m = g.met.S.Supply in
    let h : sum (shorter s.more u) ≤ length (shorter s.more u) = sum_le _ (shorter s.more u) (shorter_inside s.more u (m.inside s.below)) (shorter_apart s.more u (m.apart s.below)) in
    omega (arith, c.in-Ok.ensures.taken.inside, m.span_bounds s.below, s.counted, h, length-map u (λ x. x - s.more))

pub invariant_of-self-2 : goal.invariant_of-self-2
invariant_of-self-2 g c =
    let s = c.args.self.now in
    let u = g.S.Supply.table s.below in
    let v = g.S.Supply.table c.take.new.self in
    let R = g.S.Supply.rule s.below in
    let h = c.in-Ok.ensures.taken in
    let run = c.in-Ok.run' in
    record {
      one = s.one;
      less = omega (arith, s.less, c.in-Ok.ensures.rule_kept.largest);
      above = took_above s.more c.args.count (omega arith) R u v s.above run h;
      counted = took_counted s.more c.args.count (omega arith) R u v s.above run s.pages h s.counted;
    }

pub returns-clause-taken : goal.returns-clause-taken
returns-clause-taken g c =
    let s = c.args.self.now in
    took s.more c.args.count (omega arith) (g.S.Supply.rule s.below) (g.S.Supply.table s.below) (g.S.Supply.table c.take.new.self) s.above c.in-Ok.run' (omega arith) c.in-Ok.ensures.taken
