-- The run below, with its extra pages, is given for the run that was handed out.
use Rattle.std.proofs.Common.{refl, arith}
use Rattle.guard.specs.Guarding.{gave, gave_above, gave_counted, shorter_inside}
use Rattle.guard.proofs.GuardSupply.give.Goals as goal
use Rattle.guard.proofs.GuardSupply.give.Goals.{then-count-eq0-via-then-count-eq0, then-count-eq0-via-else-count-eq0+then-count-span}

pub returns-then-count-eq0-clause-given : goal.returns-then-count-eq0-clause-given
returns-then-count-eq0-clause-given g c =
    let s = c.args.self.now in
    let u = g.S.Supply.table s.below in
    record {
      kept = refl;
      told = refl;
      says = refl;
      was_not = λ o.
          let i = shorter_inside s.more u (g.met.S.Supply.inside s.below) c.args.first (omega (arith, o)) in
          elim c.then-count-eq0.branch [ then-count-eq0-via-then-count-eq0 w ↦ omega (arith, o) | then-count-eq0-via-else-count-eq0+then-count-span w ↦ omega (arith, o, i, w.span.ensures) ];
    }

pub overflow_sub-self : goal.overflow_sub-self
overflow_sub-self g c =
    let s = c.args.self.now in
    (gave_counted s.more c.args.count (omega arith) (g.S.Supply.rule s.below) (g.S.Supply.table s.below) (g.S.Supply.table c.give.new.self) s.above c.args.first c.in-Ok.ensures.given s.pages s.counted).0

pub invariant_of-self-2 : goal.invariant_of-self-2
invariant_of-self-2 g c =
    let s = c.args.self.now in
    let u = g.S.Supply.table s.below in
    let v = g.S.Supply.table c.give.new.self in
    let R = g.S.Supply.rule s.below in
    let h = c.in-Ok.ensures.given in
    record {
      one = s.one;
      less = omega (arith, s.less, c.in-Ok.ensures.rule_kept.largest);
      above = gave_above s.more c.args.count (omega arith) R u v s.above c.args.first h;
      counted = (gave_counted s.more c.args.count (omega arith) R u v s.above c.args.first h s.pages s.counted).1;
    }

pub returns-clause-given : goal.returns-clause-given
returns-clause-given g c =
    let s = c.args.self.now in
    gave s.more c.args.count (omega arith) (g.S.Supply.rule s.below) (g.S.Supply.table s.below) (g.S.Supply.table c.give.new.self) s.above c.args.first c.in-Ok.ensures.given
