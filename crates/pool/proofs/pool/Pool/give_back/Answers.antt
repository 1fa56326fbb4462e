-- A run of the pool is out of the supply, so the give is granted.
use Rattle.std.proofs.Common.{◌≡◌, ap, ◌∙◌}
use Rattle.runs.specs.declared.shape.Shape.{Shape}
use Rattle.pool.proofs.Returns.{out_here, state_closed}
use Rattle.pool.proofs.pool.Pool.give_back.Goals as goal

pub invariant_of-self : goal.invariant_of-self
invariant_of-self g c =
    let s = c.args.self.now in
    let r = c.args.run in
    let n : c.count.result ≡ r.shape.count = c.count.ensures.is ∙ ap (λ (z : Shape). z.count) c.shape.ensures in
    let t = state_closed s.runs.table (g.S.Supply.table s.supply) (record { out = s.out; differ = s.differ; used = s.used }) c.args.index r c.requires c.first.result c.count.result c.first.ensures.is n (g.S.Supply.rule s.supply) c.close.new.self.table (g.S.Supply.table c.give.new.self) c.give.result c.close.ensures c.give.ensures.given in
    record { out = t.out; differ = t.differ; used = t.used }

pub unreachable-requires : goal.unreachable-requires
unreachable-requires g c =
    let s = c.args.self.now in
    let r = c.args.run in
    let n : c.count.result ≡ r.shape.count = c.count.ensures.is ∙ ap (λ (z : Shape). z.count) c.shape.ensures in
    c.in_default.ensures.given.was_not (out_here s.runs.table (g.S.Supply.table s.supply) (record { out = s.out; differ = s.differ; used = s.used }) c.args.index r c.requires c.first.result c.count.result c.first.ensures.is n)
