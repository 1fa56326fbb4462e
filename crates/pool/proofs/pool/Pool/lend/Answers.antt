-- A loan keeps the pool's state, and its block has the request's size.
use Rattle.std.proofs.Common.{◌≡◌, Some, sym, ap, ◌∙◌}
use Rattle.pool.specs.declared.block.Block.{Block}
use Rattle.pool.proofs.States.{state_lend, lent_within}
use Rattle.pool.proofs.Lending.{lent_by, size_lent}
use Rattle.pool.proofs.pool.Pool.lend.Goals as goal

pub invariant_of-self-2 : goal.invariant_of-self-2
invariant_of-self-2 g c =
    let s = c.args.self.now in
    let t = state_lend c.in_ok-class.field-0.number s.runs.table c.lend.new.self.table (g.S.Supply.table s.supply) c.lend.result c.lend.ensures (record { out = s.out; differ = s.differ; used = s.used }) in
    record { out = t.out; differ = t.differ; used = t.used }

pub block_of-requires : goal.block_of-requires
block_of-requires g c =
    let s = c.args.self.now in
    lent_within c.in_ok-class.field-0.number s.runs.table c.lend.new.self.table c.in_ok-spot.spot c.in_ok-spot.ensures

pub returns-clause-lends : goal.returns-clause-lends
returns-clause-lends g c =
    let rs = c.args.self.now.runs.table in
    let ts = c.lend.new.self.table in
    let p = c.in_ok-spot.spot in
    let h = c.in_ok-spot.ensures in
    let k = c.in_ok-class.field-0 in
    let e : c.args.shape.class ≡ Some k = sym c.class.ensures ∙ c.in_ok-class.was in
    (p, lent_by c.args.shape k rs ts p e h, c.block_of.ensures, ap (λ (b : Block). b.size) c.block_of.ensures ∙ size_lent c.args.shape k rs ts p e h)
