-- A new run keeps the pool's state.
use Rattle.std.proofs.Common.{rules}
use Rattle.pool.proofs.Lending.{state_begun, begun_is}
use Rattle.pool.proofs.pool.Pool.begin.Goals as goal

pub invariant_of-self-2 : goal.invariant_of-self-2
invariant_of-self-2 g c =
    let s = c.args.self.now in
    let d = s.supply in
    let e = c.new-run.ensures in
    let t = state_begun (g.S.Supply.rule d) c.args.shape s.runs.table c.put.new.self.table (g.S.Supply.table d) (g.S.Supply.table c.take.new.self) c.in-Some.index c.in_ok-taken.taken c.new-run.result
    (search rules) c.in-Some.ensures c.put.ensures e.first e.shape e.slots (record { out = s.out; differ = s.differ; used = s.used }) in
    record { out = t.out; differ = t.differ; used = t.used }

pub returns-clause-begins : goal.returns-clause-begins
returns-clause-begins g c =
    let s = c.args.self.now in
    let d = s.supply in
    let e = c.new-run.ensures in (
      record { index = c.in-Some.index; run = c.new-run.result; slot = 0 },
      begun_is (g.S.Supply.rule d) c.args.shape s.runs.table c.put.new.self.table (g.S.Supply.table d) (g.S.Supply.table c.take.new.self) c.in-Some.index c.in_ok-taken.taken c.new-run.result (search rules) c.in-Some.ensures c.put.ensures e.first e.shape e.slots,
      c.block_of.ensures,
    )
