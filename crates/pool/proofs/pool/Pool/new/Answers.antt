-- A new pool has no run.
use Rattle.pool.proofs.States.{state_none}
use Rattle.pool.proofs.pool.Pool.new.Goals as goal

pub invariant_of-result : goal.invariant_of-result
invariant_of-result g c =
    let t = state_none c.new.result.table (g.S.Supply.table c.args.supply) c.new.ensures in
    record { out = t.out; differ = t.differ; used = t.used }
