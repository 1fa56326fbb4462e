-- A slot that was not its run's last on loan leaves another on loan.
use Rattle.std.proofs.Common.{sym}
use Rattle.pool.proofs.States.{State}
use Rattle.pool.proofs.Returns.{more_than, state_restore}
use Rattle.pool.proofs.pool.Pool.restore.Goals as goal

pub invariant_of-self : goal.invariant_of-self
invariant_of-self g c =
    let s = c.args.self.now in
    let p = c.args.spot in
    let rs = s.runs.table in
    let v = g.S.Supply.table s.supply in
    let st : State rs v = (record { out = s.out; differ = s.differ; used = s.used }) in
    let t = state_restore rs v st p.index p.run c.requires.0 p.slot c.restore.new.self.table c.requires.1
    (more_than rs v st p.index p.run c.requires.0 (sym c.if-has_one_on_loan.ensures)) c.restore.ensures in
    record { out = t.out; differ = t.differ; used = t.used }
