use Rattle.trace.proofs.Promises.{promised}
use Rattle.board.specs.Views.{seen}
use Rattle.board.proofs.Admission.{refused}
use Rattle.preset.specs.Change.{Changes}
use Rattle.preset.proofs.Changes.{old_valid, new_valid, not_begun, broken_off, changed}
use Rattle.preset.proofs.change.change.Goals as goal

pub leave-rung-requires-clause-valid : goal.leave-rung-requires-clause-valid
leave-rung-requires-clause-valid g c =
    let m = seen c.args.board.now c.args.memory.now in
    let n = seen c.enter.new.board c.enter.new.memory in
    let o = seen c.enter-second.new.board c.enter-second.new.memory in
    old_valid m n o c.args.old c.args.new c.in_ok-ticket.field-0 c.in_ok-ticket.ensures.enters c.enter-second.result c.enter-second.ensures.enters

pub leave-requires-clause-valid : goal.leave-requires-clause-valid
leave-requires-clause-valid g c =
    let m = seen c.args.board.now c.args.memory.now in
    let n = seen c.enter.new.board c.enter.new.memory in
    let o = seen c.enter-second.new.board c.enter-second.new.memory in
    let q = seen c.leave-rung.new.board c.leave-rung.new.memory in
    new_valid m n o c.args.old c.args.new c.in_ok-ticket.field-0 c.in_ok-ticket.ensures.enters c.in_ok-ticket-2.field-0 c.in_ok-ticket-2.ensures.enters q c.leave-rung.result c.leave-rung.ensures.leaves

pub returns-in_err-ticket : goal.returns-in_err-ticket
returns-in_err-ticket g c =
    let b = c.args.board.now in
    let memory = c.args.memory.now in
    let met = g.met.K.Kind in
    let p = promised b.rack g.met.S.Supply.fits_bounds met.long met.least met.back in
    let d = c.enter.new.board in
    let n = c.enter.new.memory in
    let f = c.in_err-ticket.field-0.0 in
    refused (Changes (seen b memory) (seen d n) c.args.old c.args.new) f c.from_residual.result c.from_residual.ensures.1 (not_begun b memory p c.args.old c.args.new d n f c.in_err-ticket.ensures.enters)

pub returns-in_err-ticket-2 : goal.returns-in_err-ticket-2
returns-in_err-ticket-2 g c =
    let b = c.args.board.now in
    let memory = c.args.memory.now in
    let met = g.met.K.Kind in
    let p = promised b.rack g.met.S.Supply.fits_bounds met.long met.least met.back in
    let d = c.enter.new.board in
    let n = c.enter.new.memory in
    let e = c.enter-second.new.board in
    let o = c.enter-second.new.memory in
    let l = c.leave-rung.new.board in
    let q = c.leave-rung.new.memory in
    let f = c.in_err-ticket-2.field-0.0 in
    let first = c.in_ok-ticket.ensures in
    refused (Changes (seen b memory) (seen l q) c.args.old c.args.new) f c.from_residual-in_err-ticket-2.result c.from_residual-in_err-ticket-2.ensures.1
    (broken_off b memory p c.args.old c.args.new d e l n o q first.same c.enter-second.ensures.same c.in_ok-ticket.field-0 c.leave-rung.result first.enters c.leave-rung.ensures.leaves f c.in_err-ticket-2.ensures.enters)

pub returns : goal.returns
returns g c =
    let b = c.args.board.now in
    let memory = c.args.memory.now in
    let met = g.met.K.Kind in
    let p = promised b.rack g.met.S.Supply.fits_bounds met.long met.least met.back in
    let d = c.enter.new.board in
    let n = c.enter.new.memory in
    let e = c.enter-second.new.board in
    let o = c.enter-second.new.memory in
    let l = c.leave-rung.new.board in
    let q = c.leave-rung.new.memory in
    let first = c.in_ok-ticket.ensures in
    changed b memory p c.args.old c.args.new d e l n o q first.same c.enter-second.ensures.same c.in_ok-ticket.field-0 c.leave-rung.result first.enters c.leave-rung.ensures.leaves
    c.leave-rung.ensures.same c.leave.new.board c.leave.new.memory c.in_ok-ticket-2.field-0 c.leave.result c.in_ok-ticket-2.ensures.enters c.leave.ensures.leaves
