use Rattle.board.specs.Views.{seen}
use Rattle.board.proofs.Admission.{refused}
use Rattle.preset.proofs.Voices.{not_entered, entered}
use Rattle.preset.specs.Steps.{EntersOr}
use Rattle.preset.proofs.change.enter.Goals as goal

pub returns-in_err-ticket-clause-enters : goal.returns-in_err-ticket-clause-enters
returns-in_err-ticket-clause-enters g c =
    let memory = c.args.memory.now in
    let m = seen c.args.board.now memory in
    let n = seen c.open.new.self memory in
    let v = c.args.voice in
    let f = c.in_err-ticket.field-0.0 in
    refused (EntersOr m n v) f c.from_residual.result c.from_residual.ensures.1 (not_entered m n v f (c.in_err-ticket.ensures.opens memory))

pub returns-clause-enters : goal.returns-clause-enters
returns-clause-enters g c =
    let memory = c.args.memory.now in
    entered c.args.board.now c.open.new.self c.feed.new.self memory c.feed.new.memory c.args.voice c.in_ok-ticket.field-0 c.feed.result c.tap-heard.result
    c.in_ok-ticket.ensures.same c.feed.ensures.same (c.in_ok-ticket.ensures.opens memory) c.feed.ensures.feeds c.tap-heard.ensures.taps
