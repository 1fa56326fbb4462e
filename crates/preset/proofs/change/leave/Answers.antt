use Rattle.std.proofs.Common.{is_ok, ap}
use Rattle.board.specs.Views.{seen}
use Rattle.board.proofs.Clients.{ring_granted}
use Rattle.preset.proofs.Voices.{closed, left}
use Rattle.preset.proofs.change.leave.Goals as goal

pub unwrap-ticket-requires : goal.unwrap-ticket-requires
unwrap-ticket-requires g c =
    let memory = c.args.memory.now in
    ap is_ok (ring_granted (seen c.args.board.now memory) (seen c.ring.new.self memory) c.args.ticket c.ring.result c.requires.own c.requires.valid (c.ring.ensures.rings memory)).0

pub unwrap-requires : goal.unwrap-requires
unwrap-requires g c =
    let memory = c.args.memory.now in
    let after = c.tick.new.memory in
    ap is_ok (closed c.args.board.now c.ring.new.self c.tick.new.self memory after c.args.ticket c.requires.own c.requires.valid c.ring.result c.unwrap-ticket.result c.unwrap-ticket.ensures c.ring.ensures.same (c.ring.ensures.rings memory)
    c.tick.result c.tick.ensures.same c.tick.ensures.ticks c.close.new.self c.close.result (c.close.ensures.closes after)).0

pub returns-clause-leaves : goal.returns-clause-leaves
returns-clause-leaves g c =
    let memory = c.args.memory.now in
    let after = c.tick.new.memory in
    left c.args.board.now c.ring.new.self c.tick.new.self memory after c.args.ticket c.requires.own c.requires.valid c.ring.result c.unwrap-ticket.result c.unwrap-ticket.ensures c.ring.ensures.same (c.ring.ensures.rings memory)
    c.tick.result c.tick.ensures.same c.tick.ensures.ticks c.close.new.self c.tap-heard.result c.close.result c.tap-heard.ensures.taps (c.close.ensures.closes after)
