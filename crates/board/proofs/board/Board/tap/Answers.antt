use Rattle.trace.proofs.Promises.{promised}
use Rattle.board.specs.Tickets.{standing}
use Rattle.board.specs.Views.{seen}
use Rattle.board.proofs.Admission.{passes}
use Rattle.board.proofs.Calls.{taps}
use Rattle.board.proofs.board.Board.tap.Goals as goal

pub returns : goal.returns
returns g c =
    let b = c.args.self.now in
    let met = g.met.K.Kind in
    let p = promised b.rack g.met.S.Supply.fits_bounds met.long met.least met.back in
    let tapped = taps (seen b c.args.memory.now) p b.rack.inner.many g.T.AnyTicket.stated (standing (g.T.AnyTicket.marked c.args.ticket.now) (g.T.AnyTicket.lined c.args.ticket.now)) c.args.d c.in_ok-line.line c.in_ok-line.ensures c.tap.result c.tap.ensures _ (passes c.tap.result _ c.map_err.ensures.cases) in
    record { taps = tapped.0; honours = tapped.1 }
