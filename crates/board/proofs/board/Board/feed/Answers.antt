use Rattle.std.proofs.Common.{rules}
use Rattle.trace.proofs.Promises.{promised}
use Rattle.board.specs.Views.{seen}
use Rattle.board.proofs.Admission.{passes}
use Rattle.board.proofs.Calls.{feeds}
use Rattle.board.proofs.board.Board.feed.Goals as goal

pub returns : goal.returns
returns g c =
    let b = c.args.self.now in
    let met = g.met.K.Kind in
    let p = promised b.rack g.met.S.Supply.fits_bounds met.long met.least met.back in
    let m = seen b c.args.memory.now in
    let n = seen (record { rack = c.feed.new.self; mark = b.mark }) c.feed.new.memory in
    let fed = feeds m n p b.rack.inner.many c.args.ticket.now c.args.sample c.in_ok-line.line c.in_ok-line.ensures c.feed.result c.feed.ensures.feeds _ (passes c.feed.result _ c.map_err.ensures.cases) in
    record { same = search rules; feeds = fed.0; honours = fed.1 }
