use Rattle.std.proofs.Common.{ℕ, List, rules}
use Rattle.trace.proofs.Promises.{promised}
use Rattle.board.specs.Views.{seen}
use Rattle.board.proofs.Admission.{passes}
use Rattle.board.proofs.Calls.{closes}
use Rattle.board.proofs.board.Board.close_line.Goals as goal

pub returns : goal.returns
returns g c =
    let b = c.args.self.now in
    let met = g.met.K.Kind in
    let p = promised b.rack g.met.S.Supply.fits_bounds met.long met.least met.back in
    let n = seen (record { rack = c.close.new.self; mark = b.mark }) in
    let both = λ (bytes : List ℕ).
    closes (seen b bytes) (n bytes) p b.rack.inner.many c.args.ticket.now c.in_ok-line.line c.in_ok-line.ensures c.close.result (c.close.ensures.closes bytes) _ (passes c.close.result _ c.map_err.ensures.cases) in
    record { same = search rules; closes = λ bytes. (both bytes).0; honours = λ bytes. (both bytes).1 }
