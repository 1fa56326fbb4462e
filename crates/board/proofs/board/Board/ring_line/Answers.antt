use Rattle.std.proofs.Common.{ℕ, List, rules}
use Rattle.trace.proofs.Promises.{promised}
use Rattle.board.specs.Views.{seen}
use Rattle.board.proofs.Admission.{passes}
use Rattle.board.proofs.Calls.{rings}
use Rattle.board.proofs.board.Board.ring_line.Goals as goal

pub returns : goal.returns
returns g c =
    let b = c.args.self.now in
    let met = g.met.K.Kind in
    let p = promised b.rack g.met.S.Supply.fits_bounds met.long met.least met.back in
    let n = seen (record { rack = c.ring.new.self; mark = b.mark }) in
    let both = λ (bytes : List ℕ).
    rings (seen b bytes) (n bytes) p b.rack.inner.many c.args.ticket.now c.in_ok-line.line c.in_ok-line.ensures c.ring.result (c.ring.ensures.rings bytes) _ (passes c.ring.result _ c.map_err.ensures.cases) in
    record { same = search rules; rings = λ bytes. (both bytes).0; honours = λ bytes. (both bytes).1 }
