use Rattle.std.proofs.Common.{arith}
use Rattle.rack.proofs.Parts.{housed}
use Rattle.rack.proofs.Rooms.{position_within}
use Rattle.rack.proofs.rack.Rack.read.Goals as goal

pub slice_bounds-read-end : goal.slice_bounds-read-end
slice_bounds-read-end g c =
    let s = c.args.self.now in
    let supply = g.met.S.Supply in
    let d = s.inner.pool.supply in
    let h = housed s (supply.inside d) (supply.apart d) g.met.K.Kind.least c.width-width.result c.width-width.ensures in
    omega (arith, position_within _ _ s.inner.lines _ h c.line-line.result c.args.number.value c.line-line.ensures c.requires.used c.position.result c.position.ensures.within, c.requires.whole)
