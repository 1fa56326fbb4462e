-- The run is cleared at its first page; its reserve then has room for its count.
use Rattle.std.proofs.Common.{◌<◌, length, ◌∙◌, arith}
use Rattle.std.proofs.lemmas.List.{length-set}
use Rattle.pages.specs.Tables.{within}
use Rattle.pages.specs.Placements.{room_removed, clear_inside_reserves, clear_apart_reserves, put_aligned}
use Rattle.pages.proofs.lowest_fit.LowestFitSupply.give.Goals as goal

pub invariant_of-self : goal.invariant_of-self
invariant_of-self g c =
    let s = c.args.self.now in
    let f = c.args.first in
    let L = g.met.P.Placement.reserving in
    let h = c.is_out.ensures.0 c.if-not-is_out.false in
    let l : f < length s.counts = within s.counts f (omega arith) in
    record {
      good = s.good;
      sized = length-set s.counts f 0 ∙ s.sized;
      inside = clear_inside_reserves L s.span s.counts f l s.inside;
      apart = clear_apart_reserves L s.counts f l s.apart;
      aligned = put_aligned g.P.Placement.alignment s.counts f 0 l (λ p. omega arith) s.aligned;
    }

pub returns-clause-given : goal.returns-clause-given
returns-clause-given g c =
    let s = c.args.self.now in
    room_removed g.met.P.Placement.reserving g.met.P.Placement.says_room s.span c.args.count c.args.first s.counts s.inside s.apart s.aligned (c.is_out.ensures.0 c.if-not-is_out.false)
