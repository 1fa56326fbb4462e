-- The run found is written at its first page; a count for which no place is found does not fit.
use Rattle.std.proofs.Common.{ℕ, ◌<◌, length, subst, ◌∙◌, arith}
use Rattle.std.proofs.lemmas.List.{length-set}
use Rattle.pages.specs.Lowest.{Lowest, LowestFound}
use Rattle.pages.specs.Placement.{Room, lowest_fit}
use Rattle.pages.specs.Placements.{runs_inside, room_view, room_added, put_inside_reserves, put_apart_reserves, put_aligned}
use Rattle.pages.proofs.Refusals.{no_place}
use Rattle.pages.proofs.lowest_fit.LowestFitSupply.take.Goals as goal

pub returns-in_err-first-clause-taken : goal.returns-in_err-first-clause-taken
returns-in_err-first-clause-taken g c =
    let s = c.args.self.now in
    let n = c.args.count in
    let P = g.P.Placement in
    let p : 0 < n = omega arith in
    let none : (q : ℕ) → Room P.reserve P.alignment s.span s.counts n q → ⊥ = subst (LowestFound (Room P.reserve P.alignment s.span s.counts n)) c.in_err-first.ensures.ok_part c.lowest.ensures in
    no_place (lowest_fit P.room s.span) n _ p (omega arith) (λ f. none f.1.0 ((room_view g.met.P.Placement.reserving g.met.P.Placement.says_room s.span s.counts n (runs_inside g.met.P.Placement.reserving s.span s.counts s.inside) p f.1.0).0 f.1.1))
    c.lowest.result c.in_err-first.ensures.ok_part c.in_err-first.field-0.0 c.in_err-first.ensures.value c.from_residual.result c.from_residual.ensures.0 c.from_residual.ensures.1

pub invariant_of-self : goal.invariant_of-self
invariant_of-self g c =
    let s = c.args.self.now in
    let n = c.args.count in
    let f = c.in_ok-first.first in
    let P = g.P.Placement in
    let L = g.met.P.Placement.reserving in
    let low : Lowest (Room P.reserve P.alignment s.span s.counts n) f = subst (LowestFound (Room P.reserve P.alignment s.span s.counts n)) c.in_ok-first.ensures.ok_part c.lowest.ensures in
    let l : f < length s.counts = omega (arith, low.0.1, L.holds n, g.met.P.Placement.spans.most s.span s.good, s.sized) in
    record {
      good = s.good;
      sized = length-set s.counts f n ∙ s.sized;
      inside = put_inside_reserves L s.span s.counts f n l low.0.1 s.inside;
      apart = put_apart_reserves L s.counts f n l low.0.2 s.apart;
      aligned = put_aligned P.alignment s.counts f n l (λ _. low.0.0) s.aligned;
    }

pub returns-clause-taken : goal.returns-clause-taken
returns-clause-taken g c =
    let s = c.args.self.now in
    let n = c.args.count in
    let P = g.P.Placement in
    let low : Lowest (Room P.reserve P.alignment s.span s.counts n) c.in_ok-first.first = subst (LowestFound (Room P.reserve P.alignment s.span s.counts n)) c.in_ok-first.ensures.ok_part c.lowest.ensures in
    room_added g.met.P.Placement.reserving g.met.P.Placement.says_room s.span n c.in_ok-first.first s.counts s.sized (g.met.P.Placement.spans.most s.span s.good) (runs_inside g.met.P.Placement.reserving s.span s.counts s.inside) (omega arith) low
