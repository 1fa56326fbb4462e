-- Past the span the table has no run.
use Rattle.std.proofs.Common.{sym, ◌∙◌}
use Rattle.pages.specs.Tables.{view_sum}
use Rattle.pages.specs.Placements.{runs_inside}
use Rattle.pages.proofs.lowest_fit.LowestFitSupply.pages_out.Goals as goal

pub returns : goal.returns
returns g c = let s = c.args.self.now in c.total.ensures ∙ sym (view_sum s.span s.counts (runs_inside g.met.P.Placement.reserving s.span s.counts s.inside))
