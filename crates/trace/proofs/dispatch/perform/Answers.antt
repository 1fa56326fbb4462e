use Rattle.trace.proofs.Promises.{promised}
use Rattle.trace.proofs.Runs.{keeps_law}
use Rattle.trace.proofs.dispatch.perform.Goals as goal

pub returns-clause-law : goal.returns-clause-law
returns-clause-law g c =
    let met = g.met.K.Kind in
    keeps_law (promised c.args.rack.now g.met.S.Supply.fits_bounds met.long met.least met.back) _ _ c.args.call c.dispatched.result c.dispatched.ensures.step
