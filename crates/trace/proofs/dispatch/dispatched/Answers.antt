use Rattle.std.proofs.Common.{rules}
use Rattle.trace.proofs.dispatch.dispatched.Goals as goal

pub returns-in-Ring-clause-step : goal.returns-in-Ring-clause-step
returns-in-Ring-clause-step g c = let e = c.ring.ensures.rings c.args.memory.now in search rules

pub returns-in-Close-clause-step : goal.returns-in-Close-clause-step
returns-in-Close-clause-step g c = let e = c.close.ensures.closes c.args.memory.now in search rules
