-- At most so many counts, each within 16 bits.
use Rattle.std.proofs.Common.{rules, arith, ◌^◌}
use Rattle.std.proofs.lemmas.Iterator.{YieldsList-from_slice}
use Rattle.std.proofs.lemmas.Iterator.Adapters.{fits_from_length, at_most_from_yields_List}
use Rattle.pages.specs.Limits.{max_span}
use Rattle.pages.proofs.table.total.Goals as goal

pub sum-requires-clause-fits : goal.sum-requires-clause-fits
sum-requires-clause-fits c =
    fits_from_length _ _ max_span (2 ^ 32) (at_most_from_yields_List (YieldsList-from_slice c.args.counts.now cc) (omega arith)) c.map.ensures.closure (omega arith) (λ x r q k. search rules)
