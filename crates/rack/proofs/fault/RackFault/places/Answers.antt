use Rattle.std.proofs.Common.{length, sym, ap, ◌∙◌}
use Rattle.pool.specs.Faults.{padded}
use Rattle.rack.specs.Faults.{places}
use Rattle.rack.proofs.Told.{one_and_line, two_and_line}
use Rattle.rack.proofs.fault.RackFault.places.Goals as goal

pub returns-then-told-gt1 : goal.returns-then-told-gt1
returns-then-told-gt1 c =
    let told = c.places-told in
    let is = two_and_line c.in-Pool.below told.result.values told.result.count c.in-Pool.line told.ensures.count told.ensures.values c.if-told-gt1.true ∙ sym (ap places c.in-Pool.is) in
    record { count = ap length is; values = is; padding = ap padded is }

pub returns-else-told-gt1 : goal.returns-else-told-gt1
returns-else-told-gt1 c =
    let told = c.places-told in
    let is = one_and_line c.in-Pool.below told.result.values told.result.count c.in-Pool.line told.ensures.count told.ensures.values c.if-told-gt1.false ∙ sym (ap places c.in-Pool.is) in
    record { count = ap length is; values = is; padding = ap padded is }
