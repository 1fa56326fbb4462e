use Rattle.runs.proofs.Requests.{block_holds}
use Rattle.layout.proofs.held.Held.of_request.Goals as goal

pub invariant_of-result : goal.invariant_of-result
invariant_of-result c = record { room = block_holds c.args.bytes c.in_ok-shape.shape c.in_ok-shape.ensures.shape }
