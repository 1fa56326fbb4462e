-- A block ends within 32 bits, since its slot ends within its run.
use Rattle.std.proofs.Common.{◌≡◌, ℕ, ◌*◌, ap, ◌∙◌, arith}
use Rattle.runs.specs.Shapes.{block_size}
use Rattle.pool.proofs.Lending.{slot_ends}
use Rattle.pool.proofs.pool.take.block_of.Goals as goal

pub overflow_add-result : goal.overflow_add-result
overflow_add-result c =
    let s = c.args.spot.run.shape in
    let z : c.size-size.result ≡ block_size s = c.size-size.ensures.is ∙ ap block_size c.shape.ensures in
    let e : c.args.spot.slot * c.size-size.result ≡ c.args.spot.slot * block_size s = ap (λ (n : ℕ). c.args.spot.slot * n) z in
    omega (arith, slot_ends s c.args.spot.slot c.requires, e, c.first.ensures.small)
