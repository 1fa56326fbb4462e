-- The blocks of a class fill its pages.
use Rattle.std.proofs.Common.{◌≡◌}
use Rattle.runs.specs.Shapes.{block_size}
use Rattle.runs.proofs.Cuts.{slots_fill_pages}
use Rattle.runs.proofs.shape.Shape.size.Goals as goal

pub returns-in-Some-clause-fill : goal.returns-in-Some-clause-fill
returns-in-Some-clause-fill c =
    let s = c.args.self in
    let is : c.size.result ≡ block_size s = cc in
    rw is (slots_fill_pages s)
