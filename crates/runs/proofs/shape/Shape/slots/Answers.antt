-- A run has 1 to 256 slots.
use Rattle.std.proofs.Common.{◌≡◌, arith}
use Rattle.std.proofs.lemmas.Grind.{common_steps}
use Rattle.runs.specs.Shapes.{slots_in}
use Rattle.runs.proofs.Cuts.{slots_few}
use Rattle.runs.proofs.shape.Shape.slots.Goals as goal

pub returns-clause-few : goal.returns-clause-few
returns-clause-few c =
    let s = c.args.self in
    let is : c.map_or.result ≡ slots_in s = grind (arith, common_steps) in
    rw is (slots_few s)
