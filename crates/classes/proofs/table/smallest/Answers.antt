use Rattle.std.proofs.Common.{◌<◌, ◌≤◌, arith}
use Rattle.classes.proofs.Sizes.{smallest_at}
use Rattle.classes.proofs.table.smallest.Goals as goal

pub returns : goal.returns
returns c =
    let some : 0 < c.args.length = omega arith in
    let within : c.args.length ≤ 1792 = omega arith in
    search (smallest_at)
