use Rattle.std.proofs.Common.{rules}
use Rattle.classes.proofs.Sizes.{sized_at}
use Rattle.classes.proofs.class.Class.size.Goals as goal

pub returns : goal.returns
returns c = rw c.from-2.ensures (search (rules, sized_at))
