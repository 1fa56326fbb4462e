use Rattle.std.proofs.Common.{rules}
use Rattle.classes.proofs.Sizes.{start_kept}
use Rattle.classes.proofs.class.Class.slot_at.Goals as goal

pub returns : goal.returns
returns c = start_kept c.args.self.number c.args.self.known c.args.place c.slot_of.result c.filter.result (λ s b t. search rules) c.slot_of.ensures c.filter.ensures
