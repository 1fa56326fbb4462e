-- `next_power_of_two` answers the smallest power of two that holds its argument.
use Rattle.std.proofs.Common.{ap, ◌∙◌}
use Rattle.buddy.specs.Reserve.{power_for}
use Rattle.buddy.specs.Powers.{power_is}
use Rattle.buddy.proofs.PowerOfTwoPlacement.alignment.Goals as goal

pub returns : goal.returns
returns c =
    let e = c.next_power_of_two.ensures in
    power_is c.from.result c.next_power_of_two.result e.power.0 e.power.1 e.lower_bound e.upper_bound ∙ ap power_for c.from.ensures
