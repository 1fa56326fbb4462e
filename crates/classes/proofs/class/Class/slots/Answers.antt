use Rattle.std.proofs.Common.{◌≡◌, ℕ, ◌*◌, ◌/◌, ◌^◌, ap, ◌∙◌}
use Rattle.classes.specs.Rule.{slots_of, size_of}
use Rattle.classes.proofs.Sizes.{slots_are, slots_fill}
use Rattle.classes.proofs.class.Class.slots.Goals as goal

pub returns : goal.returns
returns c =
    let n = c.args.self.number in
    let is : 512 / 2 ^ c.power.result ≡ slots_of n = ap (λ (i : ℕ). 512 / 2 ^ i) c.power.ensures ∙ slots_are n c.args.self.known in
    record { is = is; fill = ap (λ (m : ℕ). m * size_of n) is ∙ slots_fill n c.args.self.known }
