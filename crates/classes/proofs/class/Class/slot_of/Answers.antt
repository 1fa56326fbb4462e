use Rattle.std.proofs.Common.{◌<◌, arith}
use Rattle.classes.specs.Rule.{run_bytes}
use Rattle.classes.proofs.Sizes.{slot_is}
use Rattle.classes.proofs.class.Class.slot_of.Goals as goal

pub returns : goal.returns
returns c =
    let n = c.args.self.number in
    let p = c.args.place in
    let within : p < run_bytes n = omega arith in
    (within, rw (c.power.ensures, c.from.ensures) (slot_is n p within))
