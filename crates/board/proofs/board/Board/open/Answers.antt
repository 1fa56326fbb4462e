use Rattle.std.proofs.Common.{Ok, Err, refl, rules}
use Rattle.trace.proofs.Promises.{promised}
use Rattle.board.specs.Calls.{BoardOpens}
use Rattle.board.specs.Views.{seen}
use Rattle.board.proofs.Admission.{refused}
use Rattle.board.proofs.Calls.{opens}
use Rattle.board.proofs.board.Board.open.Goals as goal

pub returns-in_err-offset-clause-opens : goal.returns-in_err-offset-clause-opens
returns-in_err-offset-clause-opens g c bytes =
    let b = c.args.self.now in
    let met = g.met.K.Kind in
    let p = promised b.rack g.met.S.Supply.fits_bounds met.long met.least met.back in
    let m = seen b bytes in
    let n = seen (record { rack = c.open.new.self; mark = b.mark }) bytes in
    let f = c.in_err-offset.field-0.0 in
    refused (BoardOpens m n c.args.line c.args.length) f c.from_residual.result c.from_residual.ensures.1 (opens m n p c.args.line c.args.length (Err f) (c.in_err-offset.ensures.opens bytes) (Err f) refl)

pub returns-clause-opens : goal.returns-clause-opens
returns-clause-opens g c bytes =
    let b = c.args.self.now in
    let met = g.met.K.Kind in
    let p = promised b.rack g.met.S.Supply.fits_bounds met.long met.least met.back in
    let m = seen b bytes in
    let n = seen (record { rack = c.open.new.self; mark = b.mark }) bytes in
    opens m n p c.args.line c.args.length (Ok c.in_ok-offset.offset) (c.in_ok-offset.ensures.opens bytes) _ (search rules)
