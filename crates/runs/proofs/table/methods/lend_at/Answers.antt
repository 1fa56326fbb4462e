-- The run that lends is the one at the index.
use Rattle.std.proofs.Common.{None, sym, ◌∙◌, subst}
use Rattle.std.proofs.lemmas.List.{get_or_default, set-get_or}
use Rattle.runs.specs.Table.{NoneFree}
use Rattle.runs.proofs.Places.{loan_at, loan_past}
use Rattle.runs.proofs.table.methods.lend_at.Goals as goal

pub returns-then-index-table : goal.returns-then-index-table
returns-then-index-table c = loan_past c.args.table.now c.args.index c.if-index-table.true

pub returns : goal.returns
returns c =
    let rs = c.args.table.now in
    loan_at rs c.args.index c.in_ok-as_mut.field-0.now c.lend.new.self c.lend.result
    (get_or_default rs c.args.index None c.index-table-index.result c.if-index-table.false ∙ sym c.in_ok-as_mut.ensures.value) c.lend.ensures

pub returns-in_err-as_mut : goal.returns-in_err-as_mut
returns-in_err-as_mut c =
    let rs = c.args.table.now in
    let e = get_or_default rs c.args.index None c.index-table-index.result c.if-index-table.false ∙ sym c.in_err-as_mut.ensures.value in
    rw c.from_residual.ensures (subst NoneFree (sym e) tt, set-get_or rs c.args.index c.index-table-index.result)
