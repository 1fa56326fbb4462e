-- The run that takes a slot back is the one at the index.
use Rattle.std.proofs.Common.{None, sym, refl, ◌∙◌}
use Rattle.std.proofs.lemmas.List.{get_or_default, get_or_past, set-get_or}
use Rattle.runs.proofs.Places.{restore_at_lem, restore_none}
use Rattle.runs.proofs.table.methods.restore_at.Goals as goal

pub returns-in-Some : goal.returns-in-Some
returns-in-Some c =
    let rs = c.args.table.now in
    restore_at_lem rs c.args.index c.in-Some.run'.now c.restore.new.self c.args.slot
    (get_or_default rs c.args.index None c.index-table-index.result c.if-index-table.true ∙ sym c.in-Some.ensures.value) c.restore.ensures

pub returns-in_default : goal.returns-in_default
returns-in_default c =
    let rs = c.args.table.now in
    restore_none rs _ c.args.index c.args.slot
    (get_or_default rs c.args.index None c.index-table-index.result c.if-index-table.true ∙ sym c.in_default.ensures.value)
    (set-get_or rs c.args.index c.index-table-index.result)

pub returns-else-index-table : goal.returns-else-index-table
returns-else-index-table c = let rs = c.args.table.now in restore_none rs rs c.args.index c.args.slot (get_or_past rs c.args.index None c.if-index-table.false) refl
