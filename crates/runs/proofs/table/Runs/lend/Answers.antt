-- The fullest run has a free slot, so it lends one.
use Rattle.std.proofs.Common.{◌≡◌, ℕ, Option, get_or, Some, None, subst}
use Rattle.runs.specs.declared.run.Run.{Run}
use Rattle.runs.specs.Table.{Lends, LendsAt}
use Rattle.runs.proofs.Places.{serves_lends}
use Rattle.runs.proofs.table.Runs.lend.Goals as goal

pub unwrap-slot-requires : goal.unwrap-slot-requires
unwrap-slot-requires c =
    serves_lends c.args.class.number c.args.self.now.table c.in_ok-index.index c.lend_at.result _ c.in_ok-index.ensures.1 c.lend_at.ensures

pub returns : goal.returns
returns c =
    let rs = c.args.self.now.table in
    let run = c.unwrap-run.result in
    let here : get_or rs c.in_ok-index.index None ≡ Some run = cc in
    let l = subst (λ (o : Option ℕ). LendsAt rs c.in_ok-index.index o c.lend_at.new.table) c.unwrap-slot.ensures c.lend_at.ensures in
    let same : l.0 ≡ run = cc (l.2, here) in
    (c.in_ok-index.ensures, here, (l.1, l.3, subst (λ (r : Run). Lends r (Some c.unwrap-slot.result) l.1) same l.4))
