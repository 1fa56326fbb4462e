use Rattle.std.proofs.Common.{sym, ◌∙◌}
use Rattle.layout.proofs.Texts.{unread}
use Rattle.layout.proofs.length.Goals as goal

pub returns-in_err-ok : goal.returns-in_err-ok
returns-in_err-ok c =
    rw c.from_residual.ensures (unread _ _ c.args.text.now c.from_utf8.result c.from_utf8.ensures.cases (sym c.ok.ensures.value ∙ c.in_err-ok.was))
