-- A page more is asked where there is nothing out and a page to spare.
use Rattle.std.proofs.Common.{◌≡◌, ◌∙◌, sym, inl, inr, arith}
use Rattle.guard.specs.GuardRule.{extra_pages}
use Rattle.guard.specs.Guarding.{new_kept, extra_one, extra_none}
use Rattle.guard.proofs.Guard.new.Goals as goal
use Rattle.guard.proofs.Guard.new.Goals.{then-largest-gt1+then-pages-eq0, else-largest-gt1, else-largest-gt1-via-then-largest-gt1+else-pages-eq0, else-largest-gt1-via-else-largest-gt1}

pub invariant_of-result : goal.invariant_of-result
invariant_of-result g c =
    let s = c.args.supply in
    let t = g.S.Supply.table s in
    let L = (g.S.Supply.rule s).largest in
    let p = c.pages_out-pages.ensures in
    let e : c.if-largest-gt1.more ≡ extra_pages L t =
    elim c.if-largest-gt1.branch [
      | then-largest-gt1+then-pages-eq0 w ↦ w.more-is ∙ sym (extra_one L t (omega arith) (omega arith))
      | else-largest-gt1 w ↦ w.more-is ∙ sym (elim w.else-largest-gt1.branch [ else-largest-gt1-via-then-largest-gt1+else-pages-eq0 v ↦ extra_none L t (inr (λ z. omega arith)) | else-largest-gt1-via-else-largest-gt1 v ↦ extra_none L t (inl (omega arith)) ])
    ] in
    let k = new_kept L c.pages_out-pages.result c.if-largest-gt1.more t p (g.met.S.Supply.largest_bounds s).0 e in
    record { one = k.0; less = k.1.0; above = k.1.1.0; counted = k.1.1.1 }
