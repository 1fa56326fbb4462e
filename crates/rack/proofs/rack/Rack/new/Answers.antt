use Rattle.std.proofs.Common.{List, sym, subst}
use Rattle.pool.specs.declared.block.Block.{Block}
use Rattle.pool.specs.Blocks.{BlockOnLoan}
use Rattle.rack.specs.declared.line.Line.{Line}
use Rattle.rack.proofs.Keeping.{Tidy, tidy_new}
use Rattle.rack.proofs.rack.Rack.new.Goals as goal

pub invariant_of-result : goal.invariant_of-result
invariant_of-result g c =
    let P : Block → Type 0 = λ b. ∥ BlockOnLoan c.new.result.pool.runs.table b ∥₁ in
    let t = subst (λ (ls : List Line). Tidy P g.K.Kind.wide ls) (sym c.new.ensures.lines) (tidy_new P g.K.Kind.wide) in
    record { placed = t.placed; short = t.short; lent = t.lent; differ = t.differ }
