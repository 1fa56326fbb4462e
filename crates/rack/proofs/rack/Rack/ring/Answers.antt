use Rattle.std.proofs.Common.{◌<◌, List, length, Option, ap, arith, rules}
use Rattle.runs.specs.declared.run.Run.{Run}
use Rattle.pool.specs.declared.block.Block.{Block}
use Rattle.pool.specs.Blocks.{BlockOnLoan}
use Rattle.rack.specs.Lines.{line, InUse}
use Rattle.rack.proofs.Keeping.{tidy_rung, tidy_to}
use Rattle.rack.proofs.Parts.{tidy_of}
use Rattle.rack.proofs.rack.Rack.ring.Goals as goal

pub invariant_of-self : goal.invariant_of-self
invariant_of-self g c =
    let s = c.args.self.now in
    let n = c.in_ok-number.number.value in
    let ls = s.inner.lines in
    let rs = s.inner.pool.runs.table in
    let w = g.K.Kind.wide in
    let f : List (Option Run) → Block → Type 0 = λ rs b. ∥ BlockOnLoan rs b ∥₁ in
    let h : n < length ls = omega (arith, s.inner.many, c.in_ok-number.number.within) in
    let u : InUse (line ls n) = search rules in
    let t = tidy_to f w rs c.ring.new.self.pool.runs.table _ c.ring.new.self.lines (ap (λ p. p.runs.table) c.ring.ensures.pool) c.ring.ensures.lines (tidy_rung (f rs) w ls n h u (tidy_of s)) in
    record { placed = t.placed; short = t.short; lent = t.lent; differ = t.differ }
