use Rattle.std.proofs.Common.{List, Option, ap, arith}
use Rattle.runs.specs.declared.run.Run.{Run}
use Rattle.pool.specs.declared.block.Block.{Block}
use Rattle.pool.specs.Blocks.{BlockOnLoan}
use Rattle.rack.proofs.Keeping.{tidy_fed, tidy_to}
use Rattle.rack.proofs.Parts.{tidy_of, housed}
use Rattle.rack.proofs.Rooms.{position_within, next_within}
use Rattle.rack.proofs.rack.Rack.write.Goals as goal

pub slice_bounds-code-end : goal.slice_bounds-code-end
slice_bounds-code-end g c =
    let s = c.args.self.now in
    let supply = g.met.S.Supply in
    let d = s.inner.pool.supply in
    let h = housed s (supply.inside d) (supply.apart d) g.met.K.Kind.least c.width-width.result c.width-width.ensures in
    let l = c.line-line.result in
    let n = c.args.number.value in
    let near = next_within _ _ s.inner.lines _ h l n c.line-line.ensures c.requires.used in
    omega (arith, position_within _ _ s.inner.lines _ h l n c.line-line.ensures c.requires.used l.next near, c.requires.whole)

pub invariant_of-self : goal.invariant_of-self
invariant_of-self g c =
    let s = c.args.self.now in
    let n = c.args.number.value in
    let f : List (Option Run) → Block → Type 0 = λ rs b. ∥ BlockOnLoan rs b ∥₁ in
    let ls = s.inner.lines in
    let rs = s.inner.pool.runs.table in
    let w = g.K.Kind.wide in
    let t = tidy_to f w rs c.advance.new.self.pool.runs.table _ c.advance.new.self.lines (ap (λ p. p.runs.table) c.advance.ensures.pool) c.advance.ensures.lines
    (tidy_fed (f rs) w ls n (omega (arith, s.inner.many, c.args.number.within)) c.requires.used (tidy_of s)) in
    record { placed = t.placed; short = t.short; lent = t.lent; differ = t.differ }
