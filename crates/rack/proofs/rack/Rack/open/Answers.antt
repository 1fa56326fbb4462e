use Rattle.std.proofs.Common.{◌≡◌, ℕ, ◌*◌, ◌<◌, ◌≤◌, List, length, Option, sym, subst, arith, rules}
use Rattle.runs.specs.declared.run.Run.{Run}
use Rattle.pool.specs.declared.block.Block.{Block}
use Rattle.pool.specs.Blocks.{BlockOnLoan}
use Rattle.pool.specs.Take.{Taken, AddsBlock}
use Rattle.rack.specs.declared.line.Line.{Line}
use Rattle.rack.specs.Lines.{line, used}
use Rattle.rack.proofs.Keeping.{Tidy}
use Rattle.rack.proofs.Loans.{adds_on, adds_plain, tidy_opened}
use Rattle.rack.proofs.Parts.{tidy_of}
use Rattle.rack.proofs.rack.Rack.open.Goals as goal

pub invariant_of-self : goal.invariant_of-self
invariant_of-self g c =
    let s = c.args.self.now in
    let p = c.open.new.self.pool in
    let n = c.in_ok-number.number.value in
    let ls = s.inner.lines in
    let w = g.K.Kind.wide in
    let d = s.inner.pool.supply in
    let R = g.S.Supply.rule d in
    let f : List (Option Run) → Block → Type 0 = λ rs b. ∥ BlockOnLoan rs b ∥₁ in
    let rs = s.inner.pool.runs.table in
    let ts = p.runs.table in
    let v = g.S.Supply.table d in
    let u = g.S.Supply.table p.supply in
    let o = c.open.ensures.opened in
    let few : c.args.length * c.width.result ≤ 130560 = search rules in
    let h : n < length ls = omega (arith, s.inner.many, c.in_ok-number.number.within) in
    let free : used (line ls n).state ≡ 0 = search rules in
    let some : 0 < c.args.length = search rules in
    let taken = subst (λ (x : ℕ). Taken R (c.args.length * x) rs ts v u o.answer) c.width.ensures o.taken in
    let after = tidy_opened f w ls rs ts v u n h (tidy_of s) R c.args.length o.answer taken
    (λ b is. adds_plain (BlockOnLoan rs) (BlockOnLoan ts) b (adds_on rs ts u p.out p.differ (g.met.S.Supply.inside p.supply) (g.met.S.Supply.apart p.supply) b (subst (AddsBlock rs ts) is o.adds)))
    free some (subst (λ (x : ℕ). c.args.length * x ≤ 130560) c.width.ensures few) in
    let t = subst (λ (xs : List Line). Tidy (f ts) w xs) (sym o.lines) after in
    record { placed = t.placed; short = t.short; lent = t.lent; differ = t.differ }
