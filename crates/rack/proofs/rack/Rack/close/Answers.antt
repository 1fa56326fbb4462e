use Rattle.std.proofs.Common.{◌<◌, List, length, sym, refl, subst, arith, rules}
use mathlib.Core.Logic.{∥∥₁_map}
use Rattle.pool.specs.declared.block.Block.{Block}
use Rattle.pool.specs.Blocks.{BlockOnLoan}
use Rattle.rack.specs.declared.line.Line.{Line}
use Rattle.rack.specs.Lines.{line, InUse}
use Rattle.rack.specs.Holds.{block_at}
use Rattle.rack.proofs.Keeping.{Tidy, tidy_close}
use Rattle.rack.proofs.Parts.{tidy_of}
use Rattle.rack.proofs.rack.Rack.close.Goals as goal

pub close-requires : goal.close-requires
close-requires g c =
    let s = c.args.self.now in
    let l = line s.inner.lines c.in_ok-number.number.value in
    let u : InUse l = search rules in
    ∥∥₁_map (s.lent c.in_ok-number.number.value u) (λ b. (block_at g.K.Kind.wide l, b, refl))

pub invariant_of-self : goal.invariant_of-self
invariant_of-self g c =
    let s = c.args.self.now in
    let n = c.in_ok-number.number.value in
    let ls = s.inner.lines in
    let w = g.K.Kind.wide in
    let P : Block → Type 0 = λ b. ∥ BlockOnLoan s.inner.pool.runs.table b ∥₁ in
    let Q : Block → Type 0 = λ b. ∥ BlockOnLoan c.close.new.self.pool.runs.table b ∥₁ in
    let h : n < length ls = omega (arith, s.inner.many, c.in_ok-number.number.within) in
    let u : InUse (line ls n) = search rules in
    let after = tidy_close P Q w ls n h u (λ b x ne. ∥∥₁_map x (λ y. c.close.ensures.drops.kept b y ne)) (tidy_of s) in
    let t = subst (λ (xs : List Line). Tidy Q w xs) (sym c.close.ensures.lines) after in
    record { placed = t.placed; short = t.short; lent = t.lent; differ = t.differ }
