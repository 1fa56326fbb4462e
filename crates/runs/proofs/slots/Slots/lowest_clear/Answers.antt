-- The lowest clear bit is in the first word that is not full.
use Rattle.std.proofs.Common.{◌≡◌, ℕ, ◌-◌, ◌^◌, ◌<◌, ◌≢◌, get_or, arith, rules}
use Rattle.std.proofs.lemmas.Grind.{common_steps}
use Rattle.runs.specs.Loans.{loans}
use Rattle.runs.proofs.Bitmaps.{length_bits, lowest_full, lowest_gap}
use Rattle.runs.proofs.slots.Slots.lowest_clear.Goals as goal

pub returns-in_err-i : goal.returns-in_err-i
unfolding loans
returns-in_err-i c =
    let s = c.args.self.now in
    let full : (j : ℕ) → j < 8 → get_or s.words j 0 ≡ 2 ^ 32 - 1 = λ j h. grind (arith, common_steps) in
    rw c.from_residual.ensures (lowest_full s.words s.total 8 full (omega arith))

pub returns : goal.returns
unfolding loans
returns c =
    let s = c.args.self.now in
    let i = c.in_ok-i.i in
    let full : (j : ℕ) → j < i → get_or s.words j 0 ≡ 2 ^ 32 - 1 = λ j h. grind (arith, common_steps) in
    let gap : get_or s.words i 0 ≢ 2 ^ 32 - 1 = λ e. grind (arith, common_steps) in
    let fits : get_or s.words i 0 < 2 ^ 32 = search rules in
    rw (c.then_some.ensures, c.trailing_ones.ensures, c.total.ensures, length_bits) (lowest_gap s.words s.total i full fits gap)
