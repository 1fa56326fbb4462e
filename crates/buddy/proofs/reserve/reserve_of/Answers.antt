-- The reserve of a run is its power of two, the smallest that holds it.
use Rattle.std.proofs.Common.{ℕ, sym, ◌∙◌, subst}
use Rattle.buddy.specs.Reserve.{Smallest}
use Rattle.buddy.specs.Powers.{power_smallest, power_reserve}
use Rattle.buddy.proofs.reserve.reserve_of.Goals as goal

pub returns-then-count-gt-MAX_SPAN-clause-powers : goal.returns-then-count-gt-MAX_SPAN-clause-powers
returns-then-count-gt-MAX_SPAN-clause-powers c = power_smallest

pub returns-clause-smallest : goal.returns-clause-smallest
returns-clause-smallest c p l = subst (λ (z : ℕ). Smallest c.args.count z) (sym (c.reserve.ensures ∙ power_reserve c.args.count p)) (power_smallest c.args.count)

pub returns-clause-powers : goal.returns-clause-powers
returns-clause-powers c = power_smallest
