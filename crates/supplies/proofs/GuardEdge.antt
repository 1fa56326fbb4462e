-- A guard over a first fit of 16 pages: where 4 and 5 pages go.
use Rattle.std.proofs.Common.{◌≡◌, ℕ, List, set, replicate, Result, sym, refl, subst, inl, arith}
use Rattle.pages.specs.declared.fault.SupplyFault.{SupplyFault}
use Rattle.pages.specs.declared.run.Run.{Run}
use Rattle.pages.specs.Rule.{Rule, SameRule}
use Rattle.pages.specs.Calls.{Taken}
use Rattle.pages.specs.FirstFitRule.{FreeRow, LowestRow, first_fit}
use Rattle.pages.specs.Tables.{get_or_zeros}
use Rattle.guard.specs.GuardRule.{guarded}
use Rattle.pages.proofs.SameRules.{same_rule}
use Rattle.supplies.specs.Edges.{Went}
use Rattle.supplies.proofs.Lands.{lands, lowest_one, free_nothing, free_put, busy}

abbrev pub g0 : List ℕ
g0 = replicate 16 0

abbrev pub g1 : List ℕ
g1 = set g0 0 4

-- the table below, once the first run is taken
abbrev below1 : List ℕ
below1 = set g0 0 5

-- the rule of a guard over a first fit of 16 pages
abbrev pub rule : Rule
rule = guarded 1 (first_fit 16)

at0 : LowestRow 16 g0 5 0
at0 = ((omega arith, free_nothing g0 0 5 (get_or_zeros 16)), λ q l f. omega arith)

at5 : LowestRow 16 below1 6 5
at5 = ((omega arith, free_put g0 0 5 5 6 (omega arith) (free_nothing g0 5 6 (get_or_zeros 16)) (inl (omega arith))), λ q l f. busy below1 0 5 q 6 refl (omega arith) (omega arith) (omega arith) f.1)

module _ (Q : Rule) (s : SameRule rule Q) where
  pub went4 : (v u : List ℕ) (r : Result Run SupplyFault) → Taken Q 4 v u r → v ≡ g0 → Went 0 4 r × (u ≡ g1)
  went4 v u r h e = lands rule Q s 4 0 g0 v u r h e (omega arith) (omega arith) (omega arith, (omega arith, (0, at0.0))) (λ q k. lowest_one (FreeRow 16 g0 5) 0 q at0 k)

  pub went5 : (v u : List ℕ) (r : Result Run SupplyFault) → Taken Q 5 v u r → v ≡ g1 → Went 5 5 r × (u ≡ set g1 5 5)
  went5 v u r h e = lands rule Q s 5 5 g1 v u r h e (omega arith) (omega arith) (omega arith, (omega arith, (5, at5.0))) (λ q k. lowest_one (FreeRow 16 below1 6) 5 q at5 k)

pub same_guard : (n k : ℕ) → n ≡ 16 → k ≡ 1 → SameRule rule (guarded k (first_fit n))
same_guard n k e d =
    subst (λ (m : ℕ). SameRule rule (guarded k (first_fit m))) (sym e) (subst (λ (m : ℕ). SameRule rule (guarded m (first_fit 16))) (sym d) (same_rule rule))
