-- A buddy supply of 16 pages: where 5, 3 and 4 pages go, and that no page is left.
use Rattle.std.proofs.Common.{◌≡◌, ℕ, ◌+◌, ◌%◌, ◌<◌, ◌≤◌, List, set, replicate, Result, sym, refl, ap, ◌∙◌, subst, inl, ⊎_elim, arith}
use Rattle.std.proofs.lemmas.Bool.{cases_lt}
use Rattle.pages.specs.declared.fault.SupplyFault.{SupplyFault}
use Rattle.pages.specs.declared.run.Run.{Run}
use Rattle.pages.specs.Rule.{SameRule}
use Rattle.pages.specs.Table.{Free}
use Rattle.pages.specs.Calls.{Taken}
use Rattle.pages.specs.Tables.{get_or_zeros}
use Rattle.buddy.specs.Reserve.{power_for, reserves}
use Rattle.buddy.specs.BuddyRule.{FreeReserve, BuddyFits, LowestReserve, buddy as rule_of}
use Rattle.buddy.specs.Powers.{power_is}
use Rattle.buddy.specs.Reserves.{reserves_set}
use Rattle.pages.proofs.SameRules.{same_rule}
use Rattle.supplies.specs.Edges.{Went, Refused}
use Rattle.supplies.proofs.Lands.{lands, unfit, lowest_one, free_nothing, free_put, busy}

-- the tables of runs, and those of their reserves
abbrev t0 : List ℕ
t0 = replicate 16 0

abbrev t1 : List ℕ
t1 = set t0 0 5

abbrev t2 : List ℕ
t2 = set t1 8 3

abbrev t3 : List ℕ
t3 = set t2 12 4

abbrev r1 : List ℕ
r1 = set t0 0 8

abbrev r2 : List ℕ
r2 = set r1 8 4

abbrev r3 : List ℕ
r3 = set r2 12 4

p5 : power_for 5 ≡ 8
p5 = sym (power_is 5 8 3 refl (omega arith) (omega arith))

p3 : power_for 3 ≡ 4
p3 = sym (power_is 3 4 2 refl (omega arith) (omega arith))

p4 : power_for 4 ≡ 4
p4 = sym (power_is 4 4 2 refl (omega arith) (omega arith))

p1 : power_for 1 ≡ 1
p1 = sym (power_is 1 1 0 refl (omega arith) (omega arith))

e0 : reserves t0 ≡ t0
e0 = refl

e1 : reserves t1 ≡ r1
e1 = reserves_set t0 0 5 (omega arith) ∙ ap (λ (z : ℕ). set t0 0 z) p5

e2 : reserves t2 ≡ r2
e2 = reserves_set t1 8 3 (omega arith) ∙ ap (λ (z : ℕ). set (reserves t1) 8 z) p3 ∙ ap (λ (x : List ℕ). set x 8 4) e1

e3 : reserves t3 ≡ r3
e3 = reserves_set t2 12 4 (omega arith) ∙ ap (λ (z : ℕ). set (reserves t2) 12 z) p4 ∙ ap (λ (x : List ℕ). set x 12 4) e2

-- the rule with a known power and known reserves
module _ (c z : ℕ) (t R : List ℕ) (e : power_for c ≡ z) (d : reserves t ≡ R) where
  known_reserve : (p : ℕ) → FreeReserve 16 t c p → (p % z ≡ 0) × (p + z ≤ 16) × Free R p z
  known_reserve p h =
      subst (λ (x : List ℕ). (p % z ≡ 0) × (p + z ≤ 16) × Free x p z) d
      (subst (λ (m : ℕ). (p % m ≡ 0) × (p + m ≤ 16) × Free (reserves t) p m) e h)

  reserve_known : (p : ℕ) → (p % z ≡ 0) × (p + z ≤ 16) × Free R p z → FreeReserve 16 t c p
  reserve_known p h =
      subst (λ (m : ℕ). (p % m ≡ 0) × (p + m ≤ 16) × Free (reserves t) p m) (sym e)
      (subst (λ (x : List ℕ). (p % z ≡ 0) × (p + z ≤ 16) × Free x p z) (sym d) h)

  lowest_known : (p : ℕ) → (p % z ≡ 0) × (p + z ≤ 16) × Free R p z → ((q : ℕ) → q < p → Free R q z → ⊥) → LowestReserve 16 t c p
  lowest_known p h low = (reserve_known p h, λ q l f. low q l (known_reserve q f).2)

at0 : LowestReserve 16 t0 5 0
at0 = lowest_known 5 8 t0 t0 p5 e0 0 (refl, omega arith, free_nothing t0 0 8 (get_or_zeros 16)) (λ q l f. omega arith)

-- the reserve of 8 at 0 is in the way of every lower place
low8 : (q z : ℕ) → 0 < z → q < 8 → Free r1 q z → ⊥
low8 q z s l = busy r1 0 8 q z refl (omega arith) (omega arith) (omega arith)

at8 : LowestReserve 16 t1 3 8
at8 = lowest_known 3 4 t1 r1 p3 e1 8 (refl, omega arith, free_put t0 0 8 8 4 (omega arith) (free_nothing t0 8 4 (get_or_zeros 16)) (inl (omega arith))) (λ q l f. low8 q 4 (omega arith) l f)

low12 : (q z : ℕ) → 0 < z → q < 12 → Free r2 q z → ⊥
low12 q z s l f = ⊎_elim (λ b. busy r2 0 8 q z refl (omega arith) (omega arith) (omega arith) f) (λ b. busy r2 8 4 q z refl (omega arith) (omega arith) (omega arith) f) (cases_lt q 8)

at12 : LowestReserve 16 t2 4 12
at12 =
    lowest_known 4 4 t2 r2 p4 e2 12
    (refl, omega arith, free_put r1 8 4 12 4 (omega arith) (free_put t0 0 8 12 4 (omega arith) (free_nothing t0 12 4 (get_or_zeros 16)) (inl (omega arith))) (inl (omega arith)))
    (λ q l f. low12 q 4 (omega arith) l f)

full : BuddyFits 16 t3 1 → ⊥
full h =
    let q = h.1.0 in
    let k = known_reserve 1 1 t3 r3 p1 e3 q h.1.1 in
    ⊎_elim (λ b. busy r3 0 8 q 1 refl (omega arith) (omega arith) (omega arith) k.2)
    (λ b. ⊎_elim (λ d. busy r3 8 4 q 1 refl (omega arith) (omega arith) (omega arith) k.2) (λ d. busy r3 12 4 q 1 refl (omega arith) (omega arith) (omega arith) k.2) (cases_lt q 12))
    (cases_lt q 8)

module _ (n : ℕ) (e : n ≡ 16) where
  same : SameRule (rule_of 16) (rule_of n)
  same = subst (λ (m : ℕ). SameRule (rule_of 16) (rule_of m)) (sym e) (same_rule (rule_of 16))

  went : (c p : ℕ) (t v u : List ℕ) (r : Result Run SupplyFault) → Taken (rule_of n) c v u r → v ≡ t → 0 < c → c ≤ 16 → LowestReserve 16 t c p → Went p c r × (u ≡ set t p c)
  went c p t v u r h d some most low = lands (rule_of 16) (rule_of n) same c p t v u r h d some most (some, (p, low.0)) (λ q l. lowest_one (FreeReserve 16 t c) p q low l)

  pub went5 : (v u : List ℕ) (r : Result Run SupplyFault) → Taken (rule_of n) 5 v u r → v ≡ replicate 16 0 → Went 0 5 r × (u ≡ t1)
  went5 v u r h d = went 5 0 t0 v u r h d (omega arith) (omega arith) at0

  pub went3 : (v u : List ℕ) (r : Result Run SupplyFault) → Taken (rule_of n) 3 v u r → v ≡ t1 → Went 8 3 r × (u ≡ t2)
  went3 v u r h d = went 3 8 t1 v u r h d (omega arith) (omega arith) at8

  pub went4 : (v u : List ℕ) (r : Result Run SupplyFault) → Taken (rule_of n) 4 v u r → v ≡ t2 → Went 12 4 r × (u ≡ t3)
  went4 v u r h d = went 4 12 t2 v u r h d (omega arith) (omega arith) at12

  pub none1 : (v u : List ℕ) (r : Result Run SupplyFault) → Taken (rule_of n) 1 v u r → v ≡ t3 → Refused 12 1 r
  none1 v u r h d = unfit (rule_of 16) (rule_of n) same 1 t3 v u r h d (omega arith) (omega arith) full
