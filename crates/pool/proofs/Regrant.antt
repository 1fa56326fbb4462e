-- After a block came back, its request is granted.
use Rattle.std.proofs.Common.{◌≡◌, ℕ, ◌+◌, ◌<◌, ◌≤◌, true, ltb, ◌⊎◌, List, length, get_or, is_ok, Some, None, Ok, Err, Option, Result, sym, refl, ap, ◌∙◌, subst, inl, inr, ⊎_elim, arith}
use Rattle.std.proofs.lemmas.List.{get_or-set_same, length-set}
use Rattle.std.proofs.lemmas.Bool.{cases_eq, cases_lt, false≢true, and_from, eq-eqb, lt-ltb}
use Rattle.classes.specs.Rule.{pages_of}
use Rattle.pages.specs.Rule.{Rule, SameRule}
use Rattle.runs.specs.declared.run.Run.{Run}
use Rattle.runs.specs.declared.shape.Shape.{Shape}
use Rattle.runs.specs.declared.table.Spot.{Spot}
use Rattle.runs.specs.Shapes.{ShapeOf, slots_in, slots_by}
use Rattle.runs.specs.Table.{free, vacant, is_class, RestoresTo}
use Rattle.runs.proofs.Laws.{free_restore}
use Rattle.pool.specs.declared.block.Block.{Block}
use Rattle.pool.specs.declared.fault.PoolFault.{PoolFault}
use Rattle.pool.specs.State.{Entry}
use Rattle.pool.specs.Blocks.{OnLoan}
use Rattle.pool.specs.Take.{Full, Taken, Reuses}
use Rattle.pool.specs.Release.{Restored}
use Rattle.pool.proofs.States.{entry_within}
use Rattle.pool.proofs.Reuse.{one_smallest}

-- a request has a class, or is too long for one
split : (n : ℕ) → (n ≤ 1792) ⊎ (1792 < n)
split n = ⊎_elim (λ h. inl (omega arith)) (λ h. inr (omega arith)) (cases_lt n 1793)

-- two shapes for one request have the same pages
same_count : (bytes : ℕ) (s z : Shape) → ShapeOf bytes s → ShapeOf bytes z → s.count ≡ z.count
same_count bytes s z h k =
    ⊎_elim
    (λ l.
    let a = h.classed l in
    let b = k.classed l in
    s.paged.1 a.0 a.1 ∙ ap pages_of (one_smallest bytes a.0.number b.0.number a.2 b.2) ∙ sym (z.paged.1 b.0 b.1))
    (λ l.
    let a = (h.own l).1 in
    let b = (k.own l).1 in
    omega (arith, a.least z.count b.holds, b.least s.count a.holds))
    (split bytes)

-- a table with a vacant index is not full
pub not_full : (ts : List (Option Run)) (i : ℕ) → i < length ts → get_or ts i None ≡ None → Full ts → ⊥
not_full ts i l e h = false≢true (sym (h i l) ∙ ap vacant e)

module _ (R Q : Rule) (same : SameRule R Q) (bounds : (t : List ℕ) (c : ℕ) → Q.fits t c → (0 < c) × (c ≤ Q.largest))
    (bytes : ℕ) (rs us ts : List (Option Run)) (v u w : List ℕ) (p : Spot) (l : OnLoan rs p) (asked : ShapeOf bytes p.run.shape) (back : Restored R p rs us v u) where
  -- the run went back: its index is vacant, and its count fits
  last_granted : free p.run + 1 ≡ slots_in p.run.shape → (r : Result Block PoolFault) → Taken Q bytes us ts u w r → is_ok r ≡ true
  last_granted e (Ok b) h = refl
  last_granted e (Err f) h =
      let k = back.last e in
      let within = entry_within rs p.index p.run l.0 in
      let long : length us ≡ length rs = ap length k.0 ∙ length-set rs p.index None in
      let empty : get_or us p.index None ≡ None = ap (λ (xs : List (Option Run)). get_or xs p.index None) k.0 ∙ get_or-set_same rs p.index None None within in
      let n = h.unbegun asked.some asked.within in
      let t = n.3.unsupplied (not_full us p.index (omega arith) empty) in
      let count : n.0.count ≡ p.run.shape.count = same_count bytes n.0 p.run.shape n.1 asked in
      let fit : Q.fits u n.0.count = subst (Q.fits u) (sym count) ((same.fits u p.run.shape.count).0 k.1.fit) in
      let b = bounds u n.0.count fit in
      absurd ((t.1.unfit b.0 b.1).1 fit)

  -- the run stayed: its slot is free
  more_granted : free p.run + 1 < slots_in p.run.shape → (r : Result Block PoolFault) → Reuses bytes us u w r → is_ok r ≡ true
  more_granted e r h =
      ⊎_elim
      (λ small.
      let k = subst (λ (o : Option Run). RestoresTo o rs p.index p.slot us) l.0 (back.more e).0 in
      let t = k.0 in
      let c = asked.classed small in
      let n = c.0.number in
      let x : Entry us = (p.index, t, ap (λ (xs : List (Option Run)). get_or xs p.index None) k.1 ∙ get_or-set_same rs p.index (Some t) None (entry_within rs p.index p.run l.0)) in
      let of : is_class n t.shape.class ≡ true = ap (λ (z : Shape). is_class n z.class) k.2.shape ∙ ap (is_class n) c.1 ∙ eq-eqb n n refl in
      let some : ltb 0 (free t) ≡ true = lt-ltb 0 (free t) (omega (arith, free_restore p.run t p.slot l.1 k.2)) in
      (h n c.2 x (and_from (is_class n t.shape.class) (ltb 0 (free t)) of some)).0)
      (λ large. absurd (omega (arith, e, ap slots_by (asked.own large).0)))
      (split bytes)

  pub granted_again : free p.run < slots_in p.run.shape → (r : Result Block PoolFault) → Taken Q bytes us ts u w r → Reuses bytes us u w r → is_ok r ≡ true
  granted_again used r h k =
      ⊎_elim (λ e. last_granted e r h) (λ d. more_granted (omega arith) r k) (cases_eq (free p.run + 1) (slots_in p.run.shape))
