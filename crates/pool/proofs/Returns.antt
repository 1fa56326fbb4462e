-- A slot that comes back, and a run that goes back.
use Rattle.std.proofs.Common.{◌≡◌, ℕ, ◌+◌, ◌<◌, true, false, eqb, List, get_or, set, Some, None, Ok, Err, Option, Result, sym, refl, ap, ◌∙◌, subst, ⊎_elim, arith}
use Rattle.std.proofs.lemmas.List.{get_or-set_other}
use Rattle.std.proofs.lemmas.Bool.{eqb-false}
use Rattle.pages.specs.declared.fault.SupplyFault.{SupplyFault}
use Rattle.pages.specs.Rule.{Rule}
use Rattle.pages.specs.Table.{Out}
use Rattle.pages.specs.Calls.{Given}
use Rattle.runs.specs.declared.run.Run.{Run}
use Rattle.runs.specs.Shapes.{slots_in}
use Rattle.runs.specs.Table.{free, is_on_loan, RestoresAt, RestoresTo}
use Rattle.runs.proofs.Laws.{free_restore}
use Rattle.pool.specs.State.{Entry}
use Rattle.pool.proofs.States.{State, at_index, none_some, entry_within, state_swap}

-- a run that is out is given
given_is : (R : Rule) (first count : ℕ) (v w : List ℕ) (o : Result (Unit {0}) SupplyFault) → Given R first count v w o → Out v first count → w ≡ set v first 0
given_is R first count v w (Ok x) h e = h.after_is
given_is R first count v w (Err x) h e = absurd (h.was_not e)

module _ (rs : List (Option Run)) (v : List ℕ) (s : State rs v) (i : ℕ) (r : Run) (here : get_or rs i None ≡ Some r) where
  -- an entry that is left begins elsewhere
  left : (x : Entry (set rs i None)) → (y : Entry rs) × (x.0 ≡ y.0) × (x.1 ≡ y.1) × (x.1.first ≡ r.first → ⊥)
  left x =
      ⊎_elim
      (λ h. absurd (none_some x.1 h.1))
      (λ h. let y : Entry rs = (x.0, x.1, h.1) in (y, refl, refl, λ e. h.0 (s.differ y (i, r, here) e)))
      (at_index rs i None x.0 x.1 (entry_within rs i r here) x.2)

  state_close : State (set rs i None) (set v r.first 0)
  state_close =
      record {
        out = λ x. let y : Entry rs = (left x).0 in let o = s.out y in subst (λ (t : Run). Out (set v r.first 0) t.first t.shape.count) (sym (left x).2) (o.0, get_or-set_other v r.first y.1.first 0 0 (λ e. (left x).3 (ap (λ (t : Run). t.first) (left x).2 ∙ e)) ∙ o.1);
        differ = λ x y e. let h = left x in let j = left y in h.1 ∙ s.differ h.0 j.0 (ap (λ (t : Run). t.first) (sym h.2) ∙ e ∙ ap (λ (t : Run). t.first) j.2) ∙ sym j.1;
        used = λ x. subst (λ (t : Run). free t < slots_in t.shape) (sym (left x).2) (s.used (left x).0);
      }

  module _ (f n : ℕ) (a : f ≡ r.first) (b : n ≡ r.shape.count) where
    pub out_here : Out v f n
    out_here = let o = s.out (i, r, here) in (omega (arith, o.0, b), ap (λ (m : ℕ). get_or v m 0) a ∙ o.1 ∙ sym b)

    pub state_closed : (R : Rule) (ts : List (Option Run)) (w : List ℕ) (o : Result (Unit {0}) SupplyFault) → ts ≡ set rs i None → Given R f n v w o → State ts w
    state_closed R ts w o e h =
        let k : w ≡ set v r.first 0 = given_is R f n v w o h out_here ∙ ap (λ (m : ℕ). set v m 0) a in
        subst (λ (us : List (Option Run)). State us w) (sym e) (subst (λ (u : List ℕ). State (set rs i None) u) (sym k) state_close)

  -- the slot was not the run's last on loan
  pub more_than : eqb (free r + 1) (slots_in r.shape) ≡ false → free r + 1 < slots_in r.shape
  more_than e = omega (arith, eqb-false (free r + 1) (slots_in r.shape) e, s.used (i, r, here))

  pub state_restore : (n : ℕ) (ts : List (Option Run)) → is_on_loan r n ≡ true → free r + 1 < slots_in r.shape → RestoresAt rs i n ts → State ts v
  state_restore n ts lent more h =
      let k : RestoresTo (Some r) rs i n ts = subst (λ (o : Option Run). RestoresTo o rs i n ts) here h in
      let t = k.0 in
      let e = k.2 in
      subst (λ (us : List (Option Run)). State us v) (sym k.1)
      (state_swap rs v s i r t here (record { first = e.first; shape = e.shape; used = omega (arith, free_restore r t n lent e, ap slots_in e.shape) }))
