-- A pool's tables over its whole life, from its making over a supply with nothing out: every run out is one of the pool's.
use Rattle.std.proofs.Common.{◌≡◌, ℕ, ◌+◌, ◌<◌, ◌≤◌, true, List, length, get_or, set, replicate, Some, None, Ok, Err, Option, Result, sym, refl, ap, ◌∙◌, subst, ⊎_elim, arith, length-set}
use lib.ListN.{length-replicate}
use Rattle.std.proofs.lemmas.List.{get_or-set_same, get_or-set_other, get_or_past}
use Rattle.std.proofs.lemmas.Bool.{cases_eq, cases_lt, false≢true}
use Rattle.classes.specs.declared.class.Class.{Class}
use Rattle.pages.specs.declared.run.Run.{Run as Stretch}
use Rattle.pages.specs.Rule.{Rule}
use Rattle.pages.specs.Table.{Inside, Apart}
use Rattle.pages.specs.Calls.{Removed}
use Rattle.pages.specs.Tables.{get_or_zeros, at_set, put_inside, put_apart, clear_inside, clear_apart}
use Rattle.runs.specs.declared.run.Run.{Run}
use Rattle.runs.specs.declared.shape.Shape.{Shape}
use Rattle.runs.specs.declared.table.Spot.{Spot}
use Rattle.runs.specs.Shapes.{slots_in}
use Rattle.runs.specs.Table.{free, vacant, LendsOf, RestoresTo}
use Rattle.pool.specs.declared.block.Block.{Block}
use Rattle.pool.specs.declared.fault.PoolFault.{PoolFault}
use Rattle.pool.specs.State.{Entry}
use Rattle.pool.specs.Blocks.{OnLoan}
use Rattle.pool.specs.Take.{Taken, Lent, Begun}
use Rattle.pool.specs.Release.{Released}
use Rattle.pool.proofs.States.{State, no_run, state_none, none_some, entry_within, some_same, state_lend}
use Rattle.pool.proofs.Lending.{state_begun}
use Rattle.pool.proofs.Returns.{state_closed, state_restore}

-- each run out of the supply stands in the table
abbrev pub AllHeld : List (Option Run) → List ℕ → Type 0
AllHeld rs v = (f : ℕ) → 0 < get_or v f 0 → (x : Entry rs) × (x.1.first ≡ f)

pub record Alive (rs : List (Option Run)) (v : List ℕ) : Type 0 where
  pub long : length rs ≡ 128
  pub state : State rs v
  pub inside : Inside (length v) v
  pub apart : Apart v
  pub all : AllHeld rs v

pub alive_new : (span : ℕ) → Alive (replicate 128 None) (replicate span 0)
alive_new span =
    record {
      long = length-replicate 128 no_run;
      state = state_none (replicate 128 no_run) (replicate span 0) refl;
      inside = λ f p. absurd (omega (arith, get_or_zeros span f));
      apart = λ f g l p. absurd (omega (arith, get_or_zeros span g));
      all = λ f p. absurd (omega (arith, get_or_zeros span f));
    }

-- a run stands for another with the same first page
all_swap : (rs : List (Option Run)) (v : List ℕ) (i : ℕ) (r t : Run) → get_or rs i None ≡ Some r → t.first ≡ r.first → AllHeld rs v → AllHeld (set rs i (Some t)) v
all_swap rs v i r t here e all f p =
    let x = (all f p).0 in
    ⊎_elim
    (λ same.
    let old : x.1 ≡ r = some_same x.1 r (sym x.2 ∙ ap (λ (n : ℕ). get_or rs n None) same ∙ here) in
    ((i, t, get_or-set_same rs i (Some t) None (entry_within rs i r here)), e ∙ ap (λ (z : Run). z.first) (sym old) ∙ (all f p).1))
    (λ other. ((x.0, x.1, get_or-set_other rs i x.0 (Some t) None other ∙ x.2), (all f p).1))
    (cases_eq x.0 i)

vacant_none : (o : Option Run) → vacant o ≡ true → o ≡ None
vacant_none None e = refl
vacant_none (Some r) e = absurd (false≢true e)

module _ (rs : List (Option Run)) (v : List ℕ) (a : Alive rs v) where
  alive_lent : (class : ℕ) (ts : List (Option Run)) (p : Spot) → LendsOf class rs (Some p) ts → Alive ts v
  alive_lent class ts p h =
      let k = h.2 in
      record {
        long = ap length k.1 ∙ length-set rs p.index (Some k.0) ∙ a.long;
        state = state_lend class rs ts v (Some p) h a.state;
        inside = a.inside;
        apart = a.apart;
        all = subst (λ (xs : List (Option Run)). AllHeld xs v) (sym k.1) (all_swap rs v p.index p.run k.0 h.1 k.2.1.first a.all);
      }

  lent_by : (o : Option Class) (ts : List (Option Run)) (p : Spot) → Lent o rs ts p → Alive ts v
  lent_by (Some c) ts p h = alive_lent c.number ts p h
  lent_by None ts p h = absurd h

  alive_begun : (R : Rule) (s : Shape) (ts : List (Option Run)) (w : List ℕ) (p : Spot) → Begun R s rs ts v w p → Alive ts w
  alive_begun R s ts w p h =
      let t = p.run in
      let d = h.added in
      let z : t.first + s.count ≤ length v = d.inside in
      let l : t.first < length v = omega (arith, d.inside, d.some) in
      let stretch : Stretch = record { first = t.first; count = s.count } in
      let e = d.after_is in
      let long : length w ≡ length v = ap length e ∙ length-set v t.first s.count in
      record {
        long = ap length h.put ∙ length-set rs p.index (Some t) ∙ a.long;
        state = state_begun R s rs ts v w p.index stretch t d h.lowest h.put refl h.shape h.slots a.state;
        inside = subst (λ (n : ℕ). Inside n w) (sym long) (subst (Inside (length v)) (sym e) (put_inside (length v) v t.first s.count l z a.inside));
        apart = subst Apart (sym e) (put_apart v t.first s.count l d.free a.apart);
        all = subst (λ (xs : List (Option Run)). AllHeld xs w) (sym h.put) (subst (AllHeld (set rs p.index (Some t))) (sym e)
            (λ f q.
            ⊎_elim
            (λ y. ((p.index, t, get_or-set_same rs p.index (Some t) None h.lowest.0), sym y.0))
            (λ y.
            let x = a.all f (omega (arith, y.1)) in
            let other : x.0.0 ≡ p.index → ⊥ = λ g. none_some x.0.1 (sym (vacant_none _ h.lowest.1) ∙ ap (λ (n : ℕ). get_or rs n None) (sym g) ∙ x.0.2) in
            ((x.0.0, x.0.1, get_or-set_other rs p.index x.0.0 (Some t) None other ∙ x.0.2), x.1))
            (at_set v t.first s.count f l)));
      }

  -- a take leaves the tables so
  pub alive_taken : (R : Rule) (bytes : ℕ) (ts : List (Option Run)) (w : List ℕ) (r : Result Block PoolFault) → Taken R bytes rs ts v w r → Alive ts w
  alive_taken R bytes ts w (Ok b) h =
      ⊎_elim
      (λ k. subst (Alive ts) (sym k.1) (lent_by h.shape.class ts h.spot k.0))
      (λ k. alive_begun R h.shape ts w h.spot k.1)
      h.from
  alive_taken R bytes ts w (Err e) h = subst (λ (xs : List (Option Run)). Alive xs w) (sym h.runs_kept) (subst (Alive rs) (sym h.pages_kept) a)

  -- so does a release
  module _ (p : Spot) (l : OnLoan rs p) where
    alive_more : (ts : List (Option Run)) → free p.run + 1 < slots_in p.run.shape → RestoresTo (Some p.run) rs p.index p.slot ts → Alive ts v
    alive_more ts more k =
        record {
          long = ap length k.1 ∙ length-set rs p.index (Some k.0) ∙ a.long;
          state = state_restore rs v a.state p.index p.run l.0 p.slot ts l.1 more (subst (λ (o : Option Run). RestoresTo o rs p.index p.slot ts) (sym l.0) k);
          inside = a.inside;
          apart = a.apart;
          all = subst (λ (xs : List (Option Run)). AllHeld xs v) (sym k.1) (all_swap rs v p.index p.run k.0 l.0 k.2.first a.all);
        }

    alive_last : (R : Rule) (ts : List (Option Run)) (w : List ℕ) → ts ≡ set rs p.index None → Removed R p.run.first p.run.shape.count v w → Alive ts w
    alive_last R ts w put d =
        let first = p.run.first in
        let e = d.after_is in
        let m : first < length v = ⊎_elim (λ h. h) (λ h. absurd (omega (arith, d.was.0, d.was.1, get_or_past v first 0 h))) (cases_lt first (length v)) in
        let long : length w ≡ length v = ap length e ∙ length-set v first 0 in
        record {
          long = ap length put ∙ length-set rs p.index None ∙ a.long;
          state = state_closed rs v a.state p.index p.run l.0 first p.run.shape.count refl refl R ts w (Ok tt) put d;
          inside = subst (λ (n : ℕ). Inside n w) (sym long) (subst (Inside (length v)) (sym e) (clear_inside (length v) v first m a.inside));
          apart = subst Apart (sym e) (clear_apart v first m a.apart);
          all = subst (λ (xs : List (Option Run)). AllHeld xs w) (sym put) (subst (AllHeld (set rs p.index None)) (sym e)
              (λ f q.
              ⊎_elim
              (λ y. absurd (omega (arith, y.1)))
              (λ y.
              let x = a.all f (omega (arith, y.1)) in
              let other : x.0.0 ≡ p.index → ⊥ =
              λ g. let same : x.0.1 ≡ p.run = some_same x.0.1 p.run (sym x.0.2 ∙ ap (λ (n : ℕ). get_or rs n None) g ∙ l.0) in y.0 (sym x.1 ∙ ap (λ (z : Run). z.first) same) in
              ((x.0.0, x.0.1, get_or-set_other rs p.index x.0.0 None None other ∙ x.0.2), x.1))
              (at_set v first 0 f m)));
        }

  pub alive_released : (R : Rule) (ts : List (Option Run)) (w : List ℕ) (offset : ℕ) → Released R rs ts v w offset → Alive ts w
  alive_released R ts w offset h =
      let p = h.spot in
      let l = h.on_loan in
      let used = a.state.used (p.index, p.run, l.0) in
      ⊎_elim
      (λ e. let k = h.restored.last e in alive_last p l R ts w k.0 k.1)
      (λ d.
      let more : free p.run + 1 < slots_in p.run.shape = omega arith in
      let k = h.restored.more more in
      subst (Alive ts) (sym k.1) (alive_more p l ts more (subst (λ (o : Option Run). RestoresTo o rs p.index p.slot ts) l.0 k.0)))
      (cases_eq (free p.run + 1) (slots_in p.run.shape))
