-- What follows of a taken run from the rule of its supply.
use Rattle.std.proofs.Common.{◌≡◌, ℕ, ◌+◌, ◌<◌, ◌≤◌, ◌⊎◌, List, length, get_or, set, Ok, Err, Result, sym, ap, ◌∙◌, subst, ⊎_elim, arith}
use Rattle.std.proofs.lemmas.Bool.{cases_order}
use Rattle.pages.specs.declared.fault.SupplyFault.{SupplyFault}
use Rattle.pages.specs.declared.run.Run.{Run}
use Rattle.pages.specs.Rule.{Rule, SameRule}
use Rattle.pages.specs.Table.{Free, Nothing}
use Rattle.pages.specs.Calls.{Taken}
use Rattle.pages.specs.Lowest.{Lowest}
use Rattle.pages.specs.Tables.{at_set}
use Rattle.supplies.specs.Edges.{Went, Refused}

-- a supply whose rule says what another says
module _ (R Q : Rule) (s : SameRule R Q) where
  -- a count that fits goes to the one place that is chosen
  pub lands : (c p : ℕ) (t v u : List ℕ) (r : Result Run SupplyFault) → Taken Q c v u r → v ≡ t → 0 < c → c ≤ R.largest → R.fits t c → ((q : ℕ) → R.chooses t c q → q ≡ p) → Went p c r × (u ≡ set t p c)
  lands c p t v u (Ok run) h e some most fit only =
      let chosen : Q.chooses t c run.first = subst (λ (x : List ℕ). Q.chooses x c run.first) e h.chosen in
      let at : run.first ≡ p = only run.first ((s.chooses t c run.first).1 chosen) in
      ((at, h.same), h.after_is ∙ ap (λ (x : List ℕ). set x run.first c) e ∙ ap (λ (x : ℕ). set t x c) at)
  lands c p t v u (Err x) h e some most fit only =
      absurd ((h.unfit some (omega (arith, most, s.largest))).1 (subst (λ (y : List ℕ). Q.fits y c) (sym e) ((s.fits t c).0 fit)))

  -- a count that does not fit is refused by 12
  pub unfit : (c : ℕ) (t v u : List ℕ) (r : Result Run SupplyFault) → Taken Q c v u r → v ≡ t → 0 < c → c ≤ R.largest → (R.fits t c → ⊥) → Refused 12 c r
  unfit c t v u (Ok run) h e some most never = never ((s.fits t c).1 (subst (λ (y : List ℕ). Q.fits y c) e h.fit))
  unfit c t v u (Err x) h e some most never = ((h.unfit some (omega (arith, most, s.largest))).0, h.told)

-- there is one lowest number
pub lowest_one : (P : ℕ → Type 0) (p q : ℕ) → Lowest P p → Lowest P q → q ≡ p
lowest_one P p q a b = ⊎_elim (λ e. e) (⊎_elim (λ l. absurd (a.1 q l b.0)) (λ l. absurd (b.1 p l a.0))) (cases_order q p)

-- ---- free pages

pub free_nothing : (t : List ℕ) (p n : ℕ) → Nothing t → Free t p n
free_nothing t p n h g q l = omega (arith, h g)

-- a run that ends before or begins after
pub free_put : (t : List ℕ) (f v p n : ℕ) → f < length t → Free t p n → (f + v ≤ p) ⊎ (p + n ≤ f) → Free (set t f v) p n
free_put t f v p n l h a g q k =
    ⊎_elim (λ e. ⊎_elim (λ b. omega arith) (λ b. omega arith) a) (λ e. omega (arith, h g (omega arith) (omega arith))) (at_set t f v g l)

-- a run in the way
pub busy : (t : List ℕ) (g v p n : ℕ) → get_or t g 0 ≡ v → 0 < v → p < g + v → g < p + n → Free t p n → ⊥
busy t g v p n e s a b h = omega (arith, h g (omega arith) (omega arith))
