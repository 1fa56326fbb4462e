-- While a run of the request's class has a free slot, no run is begun.
use Rattle.std.proofs.Common.{◌≡◌, ℕ, true, List, get_or, Some, None, Ok, Err, Option, Result, sym, refl, ap, ◌∙◌, subst, ⊎_elim, arith}
use Rattle.std.proofs.lemmas.Bool.{cases_order, false≢true}
use Rattle.classes.specs.declared.class.Class.{Class}
use Rattle.classes.specs.Rule.{Smallest}
use Rattle.pages.specs.Rule.{Rule}
use Rattle.runs.specs.declared.run.Run.{Run}
use Rattle.runs.specs.declared.shape.Shape.{Shape}
use Rattle.runs.specs.Shapes.{ShapeOf}
use Rattle.runs.specs.Table.{serves}
use Rattle.pool.specs.declared.block.Block.{Block}
use Rattle.pool.specs.declared.fault.PoolFault.{PoolFault}
use Rattle.pool.specs.State.{Entry}
use Rattle.pool.specs.Take.{NoneServes, Taken, Reuses}
use Rattle.pool.proofs.States.{entry_within}

-- a request has one smallest class
pub one_smallest : (bytes c d : ℕ) → Smallest bytes c → Smallest bytes d → c ≡ d
one_smallest bytes c d h k =
    ⊎_elim (λ e. e)
    (⊎_elim (λ l. absurd (omega (arith, k.least c l, h.holds))) (λ l. absurd (omega (arith, h.least d l, k.holds))))
    (cases_order c d)

-- a run of the request's class serves it
served : (bytes : ℕ) (s : Shape) (rs : List (Option Run)) (n : ℕ) (x : Entry rs) → ShapeOf bytes s → Smallest bytes n → serves n (Some x.1) ≡ true → NoneServes s.class rs → ⊥
served bytes s rs n x asked small e none =
    let c = asked.classed small.within in
    let k = subst (λ (o : Option Class). NoneServes o rs) c.1 none in
    let f : serves c.0.number (get_or rs x.0 None) ≡ true =
    ap (serves c.0.number) x.2 ∙ ap (λ (m : ℕ). serves m (Some x.1)) (one_smallest bytes c.0.number n c.2 small) ∙ e in
    false≢true (sym (k x.0 (entry_within rs x.0 x.1 x.2)) ∙ f)

pub taken_reuses : (R : Rule) (bytes : ℕ) (rs ts : List (Option Run)) (v w : List ℕ) (r : Result Block PoolFault) → Taken R bytes rs ts v w r → Reuses bytes rs v w r
taken_reuses R bytes rs ts v w (Ok b) h n small x e =
    (refl, ⊎_elim (λ k. k.1) (λ k. absurd (served bytes h.shape rs n x h.asked small e k.0)) h.from)
taken_reuses R bytes rs ts v w (Err f) h n small x e =
    let k = h.unbegun small.some (omega (arith, small.within)) in
    absurd (served bytes k.0 rs n x k.1 small e k.2)
