-- A slot that is lent, of a run that there is or of a new one.
use Rattle.std.proofs.Common.{◌≡◌, ℕ, ◌+◌, ◌*◌, ◌<◌, ◌≤◌, true, false, ltb, List, get_or, set, replicate, Some, None, Ok, Err, Option, Result, sym, refl, ap, ◌∙◌, subst, inr, mul-le-mul_right, suc-mul, arith}
use Rattle.std.proofs.lemmas.Bool.{false≢true, and_parts, eqb-true}
use Rattle.classes.specs.declared.class.Class.{Class}
use Rattle.classes.specs.Rule.{size_of}
use Rattle.pages.specs.declared.run.Run.{Run as PageRun}
use Rattle.pages.specs.Rule.{Rule}
use Rattle.pages.specs.Calls.{Added}
use Rattle.runs.specs.declared.run.Run.{Run}
use Rattle.runs.specs.declared.shape.Shape.{Shape}
use Rattle.runs.specs.declared.table.Spot.{Spot}
use Rattle.runs.specs.Loans.{loans}
use Rattle.runs.specs.Shapes.{ShapeOf, slots_in, block_size, size_by}
use Rattle.runs.specs.Table.{free, vacant, First, is_class, serves, LendsOf}
use Rattle.runs.proofs.Cuts.{slots_few, slots_fill_pages}
use Rattle.pool.specs.declared.block.Block.{Block}
use Rattle.pool.specs.declared.fault.PoolFault.{PoolFault}
use Rattle.pool.specs.Take.{NoneServes, Begun, NotBegun, Lent, Taken}
use Rattle.pool.specs.Parts.{Beginning}
use Rattle.pool.proofs.States.{State, state_begin, first_lent, free_zero}

-- a slot below n ends where slot n begins, or before
pub ends : (s n z : ℕ) → s < n → s * z + z ≤ n * z
ends s n z h = subst (λ (k : ℕ). k ≤ n * z) (suc-mul s z) (mul-le-mul_right z h)

-- a slot ends within its run
pub slot_ends : (s : Shape) (n : ℕ) → n < slots_in s → n * block_size s + block_size s ≤ s.count * 512
slot_ends s n h = subst (λ (k : ℕ). n * block_size s + block_size s ≤ k) (slots_fill_pages s) (ends n (slots_in s) (block_size s) h)

size_by_lem : (o : Option Class) (n count : ℕ) → is_class n o ≡ true → size_by o count ≡ size_of n
size_by_lem None n count e = absurd (false≢true e)
size_by_lem (Some c) n count e = ap size_of (eqb-true c.number n e)

-- a run that serves a class has blocks of its size
pub size_served : (n : ℕ) (r : Run) → serves n (Some r) ≡ true → block_size r.shape ≡ size_of n
size_served n r e = size_by_lem r.shape.class n r.shape.count (and_parts (is_class n r.shape.class) (ltb 0 (free r)) e).0

pub size_lent : (s : Shape) (c : Class) (rs ts : List (Option Run)) (p : Spot) → s.class ≡ Some c → LendsOf c.number rs (Some p) ts → block_size p.run.shape ≡ block_size s
size_lent s c rs ts p e h =
    size_served c.number p.run (ap (serves c.number) (sym h.1) ∙ h.0.1) ∙ ap (λ (o : Option Class). size_by o s.count) (sym e)

pub lent_by : (s : Shape) (c : Class) (rs ts : List (Option Run)) (p : Spot) → s.class ≡ Some c → LendsOf c.number rs (Some p) ts → Lent s.class rs ts p
lent_by s c rs ts p e h = subst (λ (o : Option Class). Lent o rs ts p) (sym e) h

abbrev page_run : ℕ → ℕ → PageRun
page_run f n = record { first = f; count = n }

-- a run is put at the lowest vacant index, for a page_run of pages of the supply
module _ (R : Rule) (s : Shape) (rs ts : List (Option Run)) (v w : List ℕ) (index : ℕ) (p : PageRun) (t : Run)
    (a : Added R s.count v w p) (lowest : First vacant rs (Some index)) (put : ts ≡ set rs index (Some t))
    (first : t.first ≡ p.first) (shape : t.shape ≡ s) (slots : loans t.slots ≡ set (replicate (slots_in s) false) 0 true) where
  pub state_begun : State rs v → State ts w
  state_begun st =
      let n : t.shape.count ≡ s.count = ap (λ (z : Shape). z.count) shape in
      let z : get_or v t.first 0 ≡ 0 = ap (λ (m : ℕ). get_or v m 0) first ∙ free_zero v p.first s.count a.some a.free in
      let e : w ≡ set v t.first t.shape.count = a.after_is ∙ ap (λ (m : ℕ). set v m s.count) (sym first) ∙ ap (λ (m : ℕ). set v t.first m) (sym n) in
      let used : free t < slots_in t.shape = subst (λ (y : Shape). free t < slots_in y) (sym shape) (first_lent (loans t.slots) (slots_in s) (slots_few s).0 slots) in
      subst (λ (us : List (Option Run)). State us w) (sym put)
      (subst (λ (x : List ℕ). State (set rs index (Some t)) x) (sym e)
      (state_begin rs v st index t lowest.0 (omega (arith, a.inside, a.some, first)) z (omega (arith, a.some, n)) used))

  pub begun_is : Begun R s rs ts v w (record { index = index; run = t; slot = 0 })
  begun_is =
      let same : p ≡ page_run t.first s.count = ap (λ (n : ℕ). page_run n p.count) (sym first) ∙ ap (page_run t.first) a.same in
      record { lowest = lowest; added = subst (λ (q : PageRun). Added R s.count v w q) same a; put = put; shape = shape; slots = slots; slot = refl }

-- what `take` says where it begins a run
pub begun_taken : (R : Rule) (bytes : ℕ) (s : Shape) (rs us ts : List (Option Run)) (v w : List ℕ) (r : Result Block PoolFault)
    → ShapeOf bytes s → NoneServes s.class rs → us ≡ rs → Beginning R bytes s us ts v w r → Taken R bytes rs ts v w r
begun_taken R bytes s rs us ts v w (Ok b) asked none e h =
    let k = subst (λ (xs : List (Option Run)). Begun R s xs ts v w h.0) e h.1 in
    record {
      shape = s;
      asked = asked;
      spot = h.0;
      from = inr (none, k);
      block = h.2;
      size = ap (λ (b : Block). b.size) h.2 ∙ ap block_size k.shape;
    }
begun_taken R bytes s rs us ts v w (Err f) asked none e h =
    record {
      runs_kept = h.0 ∙ e;
      pages_kept = h.1;
      empty = λ z. absurd (omega (arith, asked.some));
      long = λ z. absurd (omega (arith, asked.within));
      unbegun = λ a b. (s, asked, none, subst (λ (xs : List (Option Run)). NotBegun R bytes s.count xs v w f) e h.2);
    }
