-- A table of runs of classes, read as a short list of rows.
use Rattle.std.proofs.Common.{◌≡◌, ℕ, zero, suc, ◌-◌, ◌<◌, ◌≤◌, Bool, true, false, not, ◌&&◌, ◌||◌, eqb, ltb, ◌⊎◌, List, [], ◌∷◌, ◌++◌, length, get_or, set, Some, None, Option, sym, refl, ap, ◌∙◌, subst, inl, inr, ⊎_elim, arith}
use Rattle.std.proofs.lemmas.List.{get_or-set_same, get_or-set_other, get_or_past, get_or_append_left, get_or-append_right, length-append}
use Rattle.std.proofs.lemmas.Bool.{cases_lt, cases_eq, cases_order, false≢true, and_parts, ltb-true}
use Rattle.std.proofs.lemmas.Bool.Decides.{nat_tests}
use Rattle.classes.specs.declared.class.Class.{Class}
use Rattle.classes.specs.Rule.{size_of, Smallest}
use Rattle.runs.specs.declared.run.Run.{Run}
use Rattle.runs.specs.Bitmap.{clear_in, Lowest}
use Rattle.runs.specs.Loans.{loans}
use Rattle.runs.specs.Table.{free, vacant, First, serves, is_class, NoLater, Fullest}
use Rattle.pool.proofs.States.{entry_within}

-- a run of a class: its first page, its class and which slots are on loan
pub record Row : Type 0 where
  pub first : ℕ
  pub class : ℕ
  pub lent : List Bool

pub record Is (r : Run) (m : Row) : Type 0 where
  pub first : r.first ≡ m.first
  pub class : (c : Class) × (r.shape.class ≡ Some c) × (c.number ≡ m.class)
  pub slots : loans r.slots ≡ m.lent

abbrev pub Shows : Option Run → Option Row → Type 0
Shows None None = Unit {0}
Shows None (Some m) = ⊥
Shows (Some r) None = ⊥
Shows (Some r) (Some m) = Is r m

abbrev pub Rows : List (Option Run) → List (Option Row) → Type 0
Rows rs ms = (k : ℕ) → Shows (get_or rs k None) (get_or ms k None)

-- the row with one slot changed
abbrev pub changed : Row → ℕ → Bool → Row
changed m s b = record { first = m.first; class = m.class; lent = set m.lent s b }

-- whether a row of the class has a free slot
abbrev pub serves_row : ℕ → Option Row → Bool
serves_row n None = false
serves_row n (Some m) = eqb m.class n && ltb 0 (clear_in m.lent)

-- whether a row does not serve the class, or m is used rather than it
abbrev pub beaten : ℕ → Row → Option Row → Bool
beaten n m None = true
beaten n m (Some o) = not (serves_row n (Some o)) || (ltb (clear_in m.lent) (clear_in o.lent) || (eqb (clear_in m.lent) (clear_in o.lent) && ltb m.first o.first))

serves_by : (n : ℕ) (o : Option Class) (c : Class) → o ≡ Some c → is_class n o ≡ eqb c.number n
serves_by n o c e = ap (is_class n) e

-- a run serves where its row does
pub shows_serves : (n : ℕ) (o : Option Run) (m : Option Row) → Shows o m → serves n o ≡ serves_row n m
shows_serves n None None h = refl
shows_serves n None (Some m) h = absurd h
shows_serves n (Some r) None h = absurd h
shows_serves n (Some r) (Some m) h =
    ap (λ (b : Bool). b && ltb 0 (free r)) (serves_by n r.shape.class h.class.0 h.class.1 ∙ ap (λ (k : ℕ). eqb k n) h.class.2)
    ∙ ap (λ (bs : List Bool). eqb m.class n && ltb 0 (clear_in bs)) h.slots

-- ---- the lowest free slot

abbrev pub low : List Bool → ℕ
low [] = 0
low (false ∷ bs) = 0
low (true ∷ bs) = suc (low bs)

pub lowest_low : (bs : List Bool) (s : ℕ) → Lowest bs (Some s) → s ≡ low bs
lowest_low [] s h = absurd (false≢true (sym h.0))
lowest_low (false ∷ bs) zero h = refl
lowest_low (false ∷ bs) (suc s) h = absurd (false≢true (h.1 0 (omega arith)))
lowest_low (true ∷ bs) zero h = absurd (false≢true (sym h.0))
lowest_low (true ∷ bs) (suc s) h = ap suc (lowest_low bs s (h.0, λ k l. h.1 (suc k) (omega arith)))

-- ---- the class of a request

abbrev pub all_less : (bytes n : ℕ) → Bool
all_less bytes zero = true
all_less bytes (suc n) = ltb (size_of n) bytes && all_less bytes n

less_at : (bytes n : ℕ) → all_less bytes n ≡ true → (d : ℕ) → d < n → size_of d < bytes
less_at bytes zero e d h = absurd (omega arith)
less_at bytes (suc n) e d h =
    let k = and_parts (ltb (size_of n) bytes) (all_less bytes n) e in
    ⊎_elim (λ q. subst (λ (m : ℕ). size_of m < bytes) (sym q) (ltb-true (size_of n) bytes k.0)) (λ q. less_at bytes n k.1 d (omega arith)) (cases_eq d n)

pub smallest_is : (bytes n : ℕ) → 0 < bytes → bytes ≤ 1792 → n < 32 → bytes ≤ size_of n → all_less bytes n ≡ true → Smallest bytes n
smallest_is bytes n some within known holds e = record { some = some; within = within; known = known; holds = holds; least = less_at bytes n e }

-- ---- changes

module _ (rs : List (Option Run)) (ms : List (Option Row)) (h : Rows rs ms) where
  pub at_run : (i : ℕ) (r : Run) → get_or rs i None ≡ Some r → (m : Row) × (get_or ms i None ≡ Some m) × Is r m
  at_run i r e = at (get_or ms i None) refl (subst (λ (o : Option Run). Shows o (get_or ms i None)) e (h i))
    where
      at : (o : Option Row) → get_or ms i None ≡ o → Shows (Some r) (get_or ms i None) → (m : Row) × (get_or ms i None ≡ Some m) × Is r m
      at None q k = absurd (subst (Shows (Some r)) q k)
      at (Some m) q k = (m, q, subst (Shows (Some r)) q k)

  -- one row of a table changes
  pub rows_set : (i : ℕ) (t : Run) (m : Row) → i < length rs → i < length ms → Is t m → Rows (set rs i (Some t)) (set ms i (Some m))
  rows_set i t m a b e k =
      ⊎_elim
      (λ q.
      let u = ap (λ (n : ℕ). get_or (set rs i (Some t)) n None) q ∙ get_or-set_same rs i (Some t) None a in
      let v = ap (λ (n : ℕ). get_or (set ms i (Some m)) n None) q ∙ get_or-set_same ms i (Some m) None b in
      subst (Shows (get_or (set rs i (Some t)) k None)) (sym v) (subst (λ (o : Option Run). Shows o (Some m)) (sym u) e))
      (λ q.
      subst (Shows (get_or (set rs i (Some t)) k None)) (sym (get_or-set_other ms i k (Some m) None q))
      (subst (λ (o : Option Run). Shows o (get_or ms k None)) (sym (get_or-set_other rs i k (Some t) None q)) (h k)))
      (cases_eq k i)

-- ---- a run more

abbrev pub all_some : List (Option Row) → Bool
all_some [] = true
all_some (None ∷ ms) = false
all_some (Some m ∷ ms) = all_some ms

some_at : (ms : List (Option Row)) (k : ℕ) → all_some ms ≡ true → k < length ms → (m : Row) × (get_or ms k None ≡ Some m)
some_at [] k e h = absurd (omega arith)
some_at (None ∷ ms) k e h = absurd (false≢true e)
some_at (Some m ∷ ms) zero e h = (m, refl)
some_at (Some m ∷ ms) (suc k) e h = some_at ms k e (omega arith)

shows_vacant : (o : Option Run) (m : Option Row) → Shows o m → (m ≡ None) → vacant o ≡ true
shows_vacant None m h e = refl
shows_vacant (Some r) m h e = absurd (subst (Shows (Some r)) e h)

shows_taken : (o : Option Run) (m : Option Row) (x : Row) → Shows o m → m ≡ Some x → vacant o ≡ false
shows_taken None m x h e = absurd (subst (Shows None) e h)
shows_taken (Some r) m x h e = refl

-- the lowest vacant index is the number of rows
pub vacant_is : (rs : List (Option Run)) (ms : List (Option Row)) → Rows rs ms → all_some ms ≡ true → (i : ℕ) → First vacant rs (Some i) → i ≡ length ms
vacant_is rs ms h e i f =
    ⊎_elim (λ q. q)
    (⊎_elim
    (λ less. let m = some_at ms i e less in absurd (false≢true (sym (shows_taken (get_or rs i None) (get_or ms i None) m.0 (h i) m.1) ∙ f.1)))
    (λ more. absurd (false≢true (sym (f.2 (length ms) more) ∙ shows_vacant (get_or rs (length ms) None) (get_or ms (length ms) None) (h (length ms)) (get_or_past ms (length ms) None (omega arith))))))
    (cases_order i (length ms))

pub vacant_past : (rs : List (Option Run)) (ms : List (Option Row)) → Rows rs ms → get_or rs (length ms) None ≡ None
vacant_past rs ms h = at (get_or rs (length ms) None) refl (subst (Shows (get_or rs (length ms) None)) (get_or_past ms (length ms) None (omega arith)) (h (length ms)))
  where
    at : (o : Option Run) → get_or rs (length ms) None ≡ o → Shows (get_or rs (length ms) None) None → get_or rs (length ms) None ≡ None
    at None q k = q
    at (Some r) q k = absurd (subst (λ (o : Option Run). Shows o None) q k)

pub rows_more : (rs : List (Option Run)) (ms : List (Option Row)) → Rows rs ms → length ms < length rs → (t : Run) (m : Row) → Is t m → Rows (set rs (length ms) (Some t)) (ms ++ (Some m ∷ []))
rows_more rs ms h l t m e k =
    let n = length ms in
    ⊎_elim
    (λ q.
    let u = ap (λ (j : ℕ). get_or (set rs n (Some t)) j None) q ∙ get_or-set_same rs n (Some t) None l in
    let v = get_or-append_right ms (Some m ∷ []) n k None refl (omega arith) ∙ ap (λ (j : ℕ). get_or (Some m ∷ []) j None) (diff k n q) in
    subst (Shows (get_or (set rs n (Some t)) k None)) (sym v) (subst (λ (o : Option Run). Shows o (Some m)) (sym u) e))
    (λ q.
    let v : get_or (ms ++ (Some m ∷ [])) k None ≡ get_or ms k None =
    ⊎_elim (λ less. get_or_append_left ms (Some m ∷ []) None k less)
    (λ more. get_or_past (ms ++ (Some m ∷ [])) k None (omega (arith, length-append ms (Some m ∷ []))) ∙ sym (get_or_past ms k None more))
    (cases_lt k n) in
    subst (Shows (get_or (set rs n (Some t)) k None)) (sym v) (subst (λ (o : Option Run). Shows o (get_or ms k None)) (sym (get_or-set_other rs n k (Some t) None q)) (h k)))
    (cases_eq k n)
  where
    diff : (k n : ℕ) → k ≡ n → k - n ≡ 0
    diff k n q = omega arith

-- the run of a row
pub at_row : (rs : List (Option Run)) (ms : List (Option Row)) → Rows rs ms → (i : ℕ) (m : Row) → get_or ms i None ≡ Some m → (r : Run) × (get_or rs i None ≡ Some r) × Is r m
at_row rs ms h i m e = at (get_or rs i None) refl (subst (Shows (get_or rs i None)) e (h i))
  where
    at : (o : Option Run) → get_or rs i None ≡ o → Shows (get_or rs i None) (Some m) → (r : Run) × (get_or rs i None ≡ Some r) × Is r m
    at None q k = absurd (subst (λ (x : Option Run). Shows x (Some m)) q k)
    at (Some r) q k = (r, q, subst (λ (x : Option Run). Shows x (Some m)) q k)

-- a row that is beaten comes later
beaten_later : (n : ℕ) (m o : Row) → serves_row n (Some o) ≡ true → beaten n m (Some o) ≡ true → (clear_in o.lent < clear_in m.lent) ⊎ ((clear_in o.lent ≡ clear_in m.lent) × (o.first ≤ m.first)) → ⊥
beaten_later n m o c b (inl h) = grind (arith, nat_tests, c, b, h)
beaten_later n m o c b (inr h) = grind (arith, nat_tests, c, b, h)

-- the class's fullest run is that of the row that beats all others
pub fullest_is : (class : ℕ) (rs : List (Option Run)) (ms : List (Option Row)) → Rows rs ms → (j : ℕ) (m : Row) → get_or ms j None ≡ Some m → serves_row class (Some m) ≡ true
    → ((i : ℕ) → (i ≡ j → ⊥) → beaten class m (get_or ms i None) ≡ true) → (i : ℕ) (r : Run) → get_or rs i None ≡ Some r → Fullest class rs (Some i) → i ≡ j
fullest_is class rs ms h j m here on strict i r at f =
    ⊎_elim (λ e. e)
    (λ d.
    let o = at_run rs ms h i r at in
    let t = at_row rs ms h j m here in
    let l : serves class (get_or rs j None) ≡ true = shows_serves class (get_or rs j None) (get_or ms j None) (h j) ∙ ap (serves_row class) here ∙ on in
    let k : serves_row class (Some o.0) ≡ true = ap (serves_row class) (sym o.1) ∙ sym (shows_serves class (get_or rs i None) (get_or ms i None) (h i)) ∙ f.1 in
    let within : j < length rs = row_within t.0 t.1 in
    let late : NoLater (Some r) (Some t.0) = subst (λ (x : Option Run). NoLater x (Some t.0)) at (subst (NoLater (get_or rs i None)) t.1 (f.2 j within l)) in
    absurd (beaten_later class m o.0 k (ap (beaten class m) (sym o.1) ∙ strict i d) (later r t.0 o.0 o.2 t.2 late)))
    (cases_eq i j)
  where
    row_within : (t : Run) → get_or rs j None ≡ Some t → j < length rs
    row_within t e = entry_within rs j t e

    later : (r t : Run) (o : Row) → Is r o → Is t m → NoLater (Some r) (Some t) → (clear_in o.lent < clear_in m.lent) ⊎ ((clear_in o.lent ≡ clear_in m.lent) × (o.first ≤ m.first))
    later r t o a b (inl k) = inl (omega (arith, k, ap clear_in a.slots, ap clear_in b.slots))
    later r t o a b (inr k) = inr (omega (arith, k.0, ap clear_in a.slots, ap clear_in b.slots), omega (arith, k.1, a.first, b.first))
