-- Which run of the table lends.
use Rattle.std.proofs.Common.{◌≡◌, ℕ, zero, suc, ◌<◌, ◌≤◌, Bool, true, false, List, [], ◌∷◌, length, get_or, set, Some, None, Option, IsSome, sym, refl, ap, ◌∙◌, subst, arith, Bor}
use Rattle.std.proofs.lemmas.List.{set-get_or, get_or_past}
use Rattle.std.proofs.lemmas.List.Elements.{All-filter, filter_passes}
use Rattle.std.specs.declared.cmp.Ordering.{Ordering}
use Rattle.std.specs.Ordering.{nat_cmp, ordering_then, is_lt}
use Rattle.std.specs.Option.{MatchOption, option_map, option_cmp}
use Rattle.std.specs.List.{All, Contains, filter}
use Rattle.std.proofs.lemmas.Bool.{false≢true, cond-true, cond-false, false_from_ne_true}
use Rattle.std.proofs.lemmas.Bool.Decides.{nat_tests}
use Rattle.runs.specs.Loans.{loans}
use Rattle.runs.proofs.Bitmaps.{zero_from_full}
use Rattle.runs.specs.declared.run.Run.{Run}
use Rattle.runs.specs.Table.{serves, rank, NoLater, FullestIn, Lends, NoneFree, LendsAt, Restores, RestoresTo, RestoresAt}

-- a change at one place

pub loan_at : (rs : List (Option Run)) (i : ℕ) (r t : Run) (s : Option ℕ) → get_or rs i None ≡ Some r → Lends r s t → LendsAt rs i s (set rs i (Some t))
loan_at rs i r t None e h =
    (subst NoneFree (sym e) h.0, ap (λ (x : Run). set rs i (Some x)) h.1 ∙ ap (set rs i) (sym e) ∙ set-get_or rs i None)
loan_at rs i r t (Some s) e h = (r, t, e, refl, h)

pub loan_past : (rs : List (Option Run)) (i : ℕ) → length rs ≤ i → LendsAt rs i None rs
loan_past rs i h = (subst NoneFree (sym (get_or_past rs i None h)) tt, refl)

pub restore_at_lem : (rs : List (Option Run)) (i : ℕ) (r t : Run) (s : ℕ) → get_or rs i None ≡ Some r → Restores r s t → RestoresAt rs i s (set rs i (Some t))
restore_at_lem rs i r t s e h = subst (λ (o : Option Run). RestoresTo o rs i s (set rs i (Some t))) (sym e) (t, refl, h)

pub restore_none : (rs ts : List (Option Run)) (i s : ℕ) → get_or rs i None ≡ None → ts ≡ rs → RestoresAt rs i s ts
restore_none rs ts i s e h = subst (λ (o : Option Run). RestoresTo o rs i s ts) (sym e) h

-- a run that serves has a free slot
pub serves_free : (cl : ℕ) (o : Option Run) → serves cl o ≡ true → NoneFree o → ⊥
serves_free cl None e h = false≢true e
serves_free cl (Some r) e h = grind (arith, nat_tests, zero_from_full (loans r.slots) h, e)

-- a run that serves lends a slot
pub serves_lends : (cl : ℕ) (rs : List (Option Run)) (i : ℕ) (slot : Option ℕ) (ts : List (Option Run)) → serves cl (get_or rs i None) ≡ true
    → LendsAt rs i slot ts → IsSome slot
serves_lends cl rs i None ts e h = absurd (serves_free cl (get_or rs i None) e h.0)
serves_lends cl rs i (Some s) ts e h = refl

-- an element that passes is one of those that are kept
kept : {X : Type 0} (t : X → Bool) (P : X → Type 0) (xs : List X) (k : ℕ) (d : X) → k < length xs → All P (filter t xs) → t (get_or xs k d) ≡ true → P (get_or xs k d)
kept t P [] k d h all e = absurd (omega arith)
kept t P (x ∷ xs) zero d h all e = subst (All P) (cond-true (t x) _ _ e) all 0 d (omega arith)
kept t P (x ∷ xs) (suc k) d h all e = kept t P xs k d (omega arith) (rest (t x) refl) e
  where
    rest : (b : Bool) → t x ≡ b → All P (filter t xs)
    rest true p = λ j c l. subst (All P) (cond-true (t x) _ _ p) all (suc j) c (omega arith)
    rest false p = subst (All P) (cond-false (t x) _ _ p) all

-- how `min_by_key` compares two entries
abbrev pub rank_cmp : Option Run → Option Run → Ordering
rank_cmp o u = option_cmp (λ x y. ordering_then (nat_cmp x.0 y.0) (nat_cmp x.1 y.1)) (option_map rank o) (option_map rank u)

no_later : (cl : ℕ) (o u : Option Run) → serves cl o ≡ true → serves cl u ≡ true → is_lt (rank_cmp u o) ≡ false → NoLater o u
no_later cl None u s t h = absurd (false≢true s)
no_later cl (Some r) None s t h = absurd (false≢true t)
no_later cl (Some r) (Some q) s t h = grind (arith, nat_tests, h)

-- m is one of zs, of least rank
abbrev pub IsLeast : List (ℕ × Bor (Option Run)) → ℕ × Bor (Option Run) → Type 0
IsLeast zs m = Contains zs m × All (λ y. is_lt (rank_cmp y.1.now m.1.now) ≡ false) zs

-- the table's entries with their indices, as an iterator gives them, and those of them that serve the class
module _ (cl : ℕ) (rs : List (Option Run)) (ys : List (ℕ × Bor (Option Run))) (long : length ys ≡ length rs)
    (at : (k : ℕ) (d : ℕ × Bor (Option Run)) → k < length ys → ((get_or ys k d).0 ≡ k) × ((get_or ys k d).1.now ≡ get_or rs k None)) where
  abbrev pub serving : ℕ × Bor (Option Run) → Bool
  serving y = serves cl y.1.now

  abbrev Placed : ℕ × Bor (Option Run) → Type 0
  Placed y = (y.0 < length rs) × (y.1.now ≡ get_or rs y.0 None)

  placed : All Placed (filter serving ys)
  placed = All-filter serving Placed ys (λ k d h. let p = at k d h in (omega (arith, p.0), p.1 ∙ ap (λ (i : ℕ). get_or rs i None) (sym p.0)))

  -- what holds of each of them holds of each that serves
  each : (P : Option Run → Type 0) → All (λ y. P y.1.now) (filter serving ys) → (k : ℕ) → k < length rs → serves cl (get_or rs k None) ≡ true → P (get_or rs k None)
  each P all k h e =
      let d : ℕ × Bor (Option Run) = (0, record { ref_ptr = (0, 0); now = None }) in
      let p = at k d (omega arith) in
      subst P p.1 (kept serving (λ y. P y.1.now) ys k d (omega arith) all (ap (serves cl) p.1 ∙ e))

  pub fullest_none : length (filter serving ys) ≡ 0 → FullestIn cl rs (length rs) None
  fullest_none e k h = false_from_ne_true (serves cl (get_or rs k None)) (each (λ o. ⊥) (λ j d l. omega arith) k h)

  fullest_some : (m : ℕ × Bor (Option Run)) → IsLeast (filter serving ys) m → FullestIn cl rs (length rs) (Some m.0)
  fullest_some m ((j, l, e), least) =
      let p = subst Placed e (placed j m l) in
      let s = subst (λ (y : ℕ × Bor (Option Run)). serving y ≡ true) e (filter_passes serving ys j m l) in (
        p.0,
        ap (serves cl) (sym p.1) ∙ s,
        λ k h u. subst (λ (o : Option Run). NoLater o (get_or rs k None)) p.1
            (each (NoLater m.1.now) (λ i d w. no_later cl m.1.now _ s (filter_passes serving ys i d w) (least i d w)) k h u),
      )

  -- what `min_by_key` answers of the entries zs that serve
  pub fullest_by : (zs : List (ℕ × Bor (Option Run))) → zs ≡ filter serving ys → (best : Option (ℕ × Bor (Option Run))) (P : Type 0) (Q : ℕ × Bor (Option Run) → Type 0)
      → MatchOption best P Q → (P → length zs ≡ 0) → ((m : ℕ × Bor (Option Run)) → Q m → IsLeast zs m)
      → (answer : Option ℕ) → option_map (λ y. y.0) best ≡ answer → FullestIn cl rs (length rs) answer
  fullest_by zs e None P Q h none some answer is =
      subst (FullestIn cl rs (length rs)) is (fullest_none (subst (λ (xs : List (ℕ × Bor (Option Run))). length xs ≡ 0) e (none h)))
  fullest_by zs e (Some m) P Q h none some answer is =
      subst (FullestIn cl rs (length rs)) is (fullest_some m (subst (λ (xs : List (ℕ × Bor (Option Run))). IsLeast xs m) e (some m h)))
