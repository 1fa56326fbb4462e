-- A table of pages that a first fit filled from the start: the next run begins where the last one ended.
use Rattle.std.proofs.Common.{◌≡◌, ℕ, ◌+◌, ◌<◌, ◌≤◌, List, length, get_or, set, replicate, sym, refl, ap, ◌∙◌, subst, ⊎_elim, arith}
use Rattle.std.proofs.lemmas.List.{get_or-set_same, get_or-set_other, get_or_past, get_or-replicate, length-replicate}
use Rattle.std.proofs.lemmas.Bool.{cases_lt, cases_eq, cases_order}
use Rattle.pages.specs.Table.{Free}
use Rattle.pages.specs.FirstFitRule.{FirstFits, LowestRow}

-- the pages below n are those of runs, and no others
pub record Packed (v : List ℕ) (n : ℕ) : Type 0 where
  pub above : (g : ℕ) → n ≤ g → get_or v g 0 ≡ 0
  pub ends : (g : ℕ) → 0 < get_or v g 0 → g + get_or v g 0 ≤ n
  pub full : (p : ℕ) → p < n → (g : ℕ) × (g ≤ p) × (p < g + get_or v g 0)

pub packed_none : (m : ℕ) → Packed (replicate m 0) 0
packed_none m =
    record {
      above = λ g h. zeros g;
      ends = λ g h. absurd (omega (arith, zeros g));
      full = λ p h. absurd (omega arith);
    }
  where
    zeros : (g : ℕ) → ◌≡◌ {A = ℕ} (get_or (replicate m 0) g 0) 0
    zeros g = ⊎_elim (λ h. get_or-replicate m g 0 0 h) (λ h. get_or_past (replicate m 0) g 0 (subst (λ (k : ℕ). k ≤ g) (sym (length-replicate {A = ℕ} m 0)) h)) (cases_lt g m)

module _ (v : List ℕ) (n : ℕ) (k : Packed v n) where
  free_there : (c : ℕ) → Free v n c
  free_there c g h l = absurd (omega (arith, k.ends g h))

  -- a count fits that the pages left hold
  pub packed_fits : (span c : ℕ) → 0 < c → n + c ≤ span → FirstFits span v c
  packed_fits span c some l = (some, (n, (l, free_there c)))

  pub packed_next : (span c f : ℕ) → 0 < c → n + c ≤ span → LowestRow span v c f → f ≡ n
  packed_next span c f some l h =
      ⊎_elim (λ e. e)
      (⊎_elim
      (λ less. let g = k.full f less in absurd (omega (arith, h.0.1 g.0 (omega (arith, g.1, g.2)) g.2, g.1)))
      (λ more. absurd (h.1 n more (l, free_there c))))
      (cases_order f n)

  pub packed_more : (c : ℕ) → 0 < c → n < length v → Packed (set v n c) (n + c)
  packed_more c some l =
      record {
        above = λ g h. other g (λ e. absurd (omega arith)) ∙ k.above g (omega arith);
        ends = λ g h.
            ⊎_elim (λ e. omega (arith, e, at g e)) (λ d. omega (arith, k.ends g (omega (arith, h, other g d)), other g d)) (cases_eq g n);
        full = λ p h.
            ⊎_elim
            (λ low.
            let g = k.full p low in
            let d : g.0 ≡ n → ⊥ = λ e. omega (arith, g.1, e) in
            (g.0, g.1, omega (arith, g.2, other g.0 d)))
            (λ high. (n, high, omega (arith, at n refl)))
            (cases_lt p n);
      }
    where
      at : (g : ℕ) → g ≡ n → get_or (set v n c) g 0 ≡ c
      at g e = ap (λ (m : ℕ). get_or (set v n c) m 0) e ∙ get_or-set_same v n c 0 l

      other : (g : ℕ) → (g ≡ n → ⊥) → get_or (set v n c) g 0 ≡ get_or v g 0
      other g d = get_or-set_other v n g c 0 d
