-- What a pool's refusal tells, with the line after it.
use Rattle.std.proofs.Common.{◌≡◌, ℕ, ◌<◌, ◌≤◌, ◌⊎◌, List, [], ◌∷◌, ◌++◌, length, get_or, take, sym, refl, ap, ◌∙◌, inl, inr, ⊎_elim, arith}
use Rattle.std.proofs.lemmas.List.{get_or-take}
use Rattle.pages.specs.declared.fault.SupplyFault.TheVariants.{BadCount, NoFit, NotOut}
use Rattle.pool.specs.declared.fault.PoolFault.{PoolFault}
use Rattle.pool.specs.declared.fault.PoolFault.TheVariants.{NoBytes, TooLong, TableFull, Supply, PastSpan, NoRun, NoSlot, NotOnLoan}
use Rattle.pool.specs.Faults.{places}

-- one value or two
one_or_two : (f : PoolFault) → (length (places f) ≡ 1) ⊎ (length (places f) ≡ 2)
one_or_two NoBytes = inl refl
one_or_two (TooLong bytes) = inl refl
one_or_two (TableFull bytes) = inl refl
one_or_two (Supply (BadCount count) bytes) = inr refl
one_or_two (Supply (NoFit count) bytes) = inr refl
one_or_two (Supply (NotOut first) bytes) = inr refl
one_or_two (PastSpan offset) = inl refl
one_or_two (NoRun offset) = inl refl
one_or_two (NoSlot offset) = inl refl
one_or_two (NotOnLoan offset) = inl refl

told : (vs ps : List ℕ) (c : ℕ) → take c vs ≡ ps → (i : ℕ) → i < c → get_or vs i 0 ≡ get_or ps i 0
told vs ps c e i h = sym (get_or-take c vs i 0 h) ∙ ap (λ l. get_or l i 0) e

single : (ps : List ℕ) (line : ℕ) → length ps ≡ 1 → get_or ps 0 0 ∷ line ∷ [] ≡ ps ++ (line ∷ [])
single [] line h = absurd (omega (arith, h))
single (x ∷ []) line h = refl
single (x ∷ y ∷ ps) line h = absurd (omega (arith, h))

pair : (ps : List ℕ) (line : ℕ) → length ps ≡ 2 → get_or ps 0 0 ∷ get_or ps 1 0 ∷ line ∷ [] ≡ ps ++ (line ∷ [])
pair [] line h = absurd (omega (arith, h))
pair (x ∷ []) line h = absurd (omega (arith, h))
pair (x ∷ y ∷ []) line h = refl
pair (x ∷ y ∷ z ∷ ps) line h = absurd (omega (arith, h))

pub one_and_line : (f : PoolFault) (vs : List ℕ) (c line : ℕ) → c ≡ length (places f) → take c vs ≡ places f → c ≤ 1 → get_or vs 0 0 ∷ line ∷ [] ≡ places f ++ (line ∷ [])
one_and_line f vs c line count is few =
    ⊎_elim
    (λ one. ap (λ x. x ∷ line ∷ []) (told vs (places f) c is 0 (omega arith)) ∙ single (places f) line one)
    (λ two. absurd (omega arith))
    (one_or_two f)

pub two_and_line : (f : PoolFault) (vs : List ℕ) (c line : ℕ) → c ≡ length (places f) → take c vs ≡ places f → 1 < c → get_or vs 0 0 ∷ get_or vs 1 0 ∷ line ∷ [] ≡ places f ++ (line ∷ [])
two_and_line f vs c line count is more =
    ⊎_elim
    (λ one. absurd (omega arith))
    (λ two. ap (λ x. x ∷ get_or vs 1 0 ∷ line ∷ []) (told vs (places f) c is 0 (omega arith)) ∙ ap (λ x. get_or (places f) 0 0 ∷ x ∷ line ∷ []) (told vs (places f) c is 1 more) ∙ pair (places f) line two)
    (one_or_two f)
