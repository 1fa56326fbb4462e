-- The list of bits that a row of words stands for.
use Rattle.std.proofs.Common.{bit_and, bit_or, w32, ◌≡◌, ℕ, suc, ◌+◌, ◌-◌, ◌*◌, ◌/◌, ◌%◌, ◌^◌, ◌<◌, ◌≤◌, Bool, true, false, cond, not, eqb, ltb, ◌≢◌, ◌⊎◌, List, [], ◌∷◌, length, get_or, set, replicate, Some, None, sym, refl, ap, ◌∙◌, inl, inr, arith}
use Rattle.std.specs.Bool.{then_some}
use Rattle.std.specs.Int.{trailing_ones}
use Rattle.std.proofs.lemmas.Nat.Bits.{shr_and_one, bit_at-zero, bit_at_ones, bit_at-trailing_ones, bit_at_set_same, bit_at_set_other, bit_at_clear_same, bit_at_clear_other}
use Rattle.std.proofs.lemmas.List.FromFn.{length-map-range_with_len, get_or-map-range_with_len}
use Rattle.std.proofs.lemmas.List.{same_lists, length-replicate, get_or-replicate, get_or_past}
use Rattle.std.proofs.lemmas.List.Folds.{sum_by-replicate}
use Rattle.std.proofs.lemmas.List.Sums.{sum_by-set, sum_by-cons, count_by-le-length}
use Rattle.std.proofs.lemmas.Bool.{cases_eq, cases_lt, false≢true, lt-ltb, le-ltb}
use Rattle.std.proofs.lemmas.Grind.{common_steps}
use Rattle.runs.specs.Bitmap.{digit, bit, bits, clear_in, Lowest}

pub length_bits : (ws : List ℕ) (n : ℕ) → length (bits ws n) ≡ n
unfolding bits
length_bits ws n = length-map-range_with_len (bit ws) 0 n

pub get_d_bits : (ws : List ℕ) (n k : ℕ) (d : Bool) → k < n → get_or (bits ws n) k d ≡ bit ws k
unfolding bits
get_d_bits ws n k d h = get_or-map-range_with_len (bit ws) 0 n k k d h (omega arith)

-- the bit of slot s, as the code reads it
pub bit_read : (ws : List ℕ) (s : ℕ) → eqb (bit_and (get_or ws (s / 32) 0 / 2 ^ (s % 32)) 1) 1 ≡ bit ws s
unfolding bit
bit_read ws s = ap (λ (x : ℕ). eqb x 1) (shr_and_one (get_or ws (s / 32) 0) (s % 32))

-- one word changes in one digit
pub bits_set : (ws : List ℕ) (n s w : ℕ) (v : Bool) → s / 32 < length ws → s < n → digit w (s % 32) ≡ v
    → ((j : ℕ) → j < 32 → j ≢ s % 32 → digit w j ≡ digit (get_or ws (s / 32) 0) j)
    → bits (set ws (s / 32) w) n ≡ set (bits ws n) s v
unfolding bit
bits_set ws n s w v l h here others =
    same_lists _ _ (grind (arith, common_steps, length_bits))
    (λ k d m.
    let in_bits : k < n = omega (arith, length_bits (set ws (s / 32) w) n) in
    get_d_bits (set ws (s / 32) w) n k d in_bits ∙ at k d in_bits (cases_eq k s) (cases_eq (k / 32) (s / 32)))
  where
    at : (k : ℕ) (d : Bool) → k < n → (k ≡ s) ⊎ (k ≢ s) → (k / 32 ≡ s / 32) ⊎ (k / 32 ≢ s / 32) → bit (set ws (s / 32) w) k ≡ get_or (set (bits ws n) s v) k d
    at k d m (inl e) b = rw e (grind (arith, common_steps, length_bits, here))
    at k d m (inr ne) (inl e) =
        let apart : k % 32 ≢ s % 32 = λ q. ne (omega arith) in
        let same = others (k % 32) (omega arith) apart in
        grind (arith, common_steps, get_d_bits, same)
    at k d m (inr ne) (inr far) = grind (arith, common_steps, get_d_bits)

-- `ws[s / 32] |= 1 << (s % 32)`
pub bits_or : (ws : List ℕ) (n s : ℕ) → s / 32 < length ws → s < n
    → bits (set ws (s / 32) (bit_or (get_or ws (s / 32) 0) (1 * 2 ^ (s % 32) % 2 ^ 32))) n ≡ set (bits ws n) s true
bits_or ws n s l h =
    let w = get_or ws (s / 32) 0 in
    bits_set ws n s _ true l h (ap (λ (x : ℕ). eqb x 1) (bit_at_set_same w32 w (s % 32) (omega arith)))
    (λ j _ ne. ap (λ (x : ℕ). eqb x 1) (bit_at_set_other w32 w (s % 32) (omega arith) j ne))

-- `ws[s / 32] &= !(1 << (s % 32))`
pub bits_and_not : (ws : List ℕ) (n s : ℕ) → s / 32 < length ws → s < n
    → bits (set ws (s / 32) (bit_and (get_or ws (s / 32) 0) (2 ^ 32 - 1 - 1 * 2 ^ (s % 32) % 2 ^ 32))) n ≡ set (bits ws n) s false
bits_and_not ws n s l h =
    let w = get_or ws (s / 32) 0 in
    bits_set ws n s _ false l h (ap (λ (x : ℕ). eqb x 1) (bit_at_clear_same w32 w (s % 32) (omega arith)))
    (λ j k ne. ap (λ (x : ℕ). eqb x 1) (bit_at_clear_other w32 w (s % 32) (omega arith) j k ne))

-- words of zeros
pub bits_zeros : (m n : ℕ) → bits (replicate m 0) n ≡ replicate n false
unfolding bit
bits_zeros m n =
    same_lists _ _ (length_bits (replicate m 0) n ∙ sym (length-replicate n false))
    (λ k d h.
    let l : k < n = omega (arith, length_bits (replicate m 0) n) in
    get_d_bits (replicate m 0) n k d l ∙ ap (λ (x : ℕ). digit x (k % 32)) (word (k / 32) (cases_lt (k / 32) m))
    ∙ ap (λ (x : ℕ). eqb x 1) (bit_at-zero (k % 32)) ∙ sym (get_or-replicate n k false d l))
  where
    word : (j : ℕ) → (j < m) ⊎ (m ≤ j) → ◌≡◌ {A = ℕ} (get_or (replicate m 0) j 0) 0
    word j (inl h) = get_or-replicate m j 0 0 h
    word j (inr h) = get_or_past (replicate m 0) j 0 (omega (arith, length-replicate {A = ℕ} m 0))

-- the words of a new bitmap
pub bits_new : (n : ℕ) → bits (0 ∷ 0 ∷ 0 ∷ 0 ∷ 0 ∷ 0 ∷ 0 ∷ 0 ∷ []) n ≡ replicate n false
bits_new n = bits_zeros 8 n

-- ---- how many bits are clear

pub clear_in_none : (n : ℕ) → clear_in (replicate n false) ≡ n
unfolding clear_in
clear_in_none n = omega (arith, sum_by-replicate (λ b. cond (not b) 1 0) n false)

pub clear_in_le : (bs : List Bool) → clear_in bs ≤ length bs
unfolding clear_in
clear_in_le bs = count_by-le-length not bs

-- what a change of one bit does
pub clear_in_set : (bs : List Bool) (s : ℕ) (v d : Bool) → s < length bs
    → clear_in (set bs s v) + cond (not (get_or bs s d)) 1 0 ≡ clear_in bs + cond (not v) 1 0
unfolding clear_in
clear_in_set bs s v d h = sum_by-set (λ b. cond (not b) 1 0) bs s v d h

pub clear_in_lent : (bs : List Bool) (s : ℕ) (d : Bool) → s < length bs → get_or bs s d ≡ false → clear_in (set bs s true) + 1 ≡ clear_in bs
clear_in_lent bs s d h e = omega (arith, clear_in_set bs s true d h, ap {B = ℕ} (λ (b : Bool). cond (not b) 1 0) e)

pub clear_in_back : (bs : List Bool) (s : ℕ) (d : Bool) → s < length bs → get_or bs s d ≡ true → clear_in (set bs s false) ≡ clear_in bs + 1
clear_in_back bs s d h e = omega (arith, clear_in_set bs s false d h, ap {B = ℕ} (λ (b : Bool). cond (not b) 1 0) e)

-- a set bit stands within the list
pub set_within : (bs : List Bool) (s : ℕ) → get_or bs s false ≡ true → s < length bs
set_within bs s e = go (cases_lt s (length bs))
  where
    go : (s < length bs) ⊎ (length bs ≤ s) → s < length bs
    go (inl h) = h
    go (inr h) = absurd (false≢true (sym (get_or_past bs s false h) ∙ e))

-- ---- the lowest clear bit

pub lowest_some : (ws : List ℕ) (n s : ℕ) → s < n → bit ws s ≡ false → ((k : ℕ) → k < s → bit ws k ≡ true) → Lowest (bits ws n) (Some s)
lowest_some ws n s l e below = (get_d_bits ws n s true l ∙ e, λ k h. get_d_bits ws n k true (omega arith) ∙ below k h)

pub lowest_none : (ws : List ℕ) (n s : ℕ) → n ≤ s → ((k : ℕ) → k < s → bit ws k ≡ true) → Lowest (bits ws n) None
lowest_none ws n s h below k = by (cases_lt k n)
  where
    by : (k < n) ⊎ (n ≤ k) → get_or (bits ws n) k true ≡ true
    by (inl l) = get_d_bits ws n k true l ∙ below k (omega arith)
    by (inr l) = get_or_past (bits ws n) k true (omega (arith, length_bits ws n))

-- the first i words are full
module _ (ws : List ℕ) (n i : ℕ) (full : (j : ℕ) → j < i → get_or ws j 0 ≡ 2 ^ 32 - 1) where
  set_before : (k : ℕ) → k < 32 * i → bit ws k ≡ true
  unfolding bit
  set_before k h = ap (λ (x : ℕ). digit x (k % 32)) (full (k / 32) (omega arith)) ∙ ap (λ (x : ℕ). eqb x 1) (bit_at_ones 32 (k % 32) (omega arith))

  -- so is the whole list
  pub lowest_full : n ≤ 32 * i → Lowest (bits ws n) None
  lowest_full h = lowest_none ws n (32 * i) h set_before

  -- the next is not
  module _ (fits : get_or ws i 0 < 2 ^ 32) (gap : get_or ws i 0 ≢ 2 ^ 32 - 1) where
    abbrev pub lowest : ℕ
    lowest = i * 32 + trailing_ones w32 (get_or ws i 0)

    word : (j : ℕ) → j < 32 → bit ws (i * 32 + j) ≡ digit (get_or ws i 0) j
    unfolding bit
    word j h =
        let row : (i * 32 + j) / 32 ≡ i = omega arith in
        let col : (i * 32 + j) % 32 ≡ j = omega arith in
        rw (row, col) refl

    set_below : (k : ℕ) → k < lowest → bit ws k ≡ true
    set_below k h = by (cases_lt k (32 * i))
      where
        by : (k < 32 * i) ⊎ (32 * i ≤ k) → bit ws k ≡ true
        by (inl l) = set_before k l
        by (inr l) =
            let t = bit_at-trailing_ones w32 (get_or ws i 0) (omega arith) in
            let at : i * 32 + (k - i * 32) ≡ k = omega arith in
            ap (bit ws) (sym at) ∙ word (k - i * 32) (omega (arith, t.0)) ∙ ap (λ (x : ℕ). eqb x 1) (t.2 (k - i * 32) (omega arith))

    pub lowest_gap : Lowest (bits ws n) (then_some (ltb lowest n) lowest)
    lowest_gap = by (cases_lt lowest n)
      where
        by : (lowest < n) ⊎ (n ≤ lowest) → Lowest (bits ws n) (then_some (ltb lowest n) lowest)
        by (inl h) =
            let t = bit_at-trailing_ones w32 (get_or ws i 0) (omega arith) in
            rw lt-ltb (lowest_some ws n lowest h (word _ t.0 ∙ ap (λ (x : ℕ). eqb x 1) t.1) set_below)
        by (inr h) = rw le-ltb (lowest_none ws n lowest h set_below)

-- ---- none clear, and all clear

clear_in_cons : (b : Bool) (bs : List Bool) → clear_in (b ∷ bs) ≡ cond (not b) 1 0 + clear_in bs
unfolding clear_in
clear_in_cons b bs = sum_by-cons (λ b. cond (not b) 1 0) b bs

pub zero_from_full : (bs : List Bool) → ((k : ℕ) → get_or bs k true ≡ true) → clear_in bs ≡ 0
unfolding clear_in
zero_from_full [] h = refl
zero_from_full (true ∷ bs) h = omega (arith, clear_in_cons true bs, zero_from_full bs (λ k. h (suc k)))
zero_from_full (false ∷ bs) h = absurd (false≢true (h 0))

pub idle_from_length : (bs : List Bool) → clear_in bs ≡ length bs → bs ≡ replicate (length bs) false
idle_from_length [] e = refl
idle_from_length (true ∷ bs) e = absurd (omega (arith, clear_in_cons true bs, clear_in_le bs))
idle_from_length (false ∷ bs) e = ap (λ (xs : List Bool). false ∷ xs) (idle_from_length bs (omega (arith, clear_in_cons false bs)))

-- what the methods of `Slots` need of a bitmap
pub ruleset slot_steps = (length_bits, get_d_bits, bit_read, bits_or, bits_and_not, bits_new, clear_in_none, clear_in_le, clear_in_lent, clear_in_back, set_within)
