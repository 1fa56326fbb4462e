-- What is true of the lines, kept by each change, over any predicate that says which blocks are on loan.
use Rattle.std.proofs.Common.{◌≡◌, ℕ, zero, suc, ◌+◌, ◌*◌, ◌<◌, ◌≤◌, ◌⊎◌, List, length, get_or, set, replicate, sym, refl, ap, ◌∙◌, subst, inl, inr, ⊎_elim, arith, length-set}
use lib.ListN.{length-replicate}
use Rattle.std.proofs.lemmas.List.{get_or-set_same, get_or-set_other}
use Rattle.std.proofs.lemmas.Bool.{cases_eq}
use Rattle.std.proofs.lemmas.Bool.Decides.{nat_tests}
use Rattle.pool.specs.declared.block.Block.{Block}
use Rattle.rack.specs.declared.line.Line.{Line}
use Rattle.rack.specs.Lines.{unused, line, used, InUse, fresh, fed, rung}
use Rattle.rack.specs.Holds.{block_at, Placed, Short, Lent, OffsetsDiffer}

pub record Tidy (P : Block → Type 0) (w : ℕ) (ls : List Line) : Type 0 where
  pub many : length ls ≡ 64
  pub placed : Placed ls
  pub short : Short w ls
  pub lent : Lent P w ls
  pub differ : OffsetsDiffer ls

-- the line k after a write to the line n
pub line_cases : (ls : List Line) (n : ℕ) (l : Line) (k : ℕ) → n < length ls → ((k ≡ n) × (line (set ls n l) k ≡ l)) ⊎ ((k ≡ n → ⊥) × (line (set ls n l) k ≡ line ls k))
line_cases ls n l k h =
    ⊎_elim
    (λ (e : k ≡ n). inl (e, ap (λ (j : ℕ). line (set ls n l) j) e ∙ get_or-set_same ls n l unused h))
    (λ (e : k ≡ n → ⊥). inr (e, get_or-set_other ls n k l unused e))
    (cases_eq k n)

each_set : (P : Line → Type 0) (ls : List Line) (n : ℕ) (l : Line) → n < length ls → P l → ((k : ℕ) → P (line ls k)) → (k : ℕ) → P (line (set ls n l) k)
each_set P ls n l h p each k = ⊎_elim (λ y. subst P (sym y.1) p) (λ y. subst P (sym y.1) (each k)) (line_cases ls n l k h)

abbrev Good : Line → Type 0
Good l = (l.next + used l.state ≤ l.length) × (l.kept ≤ l.length)

pub all_unused : (n k : ℕ) → get_or (replicate n unused) k unused ≡ unused
all_unused zero k = refl
all_unused (suc n) zero = refl
all_unused (suc n) (suc k) = all_unused n k

pub not_used : (l : Line) → l ≡ unused → InUse l → ⊥
not_used l e u = let z : ◌≡◌ {A = ℕ} 0 1 = subst InUse e u in omega arith

pub tidy_new : (P : Block → Type 0) (w : ℕ) → Tidy P w (replicate 64 unused)
tidy_new P w =
    record {
      many = length-replicate 64 unused;
      placed = λ k. subst Good (sym (all_unused 64 k)) (omega arith, omega arith);
      short = λ k u. absurd (not_used _ (all_unused 64 k) u);
      lent = λ k u. absurd (not_used _ (all_unused 64 k) u);
      differ = λ j k y. absurd (not_used _ (all_unused 64 j) y.0);
    }

-- the blocks on loan are others, which leaves those of the lines
pub tidy_on : (P Q : Block → Type 0) (w : ℕ) (ls : List Line) → ((b : Block) → P b → Q b) → Tidy P w ls → Tidy Q w ls
tidy_on P Q w ls f t = record { many = t.many; placed = t.placed; short = t.short; lent = λ k u. f (block_at w (line ls k)) (t.lent k u); differ = t.differ }

-- a change that leaves whether the line is in use, its block and its length
module _ (P : Block → Type 0) (w : ℕ) (ls : List Line) (n : ℕ) (l : Line) (h : n < length ls) (s : used l.state ≡ used (line ls n).state) (o : l.offset ≡ (line ls n).offset) (z : l.length ≡ (line ls n).length) where
  same : {A : Type 0} (f : Line → A) → f l ≡ f (line ls n) → (k : ℕ) → f (line (set ls n l) k) ≡ f (line ls k)
  same f e k = ⊎_elim (λ y. ap f y.1 ∙ e ∙ ap (λ (j : ℕ). f (line ls j)) (sym y.0)) (λ y. ap f y.1) (line_cases ls n l k h)

  same_use : (k : ℕ) → used (line (set ls n l) k).state ≡ used (line ls k).state
  same_use = same (λ x. used x.state) s

  same_offset : (k : ℕ) → (line (set ls n l) k).offset ≡ (line ls k).offset
  same_offset = same (λ x. x.offset) o

  same_length : (k : ℕ) → (line (set ls n l) k).length ≡ (line ls k).length
  same_length = same (λ x. x.length) z

  abbrev at : (offset length : ℕ) → Block
  at offset length = block_at w (record { state = l.state; offset = offset; length = length; next = 0; kept = 0 })

  pub tidy_same : Good l → Tidy P w ls → Tidy P w (set ls n l)
  tidy_same g t =
      record {
        many = length-set ls n l ∙ t.many;
        placed = each_set Good ls n l h g t.placed;
        short = λ k u. subst (λ (m : ℕ). m * w ≤ 130560) (sym (same_length k)) (t.short k (sym (same_use k) ∙ u));
        lent = λ k u.
            subst P (ap (λ (m : ℕ). at m (line ls k).length) (sym (same_offset k)) ∙ ap (λ (m : ℕ). at (line (set ls n l) k).offset m) (sym (same_length k)))
            (t.lent k (sym (same_use k) ∙ u));
        differ = λ j k y. t.differ j k (sym (same_use j) ∙ y.0, sym (same_use k) ∙ y.1, sym (same_offset j) ∙ y.2 ∙ same_offset k);
      }

module _ (P : Block → Type 0) (w : ℕ) (ls : List Line) (n : ℕ) (h : n < length ls) (u : InUse (line ls n)) (t : Tidy P w ls) where
  pub next_within : (line ls n).next < (line ls n).length
  next_within = omega (arith, (t.placed n).0, u)

  fed_good : (l : Line) → l.next < l.length → l.kept ≤ l.length → InUse l → Good (fed l)
  fed_good l p q v = (grind (arith, nat_tests), grind (arith, nat_tests))

  pub tidy_fed : Tidy P w (set ls n (fed (line ls n)))
  tidy_fed = tidy_same P w ls n (fed (line ls n)) h refl refl refl (fed_good (line ls n) next_within (t.placed n).1 u) t

  pub tidy_rung : Tidy P w (set ls n (rung (line ls n)))
  tidy_rung = tidy_same P w ls n (rung (line ls n)) h (sym u) refl refl (omega (arith, (t.placed n).0, u), (t.placed n).1) t

-- a line that is opened
module _ (P Q : Block → Type 0) (w : ℕ) (ls : List Line) (n o len : ℕ) (h : n < length ls) (free : used (line ls n).state ≡ 0) (some : 0 < len) (few : len * w ≤ 130560)
    (keep : (b : Block) → P b → Q b) (new : Q (block_at w (fresh o len))) (none : (b : Block) → P b → b.offset ≡ o → ⊥) (t : Tidy P w ls) where
  -- a line in use after is the new one, or one before, which begins elsewhere
  use_cases : (k : ℕ) → InUse (line (set ls n (fresh o len)) k)
      → ((k ≡ n) × (line (set ls n (fresh o len)) k ≡ fresh o len)) ⊎ ((line (set ls n (fresh o len)) k ≡ line ls k) × InUse (line ls k) × ((line ls k).offset ≡ o → ⊥))
  use_cases k u =
      ⊎_elim inl
      (λ y. let v : InUse (line ls k) = subst InUse y.1 u in inr (y.1, v, none (block_at w (line ls k)) (t.lent k v)))
      (line_cases ls n (fresh o len) k h)

  pub tidy_open : Tidy Q w (set ls n (fresh o len))
  tidy_open =
      record {
        many = length-set ls n (fresh o len) ∙ t.many;
        placed = each_set Good ls n (fresh o len) h (omega arith, omega arith) t.placed;
        short = λ k u. ⊎_elim (λ y. subst (λ (l : Line). l.length * w ≤ 130560) (sym y.1) few) (λ y. subst (λ (l : Line). l.length * w ≤ 130560) (sym y.0) (t.short k y.1)) (use_cases k u);
        lent = λ k u. ⊎_elim (λ y. subst (λ (l : Line). Q (block_at w l)) (sym y.1) new) (λ y. subst (λ (l : Line). Q (block_at w l)) (sym y.0) (keep (block_at w (line ls k)) (t.lent k y.1))) (use_cases k u);
        differ = λ j k y. elim (use_cases j y.0) [
          | inl a ↦ elim (use_cases k y.1) [
            | inl b ↦ a.0 ∙ sym b.0
            | inr b ↦ absurd (b.2 (ap (λ (l : Line). l.offset) (sym b.0) ∙ sym y.2 ∙ ap (λ (l : Line). l.offset) a.1))
          ]
          | inr a ↦ elim (use_cases k y.1) [
            | inl b ↦ absurd (a.2 (ap (λ (l : Line). l.offset) (sym a.0) ∙ y.2 ∙ ap (λ (l : Line). l.offset) b.1))
            | inr b ↦ t.differ j k (a.1, b.1, ap (λ (l : Line). l.offset) (sym a.0) ∙ y.2 ∙ ap (λ (l : Line). l.offset) b.0)
          ]
        ];
      }

-- a line that is closed
module _ (P Q : Block → Type 0) (w : ℕ) (ls : List Line) (n : ℕ) (h : n < length ls) (u : InUse (line ls n)) (keep : (b : Block) → P b → (b.offset ≡ (line ls n).offset → ⊥) → Q b) (t : Tidy P w ls) where
  -- a line that is still in use is another, and begins elsewhere
  pub still : (k : ℕ) → InUse (line (set ls n unused) k) → (k ≡ n → ⊥) × (line (set ls n unused) k ≡ line ls k) × InUse (line ls k) × ((line ls k).offset ≡ (line ls n).offset → ⊥)
  still k v =
      ⊎_elim (λ y. absurd (not_used _ y.1 v))
      (λ y. let before : InUse (line ls k) = subst InUse y.1 v in (y.0, y.1, before, λ e. y.0 (t.differ k n (before, u, e))))
      (line_cases ls n unused k h)

  pub tidy_close : Tidy Q w (set ls n unused)
  tidy_close =
      record {
        many = length-set ls n unused ∙ t.many;
        placed = each_set Good ls n unused h (omega arith, omega arith) t.placed;
        short = λ k v. let y = still k v in subst (λ (l : Line). l.length * w ≤ 130560) (sym y.1) (t.short k y.2);
        lent = λ k v. let y = still k v in subst (λ (l : Line). Q (block_at w l)) (sym y.1) (keep (block_at w (line ls k)) (t.lent k y.2) y.3);
        differ = λ j k y.
            let a = still j y.0 in let b = still k y.1 in
            t.differ j k (a.2, b.2, ap (λ (l : Line). l.offset) (sym a.1) ∙ y.2 ∙ ap (λ (l : Line). l.offset) b.1);
      }

-- the same of equal lines and an equal table
pub tidy_to : {T : Type 0} (f : T → Block → Type 0) (w : ℕ) (rs ts : T) (ls ms : List Line) → ts ≡ rs → ms ≡ ls → Tidy (f rs) w ls → Tidy (f ts) w ms
tidy_to {T} f w rs ts ls ms d e t = subst (λ (x : T). Tidy (f x) w ms) (sym d) (subst (λ (x : List Line). Tidy (f rs) w x) (sym e) t)
