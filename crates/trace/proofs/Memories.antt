-- What a line remembers: the bytes of each sample that it keeps stand where a tap looks for them.
use Rattle.std.proofs.Common.{◌≡◌, ℕ, zero, suc, ◌+◌, ◌*◌, ◌<◌, ◌≤◌, min, ltb, ◌⊎◌, List, [], ◌∷◌, ◌++◌, length, get_or, take, drop, sym, refl, ap, ◌∙◌, inl, inr, ⊎_elim, arith}
use Rattle.std.proofs.lemmas.List.{drop_at, take_at, take-take, take-append-le, drop-take, length-take-le, get_or_past}
use Rattle.std.proofs.lemmas.Slice.{drop-put_mid}
use Rattle.std.proofs.lemmas.Bool.{cond_both, ltb-true, ltb-false}
use Rattle.std.proofs.lemmas.Bool.Decides.{nat_tests}
use Rattle.rack.specs.declared.line.Line.{Line}
use Rattle.rack.specs.Lines.{fed, place, patched, piece, back, after, tapped}
use Rattle.rack.proofs.Rooms.{row, patched_mid}
use Rattle.trace.specs.History.{Recalled}

-- the line l of the memory m holds the samples h, newest first: it keeps as many as it has room for
abbrev pub Holds : {X : Type 0} → (coded : X → List ℕ) (w : ℕ) (m : List ℕ) → Line → (h : List X) → Type 0
Holds {X} coded w m l h =
    (l.kept ≡ min (length h) l.length)
    × ((d : ℕ) (x : X) → d < l.kept → piece m (place w l (back l.length l.next d)) w ≡ coded (get_or h d x))

-- the samples of the two lines share no byte
abbrev pub Disjoint : (w : ℕ) → Line → Line → Type 0
Disjoint w l k = (l.offset + l.length * w ≤ k.offset) ⊎ (k.offset + k.length * w ≤ l.offset)

back_newest : (n p : ℕ) → p < n → back n (after n p) 0 ≡ p
back_newest n p h = grind (arith, nat_tests)

back_older : (n p d : ℕ) → p < n → d + 1 < n → back n (after n p) (suc d) ≡ back n p d
back_older n p d h k = grind (arith, nat_tests)

back_apart : (n p d : ℕ) → p < n → d + 1 < n → (back n p d < p) ⊎ (p < back n p d)
back_apart n p d h k = grind (arith, nat_tests)

-- what a write leaves
module _ (m bs : List ℕ) (a : ℕ) (within : a ≤ length m) where
  piece_same : (w : ℕ) → length bs ≡ w → piece (patched m a bs) a w ≡ bs
  piece_same w e = ap (take w) (drop_at (take a m) (bs ++ drop (a + length bs) m) a (length-take-le a m within)) ∙ take_at bs _ w e

  piece_below : (b w : ℕ) → b + w ≤ a → piece (patched m a bs) b w ≡ piece m b w
  piece_below b w h =
      let g : b + w ≤ length (take a m) = simp length-take-le (omega arith) in
      sym (drop-take b w (patched m a bs)) ∙ ap (drop b) (take-append-le (b + w) (take a m) _ g ∙ take-take (b + w) a m h) ∙ drop-take b w m

  piece_above : (b w : ℕ) → a + length bs ≤ b → piece (patched m a bs) b w ≡ piece m b w
  piece_above b w h =
      ap (λ s. take w (drop b s)) (sym (patched_mid a (length bs) (length bs) m bs refl refl)) ∙
      ap (take w) (drop-put_mid a (length bs) m bs b h within refl)

module _ {X : Type 0} (coded : X → List ℕ) (w : ℕ) (long : (x : X) → length (coded x) ≡ w) where
  -- the bytes of another position stay
  other : (m : List ℕ) (l : Line) (x : X) (q : ℕ) → l.next < l.length → l.offset + l.length * w ≤ length m → (q < l.next) ⊎ (l.next < q) →
      piece (patched m (place w l l.next) (coded x)) (place w l q) w ≡ piece m (place w l q) w
  other m l x q p fits apart =
      let below : l.offset + l.next * w ≤ length m = omega (arith, row l.next l.length w p) in
      ⊎_elim
      (λ h. piece_below m (coded x) (place w l l.next) below (place w l q) w (omega (arith, row q l.next w h)))
      (λ h. piece_above m (coded x) (place w l l.next) below (place w l q) w (omega (arith, row l.next q w h, long x)))
      apart

  -- one feed more
  pub feed_holds : (m : List ℕ) (l : Line) (h : List X) (x : X) → l.next < l.length → l.offset + l.length * w ≤ length m →
      Holds coded w m l h → Holds coded w (patched m (place w l l.next) (coded x)) (fed l) (x ∷ h)
  feed_holds m l h x p fits (kept, held) = (grind (arith, nat_tests), at)
    where
      below : l.offset + l.next * w ≤ length m
      below = omega (arith, row l.next l.length w p)

      at : (d : ℕ) (y : X) → d < (fed l).kept → piece (patched m (place w l l.next) (coded x)) (place w l (back l.length (after l.length l.next) d)) w ≡ coded (get_or (x ∷ h) d y)
      at zero y k = rw (back_newest l.length l.next p) (piece_same m (coded x) (place w l l.next) below w (long x))
      at (suc d) y k =
          let near : d + 1 < l.length = grind (arith, nat_tests) in
          let old : d < l.kept = grind (arith, nat_tests) in
          rw (back_older l.length l.next d p near) (other m l x (back l.length l.next d) p fits (back_apart l.length l.next d p near) ∙ held d y old)

  -- a feed of another line, which shares no byte, leaves what a line holds
  pub other_holds : (m : List ℕ) (l k : Line) (h : List X) (x : X) → l.next < l.length → k.next < k.length → k.offset + k.length * w ≤ length m →
      Disjoint w l k → Holds coded w m l h → Holds coded w (patched m (place w k k.next) (coded x)) l h
  other_holds m l k h x p q fits apart (kept, held) = (
    kept,
    λ d y near.
        let b : ℕ = back l.length l.next d in
        let less : b < l.length = grind (arith, nat_tests) in
        let mine : b * w + w ≤ l.length * w = row b l.length w less in
        let its : k.next * w + w ≤ k.length * w = row k.next k.length w q in
        let below : place w k k.next ≤ length m = omega arith in
        ⊎_elim
        (λ (s : l.offset + l.length * w ≤ k.offset). piece_below m (coded x) (place w k k.next) below (place w l b) w (omega arith))
        (λ (s : k.offset + k.length * w ≤ l.offset). piece_above m (coded x) (place w k k.next) below (place w l b) w (omega (arith, long x)))
        apart ∙ held d y near,
  )

-- a tap within the line's length answers what was fed, and silence past the first
pub tap_holds : {X : Type 0} (coded : X → List ℕ) (heard : List ℕ → X) (silent : X) (w : ℕ) → ((x : X) → heard (coded x) ≡ x) →
    (m : List ℕ) (l : Line) (h : List X) (d : ℕ) → d < l.length → Holds coded w m l h → tapped heard silent w m l d ≡ get_or h d silent
tap_holds coded heard silent w law m l h d near (kept, held) =
    cond_both (ltb d l.kept) _ _ (λ v. v ≡ get_or h d silent)
    (λ t. let k : d < l.kept = ltb-true d l.kept t in ap heard (held d silent k) ∙ law (get_or h d silent))
    (λ t. let k : l.kept ≤ d = ltb-false d l.kept t in sym (get_or_past h d silent (omega arith)))

pub recalled : {X : Type 0} (silent : X) (h : List X) (d : ℕ) (x : X) → x ≡ get_or h d silent → Recalled silent h d x
recalled silent [] d x e = inr (omega arith, e)
recalled silent (y ∷ h) zero x e = inl ([], h, ap (λ z. z ∷ h) (sym e), refl)
recalled silent (y ∷ h) (suc d) x e =
    elim (recalled silent h d x e) [
      | inl r ↦ inl (y ∷ r.0, r.1, ap (λ l. y ∷ l) r.2, ap suc r.3)
      | inr r ↦ inr (omega (arith, r.0), r.1)
    ]
