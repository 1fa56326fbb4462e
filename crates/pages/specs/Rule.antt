-- The rule of a supply: what it grants.
use Rattle.std.specs.Prelude.{◌≡◌, ℕ, List}

pub record Rule : Type 1 where
  -- the largest count that it could ever take
  pub largest : ℕ
  -- which counts fit, by the runs out
  pub fits : List ℕ → ℕ → Type 0
  -- which places it may choose for a count that fits, by the runs out: the one thing that a supply leaves open
  pub chooses : List ℕ → ℕ → ℕ → Type 0

-- two rules let the same counts fit
abbrev pub SameFits : (List ℕ → ℕ → Type 0) → (List ℕ → ℕ → Type 0) → Type 0
SameFits P Q = (t : List ℕ) (c : ℕ) → (P t c → Q t c) × (Q t c → P t c)

-- two rules choose the same places
abbrev pub SameChoice : (List ℕ → ℕ → ℕ → Type 0) → (List ℕ → ℕ → ℕ → Type 0) → Type 0
SameChoice P Q = (t : List ℕ) (c p : ℕ) → (P t c p → Q t c p) × (Q t c p → P t c p)

-- two rules say the same
pub record SameRule (R Q : Rule) : Type 0 where
  pub largest : Q.largest ≡ R.largest
  pub fits : SameFits R.fits Q.fits
  pub chooses : SameChoice R.chooses Q.chooses
