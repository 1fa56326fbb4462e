-- What a line remembers: the samples that it was fed, newest first.
use Rattle.std.specs.Prelude.{◌≡◌, ℕ, ◌≤◌, ◌⊎◌, List, ◌∷◌, ◌++◌, length}

-- x is the sample of the history with exactly d newer ones; or there is none, and x is silence
abbrev pub Recalled : {X : Type 0} → (silent : X) (h : List X) (d : ℕ) (x : X) → Type 0
Recalled {X} silent h d x =
    ((newer : List X) × (older : List X) × (h ≡ newer ++ x ∷ older) × (length newer ≡ d)) ⊎ ((length h ≤ d) × (x ≡ silent))
