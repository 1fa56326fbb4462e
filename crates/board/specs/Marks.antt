-- Which marks a source has handed out.
use Rattle.std.specs.Prelude.{◌≡◌, ℕ, ◌+◌, ◌<◌, Option, MatchOption}
use Rattle.board.specs.declared.mark.Mark.{Mark}
use Rattle.board.specs.declared.mark.Marks.{Marks}

-- the last number that a mark could have; it is handed to nobody
abbrev pub last_mark : ℕ
last_mark = 4294967295

-- the number was handed out
abbrev pub Issued : Marks → (n : ℕ) → Type 0
Issued s n = n < s.next

-- a mark is handed out that was not before, the next in order; where none is left, nothing changes
pub record IssuedNext (before : Marks) (m : Mark) (after : Marks) : Type 0 where
  pub is : m.number ≡ before.next
  pub next : after.next ≡ before.next + 1
  pub once : Issued before m.number → ⊥
  pub noted : Issued after m.number
  pub kept : (n : ℕ) → Issued before n → Issued after n

abbrev pub Issues : (before : Marks) → Option Mark → (after : Marks) → Type 0
Issues before r after = MatchOption r ((before.next ≡ last_mark) × (after ≡ before)) (λ m. IssuedNext before m after)
