-- What the C calls answer: 65,535 outside the class rules, which is no class, size, count of pages or slot.
use Rattle.std.specs.Prelude.{◌≡◌, ℕ, ◌/◌, cond, ◌&&◌, ◌⊎◌, nat_lt}
use Rattle.classes.specs.Limits.{classes}
use Rattle.classes.specs.Rule.{size_of, pages_of, run_bytes, Unclassed, Smallest}

abbrev pub outside : ℕ
outside = 65535

abbrev pub ClassAnswer : (length r : ℕ) → Type 0
ClassAnswer length r = (Unclassed length × (r ≡ outside)) ⊎ Smallest length r

abbrev pub size_answer : ℕ → ℕ
size_answer c = cond (nat_lt c classes) (size_of c) outside

abbrev pub pages_answer : ℕ → ℕ
pages_answer c = cond (nat_lt c classes) (pages_of c) outside

abbrev pub slot_answer : (c place : ℕ) → ℕ
slot_answer c place = cond (nat_lt c classes && nat_lt place (run_bytes c)) (place / size_of c) outside
