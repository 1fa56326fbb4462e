-- What a shape says of its slots.
use Rattle.std.proofs.Common.{◌≡◌, ℕ, zero, suc, ◌+◌, ◌-◌, ◌*◌, ◌/◌, ◌<◌, ◌≤◌, Some, None, Option, sym, refl, ap, ◌∙◌, one-mul, arith, pow_pos, pow_mono}
use Rattle.classes.specs.declared.class.Class.{Class}
use Rattle.classes.proofs.Sizes.{slots_fill}
use Rattle.runs.specs.declared.shape.Shape.{Shape}
use Rattle.runs.specs.Cut.{Paged}
use Rattle.runs.specs.Shapes.{slots_by, size_by, slots_in, block_size}

slots_few_by : (o : Option Class) → (0 < slots_by o) × (slots_by o ≤ 256)
slots_few_by (Some c) = (pow_pos (9 - (1 + c.number / 4)), pow_mono {j = 8} (omega arith))
slots_few_by None = (omega arith, omega arith)

-- a run has at least one slot, and at most 256
pub slots_few : (s : Shape) → (0 < slots_in s) × (slots_in s ≤ 256)
slots_few s = slots_few_by s.class

fill_by : (o : Option Class) (count : ℕ) → Paged o count → slots_by o * size_by o count ≡ count * 512
fill_by (Some c) count p = slots_fill c.number c.known ∙ ap (λ (n : ℕ). n * 512) (sym (p.1 c refl))
fill_by None count p = one-mul (count * 512)

-- the slots of a run fill its pages
pub slots_fill_pages : (s : Shape) → slots_in s * block_size s ≡ s.count * 512
slots_fill_pages s = fill_by s.class s.count s.paged

factor_some : (n m c : ℕ) → 0 < c → n * m ≡ c * 512 → 0 < m
factor_some n zero c h e = absurd (omega (arith, e))
factor_some n (suc m) c h e = omega arith

-- a block has a byte
pub size_some : (s : Shape) → 0 < block_size s
size_some s = factor_some (slots_in s) (block_size s) s.count (omega (arith, s.paged.0)) (slots_fill_pages s)
