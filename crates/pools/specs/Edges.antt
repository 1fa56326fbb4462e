-- Where blocks went.
use Rattle.std.specs.Prelude.{◌≡◌, ℕ, List, [], ◌∷◌, Ok, Err, Result}
use Rattle.pool.specs.declared.block.Block.{Block}
use Rattle.pool.specs.declared.fault.PoolFault.{PoolFault}

-- a block of `size` bytes went to the offset
abbrev pub Went : (offset size : ℕ) → Result Block PoolFault → Type 0
Went offset size (Ok b) = (b.offset ≡ offset) × (b.size ≡ size)
Went offset size (Err e) = ⊥

-- blocks of `size` bytes went to the offsets, one after the other
abbrev pub AllWent : (size : ℕ) → (offsets : List ℕ) → List (Result Block PoolFault) → Type 0
AllWent size [] [] = Unit {0}
AllWent size [] (r ∷ rs) = ⊥
AllWent size (o ∷ os) [] = ⊥
AllWent size (o ∷ os) (r ∷ rs) = Went o size r × AllWent size os rs
