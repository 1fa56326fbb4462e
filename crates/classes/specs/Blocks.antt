-- The size of the block that serves a request, as a function of its bytes.
use Rattle.std.specs.Prelude.{ℕ, zero, suc, ◌+◌, ◌-◌, ◌*◌, ◌/◌, cond, nat_le}
use Rattle.classes.specs.Limits.{page_bytes, longest_classed}
use Rattle.classes.specs.Rule.{size_of}

-- the first class from c on that holds the bytes, or the n-th after c
unfoldable pub class_from : (n c bytes : ℕ) → ℕ
class_from zero c bytes = c
class_from (suc n) c bytes = cond (nat_le bytes (size_of c)) c (class_from n (suc c) bytes)

-- the smallest class's size, or, for a long request, all the pages that it needs
unfoldable pub block_bytes : (bytes : ℕ) → ℕ
block_bytes bytes = cond (nat_le bytes longest_classed) (size_of (class_from 31 0 bytes)) ((bytes + (page_bytes - 1)) / page_bytes * page_bytes)
