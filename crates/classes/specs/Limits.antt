-- The limits of the size rules.
use Rattle.std.specs.Prelude.{ℕ}

-- the bytes of a page
abbrev pub page_bytes : ℕ
page_bytes = 512

-- how many classes there are
abbrev pub classes : ℕ
classes = 32

-- the longest request that has a class, in bytes
abbrev pub longest_classed : ℕ
longest_classed = 1792

-- the longest request, in bytes
abbrev pub longest_request : ℕ
longest_request = 130560
