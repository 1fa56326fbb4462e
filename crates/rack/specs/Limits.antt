-- The limits of a rack.
use Rattle.std.specs.Prelude.{ℕ}

-- how many lines a rack has
abbrev pub line_count : ℕ
line_count = 64
