-- The limits of the page layer, named once.
use Rattle.std.specs.Prelude.{ℕ}

-- the most pages that a supply can have
abbrev pub max_span : ℕ
max_span = 1024
