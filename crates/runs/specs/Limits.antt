-- The limits of runs and of their table.
use Rattle.std.specs.Prelude.{ℕ}

-- the most runs that a table holds
abbrev pub max_runs : ℕ
max_runs = 128

-- the most slots of a run, which the words of its bitmap hold
abbrev pub max_slots : ℕ
max_slots = 256
