-- Slices of the width.
use Rattle.std.proofs.Common.{◌≡◌, ℕ, eqb, List, length}
use Rattle.std.proofs.lemmas.Bool.{cond-true, eq-eqb}
use Rattle.samples.specs.Codes.{recoded}

pub recoded_whole : (wide : ℕ) (bytes before : List ℕ) → length before ≡ wide → recoded wide bytes before ≡ bytes
recoded_whole wide bytes before e = cond-true (eqb (length before) wide) bytes before (eq-eqb (length before) wide e)
