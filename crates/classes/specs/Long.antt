-- Requests too long for a class.
use Rattle.std.specs.Prelude.{ℕ, ◌*◌, ◌<◌, ◌≤◌, ◌⊎◌}
use Rattle.classes.specs.Limits.{page_bytes, longest_classed, longest_request}

-- the requests that have no run of their own
abbrev pub NotLong : ℕ → Type 0
NotLong bytes = (bytes ≤ longest_classed) ⊎ (longest_request < bytes)

-- p is the smallest number of pages that holds the request
pub record LongPages (bytes p : ℕ) : Type 0 where
  pub long : longest_classed < bytes
  pub within : bytes ≤ longest_request
  pub holds : bytes ≤ p * page_bytes
  pub least : (q : ℕ) → bytes ≤ q * page_bytes → p ≤ q
