-- A refusal's number, and the values that it tells, the lowest layer's first.
use Rattle.std.specs.Prelude.{ℕ, List, [], ◌∷◌}
use Rattle.pages.specs.declared.fault.SupplyFault.{SupplyFault}
use Rattle.pages.specs.declared.fault.SupplyFault.TheVariants.{BadCount, NoFit, NotOut}
use Rattle.pages.specs.declared.fault.SpanFault.{SpanFault}
use Rattle.pages.specs.declared.fault.SpanFault.TheVariants.{BadSpan}

-- by the calls of a supply
abbrev pub number : SupplyFault → ℕ
number (BadCount count) = 11
number (NoFit count) = 12
number (NotOut first) = 13

abbrev pub places : SupplyFault → List ℕ
places (BadCount count) = count ∷ []
places (NoFit count) = count ∷ []
places (NotOut first) = first ∷ []

-- by the check of a span
abbrev pub span_number : SpanFault → ℕ
span_number (BadSpan span) = 14

abbrev pub span_places : SpanFault → List ℕ
span_places (BadSpan span) = span ∷ []
