-- Which spans a supply can have, what their check answers, and the span that a supply is made with.
use Rattle.std.specs.Prelude.{◌≡◌, ℕ, Bool, true, false, cond, [], ◌∷◌, Ok, Err, Result, nat_le, nat_lt}
use Rattle.pages.specs.declared.fault.SpanFault.{SpanFault}
use Rattle.pages.specs.Faults.{span_number, span_places}
use Rattle.pages.specs.Limits.{max_span}

-- from 1 to the most pages
abbrev pub good_span : ℕ → Bool
good_span span = cond (nat_lt 0 span) (nat_le span max_span) false

-- the check passes a good span, and refuses any other by 14, with the span told
abbrev pub SpanChecked : (good : Bool) → (span : ℕ) → Result (Unit {0}) SpanFault → Type 0
SpanChecked good span (Ok _) = good ≡ true
SpanChecked good span (Err e) = (good ≡ false) × (span_number e ≡ 14) × (span_places e ≡ span ∷ [])

-- a supply that is made with a span that is not good has 1 page
abbrev pub granted_span : (good : Bool) → (span : ℕ) → ℕ
granted_span good span = cond good span 1
