-- Lemmas on the span that a supply is made with.
use Rattle.std.proofs.Common.{◌≡◌, ℕ, Bool, true, Ok, Err, Result, sym}
use Rattle.std.proofs.lemmas.Bool.{cond_both}
use Rattle.std.specs.Result.{is_ok}
use Rattle.pages.specs.declared.fault.SpanFault.{SpanFault}
use Rattle.pages.specs.Spans.{SpanChecked, granted_span}

pub passes : (good : Bool) (span : ℕ) (r : Result (Unit {0}) SpanFault) → SpanChecked good span r → is_ok r ≡ good
passes good span (Ok _) h = sym h
passes good span (Err e) h = sym h.0

pub granted_good : (good : ℕ → Bool) (span : ℕ) → good 1 ≡ true → good (granted_span (good span) span) ≡ true
granted_good good span one = cond_both (good span) span 1 (λ n. good n ≡ true) (λ h. h) (λ _. one)
