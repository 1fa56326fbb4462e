-- A text that writes a length is ASCII, and so UTF-8.
use Rattle.std.proofs.Common.{◌≡◌, ℕ, Bool, cond, List, [], ◌∷◌, drop, IsAscii, subst, ⊎_elim, arith}
use Rattle.std.specs.Str.Parse.{AllDigits}
use Rattle.std.proofs.lemmas.Str.Ascii.{IsAscii-nil, IsAscii-cons}
use Rattle.std.proofs.lemmas.Fmt.{IsAscii-from_digits}
use Rattle.std.proofs.lemmas.Bool.{cases_eq, eq-eqb, ne_eqb}
use Rattle.std.specs.Prelude.{Result, Ok, Err, None, MatchResult, IsUtf8}
use Rattle.std.specs.Result.{result_ok}
use Rattle.std.proofs.lemmas.Str.{IsUtf8-from_ascii}
use Rattle.layout.specs.Lengths.{Written}

pub ascii_written : (text : List ℕ) → Written text → IsAscii text
ascii_written [] w = IsAscii-nil
ascii_written (b ∷ bs) w =
    let rest : Bool → Type 0 = λ plus. AllDigits 10 (drop (cond plus 1 0) (b ∷ bs)) in
    ⊎_elim
    (λ plus. IsAscii-cons b bs (omega arith) (IsAscii-from_digits bs (subst rest (eq-eqb b 43 plus) w.0.1)))
    (λ none. IsAscii-from_digits (b ∷ bs) (subst rest (ne_eqb b 43 none) w.0.1))
    (cases_eq b 43)

-- bytes that are not read as a text write no length
pub unread : {T E : Type 0} (P : T → Type 0) (Q : E → Type 0) (text : List ℕ) (read : Result T E)
    → MatchResult read P (λ e. (IsUtf8 text → ⊥) × Q e) → result_ok read ≡ None → Written text → ⊥
unread P Q text (Ok x) h none w = cc
unread P Q text (Err e) h none w = h.0 (IsUtf8-from_ascii text (ascii_written text w))
