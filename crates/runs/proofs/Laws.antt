-- What a loan and a return do to the free slots of a run.
use Rattle.std.proofs.Common.{◌≡◌, ℕ, ◌+◌, ◌<◌, Bool, true, false, List, length, get_or, Some, sym, ap, ◌∙◌, ⊎_elim}
use Rattle.std.proofs.lemmas.List.{get_or_past}
use Rattle.std.proofs.lemmas.Bool.{cases_lt, false≢true}
use Rattle.runs.specs.declared.run.Run.{Run}
use Rattle.runs.specs.Bitmap.{clear_in}
use Rattle.runs.specs.Loans.{loans}
use Rattle.runs.specs.Table.{free, is_on_loan, Lends, Restores}
use Rattle.runs.proofs.Bitmaps.{clear_in_lent, clear_in_back, set_within}

-- a clear bit stands within the list
pub clear_within : (bs : List Bool) (s : ℕ) → get_or bs s true ≡ false → s < length bs
clear_within bs s e = ⊎_elim (λ h. h) (λ h. absurd (false≢true (sym e ∙ get_or_past bs s true h))) (cases_lt s (length bs))

-- one free slot less
pub free_lend : (r t : Run) (s : ℕ) → Lends r (Some s) t → free t + 1 ≡ free r
free_lend r t s h =
    ap (λ (bs : List Bool). clear_in bs + 1) h.1.slots
    ∙ clear_in_lent (loans r.slots) s true (clear_within (loans r.slots) s h.0.0) h.0.0

-- one more
pub free_restore : (r t : Run) (s : ℕ) → is_on_loan r s ≡ true → Restores r s t → free t ≡ free r + 1
free_restore r t s e h = ap clear_in h.slots ∙ clear_in_back (loans r.slots) s false (set_within (loans r.slots) s e) e
