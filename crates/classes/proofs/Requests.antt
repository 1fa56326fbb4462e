-- The block that serves a request is that of its smallest class, or of its own run.
use Rattle.std.proofs.Common.{◌≡◌, ℕ, zero, suc, ◌+◌, ◌*◌, ◌/◌, ◌<◌, ◌≤◌, leb, ap, ◌∙◌, ⊎_elim, arith}
use Rattle.std.proofs.lemmas.Bool.{cond-true, cond-false, le-leb, lt-leb, cases_eq}
use Rattle.classes.specs.Rule.{size_of, Smallest}
use Rattle.classes.specs.Long.{LongPages}
use Rattle.classes.specs.Blocks.{class_from, block_bytes}

class_from_lem : (n c d bytes : ℕ) → c ≤ d → d ≤ c + n → Smallest bytes d → class_from n c bytes ≡ d
unfolding class_from
class_from_lem zero c d bytes low high h = omega arith
class_from_lem (suc n) c d bytes low high h =
    ⊎_elim
    (λ same. cond-true (leb bytes (size_of c)) c _ (le-leb bytes (size_of c) (rw same h.holds)) ∙ same)
    (λ other.
    let less : c < d = omega arith in
    cond-false (leb bytes (size_of c)) c _ (lt-leb bytes (size_of c) (h.least c less)) ∙ class_from_lem n (suc c) d bytes less (omega arith) h)
    (cases_eq c d)

pub block_of_class : (bytes c : ℕ) → Smallest bytes c → block_bytes bytes ≡ size_of c
unfolding block_bytes
block_of_class bytes c h =
    cond-true (leb bytes 1792) _ _ (le-leb bytes 1792 h.within) ∙ ap size_of (class_from_lem 31 0 c bytes (omega arith) (omega (arith, h.known)) h)

pub block_of_long : (bytes p : ℕ) → LongPages bytes p → block_bytes bytes ≡ p * 512
unfolding block_bytes
block_of_long bytes p h =
    let least = h.least ((bytes + 511) / 512) (omega arith) in
    let pages : (bytes + 511) / 512 ≡ p = omega (arith, h.holds, least) in
    cond-false (leb bytes 1792) _ _ (lt-leb bytes 1792 h.long) ∙ ap (λ n. n * 512) pages
