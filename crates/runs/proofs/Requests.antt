-- Which shape serves a request, by the size of its blocks.
use Rattle.std.proofs.Common.{◌≡◌, ℕ, zero, suc, ◌+◌, ◌/◌, ◌<◌, ◌≤◌, ◌⊎◌, Some, None, Option, sym, refl, ap, ◌∙◌, subst, inl, inr, ⊎_elim, arith}
use Rattle.std.proofs.lemmas.Bool.{cases_lt, cases_eq, cases_order}
use Rattle.classes.specs.declared.class.Class.{Class}
use Rattle.classes.specs.Rule.{size_of, Smallest}
use Rattle.classes.specs.Long.{LongPages}
use Rattle.classes.specs.Blocks.{block_bytes}
use Rattle.classes.proofs.Sizes.{sizes_rise}
use Rattle.classes.proofs.Requests.{block_of_class, block_of_long}
use Rattle.runs.specs.declared.shape.Shape.{Shape}
use Rattle.runs.specs.Shapes.{block_size, size_by, ShapeOf}

-- a request has a class, or is too long for one
pub classed_or_long : (bytes : ℕ) → (bytes ≤ 1792) ⊎ (1792 < bytes)
classed_or_long bytes = ⊎_elim (λ h. inl (omega arith)) (λ h. inr (omega arith)) (cases_lt bytes 1793)

-- the size of a request's shape
pub size_of_request : (bytes : ℕ) (s : Shape) → ShapeOf bytes s → block_size s ≡ block_bytes bytes
size_of_request bytes s h =
    ⊎_elim
    (λ small. let c = h.classed small in ap (λ (o : Option Class). size_by o s.count) c.1 ∙ sym (block_of_class bytes c.0.number c.2))
    (λ long. let k = h.own long in ap (λ (o : Option Class). size_by o s.count) k.0 ∙ sym (block_of_long bytes s.count k.1))
    (classed_or_long bytes)

-- each length up to the longest class has a smallest class
smallest_exists : (n c bytes : ℕ) → c + n ≡ 31 → 0 < bytes → bytes ≤ 1792 → ((d : ℕ) → d < c → size_of d < bytes) → (d : ℕ) × Smallest bytes d
smallest_exists zero c bytes e some within low =
    let top : c ≡ 31 = omega arith in
    (c, record { some = some; within = within; known = omega arith; holds = omega (arith, ap size_of top); least = low })
smallest_exists (suc n) c bytes e some within low =
    ⊎_elim
    (λ over. smallest_exists n (suc c) bytes (omega arith) some within (λ d h. ⊎_elim (λ same. rw same over) (λ other. low d (omega arith)) (cases_eq d c)))
    (λ holds. (c, record { some = some; within = within; known = omega arith; holds = holds; least = low }))
    (cases_lt (size_of c) bytes)

pub has_class : (bytes : ℕ) → 0 < bytes → bytes ≤ 1792 → (d : ℕ) × Smallest bytes d
has_class bytes some within = smallest_exists 31 0 bytes refl some within (λ d h. absurd (omega arith))

-- the pages of a longer one
pub long_pages : (bytes : ℕ) → 1792 < bytes → bytes ≤ 130560 → LongPages bytes ((bytes + 511) / 512)
long_pages bytes long within = record { long = long; within = within; holds = omega arith; least = λ q h. omega arith }

-- two classes of one size are one
same_class : (c d : ℕ) → c < 32 → d < 32 → size_of c ≡ size_of d → c ≡ d
same_class c d h k e =
    ⊎_elim (λ same. same)
    (⊎_elim (λ less. absurd (omega (arith, sizes_rise d c k less))) (λ more. absurd (omega (arith, sizes_rise c d h more))))
    (cases_order c d)

class_at_most : (c : ℕ) → c < 32 → size_of c ≤ 1792
class_at_most c h = ⊎_elim (λ top. rw top (omega arith)) (λ other. omega (arith, sizes_rise 31 c (omega arith) (omega arith))) (cases_eq c 31)

-- a shape whose blocks have the request's size is the request's
pub shape_of_size : (bytes : ℕ) (s : Shape) → 0 < bytes → bytes ≤ 130560 → block_size s ≡ block_bytes bytes → ShapeOf bytes s
shape_of_size bytes s some within e = by s.class refl
  where
    size_by_lem : (o : Option Class) → s.class ≡ o → size_by o s.count ≡ block_bytes bytes
    size_by_lem o p = ap (λ (x : Option Class). size_by x s.count) (sym p) ∙ e

    by : (o : Option Class) → s.class ≡ o → ShapeOf bytes s
    by (Some c) p =
        ⊎_elim
        (λ small.
        let d = has_class bytes some small in
        let same : c.number ≡ d.0 = same_class c.number d.0 c.known d.1.known (size_by_lem (Some c) p ∙ block_of_class bytes d.0 d.1) in
        record { some = some; within = within; classed = λ h. (c, p, subst (Smallest bytes) (sym same) d.1); own = λ h. absurd (omega arith) })
        (λ long.
        let l = long_pages bytes long within in
        absurd (omega (arith, class_at_most c.number c.known, size_by_lem (Some c) p, block_of_long bytes ((bytes + 511) / 512) l)))
        (classed_or_long bytes)
    by None p =
        ⊎_elim
        (λ small.
        let d = has_class bytes some small in
        absurd (omega (arith, class_at_most d.0 d.1.known, size_by_lem None p, block_of_class bytes d.0 d.1, s.paged.0)))
        (λ long.
        let l = long_pages bytes long within in
        let same : (bytes + 511) / 512 ≡ s.count = omega (arith, size_by_lem None p, block_of_long bytes ((bytes + 511) / 512) l) in
        record { some = some; within = within; classed = λ h. absurd (omega arith); own = λ h. (p, subst (LongPages bytes) same l) })
        (classed_or_long bytes)

-- a request's block holds it
pub block_holds : (bytes : ℕ) (s : Shape) → ShapeOf bytes s → bytes ≤ block_size s
block_holds bytes s h =
    ⊎_elim
    (λ small. let c = h.classed small in omega (arith, c.2.holds, ap (λ (o : Option Class). size_by o s.count) c.1))
    (λ long. let k = h.own long in omega (arith, k.1.holds, ap (λ (o : Option Class). size_by o s.count) k.0))
    (classed_or_long bytes)

-- so does the block of a length in bytes
pub request_holds : (bytes : ℕ) → 0 < bytes → bytes ≤ 130560 → bytes ≤ block_bytes bytes
request_holds bytes some within =
    ⊎_elim
    (λ small. let d = has_class bytes some small in omega (arith, d.1.holds, block_of_class bytes d.0 d.1))
    (λ long.
    let l = long_pages bytes long within in
    omega (arith, l.holds, block_of_long bytes ((bytes + 511) / 512) l))
    (classed_or_long bytes)
