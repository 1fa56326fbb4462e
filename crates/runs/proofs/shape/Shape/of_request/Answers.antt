-- A long request has at most 255 pages; a classed one is within the longest.
use Rattle.std.proofs.Common.{sym, refl, arith}
use Rattle.classes.proofs.Requests.{block_of_class, block_of_long}
use Rattle.runs.proofs.shape.Shape.of_request.Goals as goal

pub returns-in-Some-clause-shape : goal.returns-in-Some-clause-shape
returns-in-Some-clause-shape c =
    let s = c.in-Some.ensures in
    record { some = s.some; within = omega (arith, s.within); classed = λ h. (c.in-Some.class, refl, s); own = λ h. absurd (omega (arith, s.within)) }

pub returns-in-Some-clause-size : goal.returns-in-Some-clause-size
returns-in-Some-clause-size c = sym (block_of_class c.args.bytes c.in-Some.class.number c.in-Some.ensures)

pub overflow_cast-result-2 : goal.overflow_cast-result-2
overflow_cast-result-2 c = let p = c.in_ok-pages.ensures in omega (arith, p.least 255 p.within)

pub returns-clause-size : goal.returns-clause-size
returns-clause-size c = sym (block_of_long c.args.bytes c.in_ok-pages.pages c.in_ok-pages.ensures)
