-- What the search has seen: each reserve below the page ends by the place at hand, and no lower place has room; the page is not past a reserve there.
use Rattle.std.proofs.Common.{◌≡◌, ℕ, ◌+◌, ◌-◌, ◌%◌, ◌<◌, ◌≤◌, map, get_or}
use Rattle.pages.specs.Table.{Free}
use Rattle.pages.proofs.lowest_fit.LowestFit.lowest.Given as goal

abbrev pub invariant-loop-place : goal.invariant-loop-place
invariant-loop-place g l =
    (l.place % g.P.Placement.alignment l.count ≡ 0) × (l.page < l.place + l.size) × (l.place < l.self.span + l.size)
    × ((f : ℕ) → f < l.page → 0 < get_or (map g.P.Placement.reserve l.self.counts) f 0 → f + get_or (map g.P.Placement.reserve l.self.counts) f 0 ≤ l.place)
    × ((q : ℕ) → q % g.P.Placement.alignment l.count ≡ 0 → q < l.place → Free (map g.P.Placement.reserve l.self.counts) q l.size → ⊥)

abbrev pub decreases-loop-place : goal.decreases-loop-place
decreases-loop-place g l = l.self.span - l.page
