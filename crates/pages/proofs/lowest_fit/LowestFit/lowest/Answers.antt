-- Each place below the one at hand fails: a reserve stands in its way.
use Rattle.std.proofs.Common.{◌≡◌, ℕ, ◌+◌, ◌%◌, ◌<◌, ◌≤◌, map, sym, subst, ⊎_elim, arith}
use Rattle.std.specs.List.{slice_index}
use Rattle.std.proofs.lemmas.Bool.{cases_lt, cases_order}
use Rattle.pages.specs.Table.{Free}
use Rattle.pages.specs.Placements.{reserved, run_reserve, below_next, next_bound}
use Rattle.pages.proofs.lowest_fit.LowestFit.lowest.Goals as goal

pub overflow_add-page : goal.overflow_add-page
overflow_add-page g c =
    let s = c.args.self.now in
    let w = run_reserve g.met.P.Placement.reserving s.span s.counts c.loop-place.page s.inside c.if-run-gt0.true in
    omega (arith, w.2)

pub next_multiple_of-place-requires-clause-fits : goal.next_multiple_of-place-requires-clause-fits
next_multiple_of-place-requires-clause-fits g c =
    let s = c.args.self.now in
    let L = g.met.P.Placement.reserving in
    let k = g.met.P.Placement.spans in
    let w = run_reserve L s.span s.counts c.loop-place.page s.inside c.if-run-gt0.true in
    let b = next_bound (c.loop-place.page + c.reserve-page.result) c.alignment-step.result (omega (arith, L.some c.args.count c.requires.0)) in
    omega (arith, w.2, k.most s.span s.good, L.within c.args.count c.requires.0, k.wide s.span s.good c.args.count c.requires.1)

pub loop-place-preserved-then-run-gt0 : goal.loop-place-preserved-then-run-gt0
loop-place-preserved-then-run-gt0 g c =
    let s = c.args.self.now in
    let L = g.met.P.Placement.reserving in
    let i = c.loop-place.invariant in
    let page = c.loop-place.page in
    let z = g.P.Placement.alignment c.args.count in
    let m = c.next_multiple_of-place.ensures in
    let w = run_reserve L s.span s.counts page s.inside c.if-run-gt0.true in
    let p : 0 < z = L.some c.args.count c.requires.0 in
    let b = L.within c.args.count c.requires.0 in
    let d : c.next_multiple_of-place.result % z ≡ 0 = subst (λ (x : ℕ). c.next_multiple_of-place.result % x ≡ 0) c.alignment-step.ensures m.multiple in (
      d,
      omega (arith, w.2),
      omega (arith, w.2, m.upper_bound),
      (λ f l h. ⊎_elim (λ e. grind arith) (⊎_elim (λ b. omega (arith, s.apart f page b w.0, m.lower_bound)) (λ b. omega (arith, s.apart page f b h))) (cases_order f page)),
      λ q e l f. ⊎_elim (λ b. i.4 q e b f) (λ b. let n = below_next z (page + c.reserve-page.result) c.next_multiple_of-place.result q p d (omega (arith, m.upper_bound)) e l in omega (arith, f page w.0 (omega (arith, w.1, n)))) (cases_lt q c.loop-place.place),
    )

pub loop-place-preserved : goal.loop-place-preserved
loop-place-preserved g c =
    let i = c.loop-place.invariant in
    let page = c.loop-place.page in (
      i.0,
      omega arith,
      i.2,
      (λ f l h. ⊎_elim (λ b. i.3 f b h) (λ b. let e = reserved g.met.P.Placement.reserving c.args.self.now.counts page in let n = g.met.P.Placement.reserving.none in grind arith) (cases_lt f page)),
      i.4,
    )

pub returns-then-place-size : goal.returns-then-place-size
returns-then-place-size g c =
    let i = c.loop-place.invariant in
    let page = c.loop-place.page in
    let clear : (f : ℕ) → f < page + 1 → 0 < slice_index (map g.P.Placement.reserve c.args.self.now.counts) f → f + slice_index (map g.P.Placement.reserve c.args.self.now.counts) f ≤ c.loop-place.place =
    (λ f l h. ⊎_elim (λ b. i.3 f b h) (λ b. let e = reserved g.met.P.Placement.reserving c.args.self.now.counts page in let n = g.met.P.Placement.reserving.none in grind arith) (cases_lt f page)) in (
      (i.0, omega arith, λ f h k. ⊎_elim (λ l. omega (arith, clear f l h)) (λ l. omega arith) (cases_lt f (page + 1))),
      λ q l room. i.4 q room.0 l (subst (λ (n : ℕ). Free (map g.P.Placement.reserve c.args.self.now.counts) q n) (sym c.reserve-size.ensures) room.2),
    )
