-- One run lies at an offset, and one slot of it begins there.
use Rattle.std.proofs.Common.{◌*◌, ◌/◌, ◌<◌, ◌≤◌, length, sym, refl, ap, ◌∙◌, subst, arith}
use Rattle.runs.specs.declared.table.Spot.{Spot}
use Rattle.pool.specs.declared.fault.PoolFault.TheVariants.{PastSpan, NoRun}
use Rattle.pool.specs.State.{Entry}
use Rattle.pool.specs.Blocks.{OnLoan, Drops}
use Rattle.pool.specs.Release.{NotReleased}
use Rattle.std.proofs.lemmas.Result.{err_from_is_err_and}
use Rattle.pool.proofs.pool.Pool.release.Given.{Over}
use Rattle.runs.specs.Table.{covers}
use Rattle.pool.proofs.Sound.{covers_in, refused_past, refused_nowhere, refused_in, none_refused, only_spot}
use Rattle.pool.proofs.Loaned.{restored_drops}
use Rattle.pool.proofs.pool.Pool.release.Goals as goal

pub returns-then-offset-span-clause-released : goal.returns-then-offset-span-clause-released
returns-then-offset-span-clause-released g c =
    let s = c.args.self.now in
    let v = g.S.Supply.table s.supply in
    let past : length v * 512 ≤ c.args.offset = omega arith in
    refused_past s.runs.table v s.out s.differ (g.met.S.Supply.inside s.supply) (g.met.S.Supply.apart s.supply) c.args.offset (PastSpan c.args.offset) past (refl, refl)

pub returns-then-offset-span-clause-found : goal.returns-then-offset-span-clause-found
returns-then-offset-span-clause-found g c q l b =
    let s = c.args.self.now in
    absurd (none_refused s.runs.table (g.S.Supply.table s.supply) s.out s.differ (g.met.S.Supply.inside s.supply) (g.met.S.Supply.apart s.supply) c.args.offset (PastSpan c.args.offset)
    (returns-then-offset-span-clause-released g c) q l b)

pub returns-in_default-clause-released : goal.returns-in_default-clause-released
returns-in_default-clause-released g c =
    let s = c.args.self.now in
    let v = g.S.Supply.table s.supply in
    let within : c.args.offset < length v * 512 = omega arith in
    refused_nowhere s.runs.table v s.out s.differ (g.met.S.Supply.inside s.supply) (g.met.S.Supply.apart s.supply) c.args.offset (NoRun c.args.offset) within c.in_default.ensures (refl, refl)

pub returns-in_default-clause-found : goal.returns-in_default-clause-found
returns-in_default-clause-found g c q l b =
    let s = c.args.self.now in
    absurd (none_refused s.runs.table (g.S.Supply.table s.supply) s.out s.differ (g.met.S.Supply.inside s.supply) (g.met.S.Supply.apart s.supply) c.args.offset (NoRun c.args.offset)
    (returns-in_default-clause-released g c) q l b)

-- why the run found has no slot on loan there
refused : (g : Over) (c : goal.After-from_residual g) → NotReleased c.args.self.now.runs.table c.args.self.now.runs.table (g.S.Supply.table c.args.self.now.supply) (g.S.Supply.table c.args.self.now.supply) c.args.offset c.in_err-slot.field-0.0
refused g c =
    let s = c.args.self.now in
    let x : Entry s.runs.table = (c.in-Some.index, c.in-Some-get.run', sym c.in-Some-get.ensures) in
    refused_in s.runs.table (g.S.Supply.table s.supply) s.out s.differ (g.met.S.Supply.inside s.supply) (g.met.S.Supply.apart s.supply) c.args.offset _ x
    (covers_in x.1 c.args.offset (ap (covers (c.args.offset / 512)) (sym x.2) ∙ c.in-Some.ensures.1)) c.in_err-slot.ensures

pub returns-in_err-slot-clause-released : goal.returns-in_err-slot-clause-released
returns-in_err-slot-clause-released g c = let p = err_from_is_err_and c.from_residual.result c.from_residual.ensures.1 in rw (p.1, p.2) (refused g c)

pub returns-in_err-slot-clause-found : goal.returns-in_err-slot-clause-found
returns-in_err-slot-clause-found g c q l b =
    let s = c.args.self.now in
    absurd (none_refused s.runs.table (g.S.Supply.table s.supply) s.out s.differ (g.met.S.Supply.inside s.supply) (g.met.S.Supply.apart s.supply) c.args.offset _ (refused g c) q l b)

pub returns-clause-released : goal.returns-clause-released
returns-clause-released g c =
    let s = c.args.self.now in
    let rs = s.runs.table in
    let h = c.in_ok-slot.ensures in
    let p : Spot = record { index = c.in-Some.index; run = c.in-Some-get.run'; slot = c.in_ok-slot.slot } in
    let l : OnLoan rs p = (sym c.in-Some-get.ensures, h.1) in
    record {
      spot = p;
      on_loan = l;
      begins = h.0.1;
      only = λ q k b. only_spot rs (g.S.Supply.table s.supply) s.out s.differ (g.met.S.Supply.inside s.supply) (g.met.S.Supply.apart s.supply) p q c.args.offset l h.0.1 k b;
      restored = c.restore.ensures.restored;
    }

pub returns-clause-drops : goal.returns-clause-drops
returns-clause-drops g c =
    let s = c.args.self.now in
    let r = returns-clause-released g c in
    let d = c.restore.new.self in
    let p = r.spot in
    subst (Drops s.runs.table d.runs.table) r.begins
    (restored_drops s.runs.table (g.S.Supply.table s.supply) s.out s.differ (g.met.S.Supply.inside s.supply) (g.met.S.Supply.apart s.supply) p r.on_loan (g.S.Supply.rule s.supply) d.runs.table (g.S.Supply.table d.supply)
    (s.used (p.index, p.run, r.on_loan.0)) r.restored)
