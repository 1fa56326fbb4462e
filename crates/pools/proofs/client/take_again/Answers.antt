-- The release left a free slot, or a vacant index and a count that fits.
use Rattle.std.proofs.Common.{sym, subst, inr}
use Rattle.pages.proofs.SameRules.{same_next}
use Rattle.runs.specs.declared.table.Spot.{Spot}
use Rattle.pool.specs.Release.{Restored}
use Rattle.pool.proofs.Regrant.{granted_again}
use Rattle.pool.proofs.SameRule.{taken_same}
use Rattle.pools.proofs.client.take_again.Goals as goal

pub returns : goal.returns
returns g c =
    let s = c.args.pool.now in
    let d = s.supply in
    let m = c.release.new.self in
    let x = m.supply in
    let n = c.take.new.self in
    let e = c.in_ok-release.ensures in
    let h = e.released in
    let t = c.take.ensures in
    let rs = s.runs.table in
    let us = m.runs.table in
    let ts = n.runs.table in
    let v = g.S.Supply.table d in
    let u = g.S.Supply.table x in
    let w = g.S.Supply.table n.supply in
    let r = c.take.result in
    let R = g.S.Supply.rule d in
    let Q = g.S.Supply.rule x in
    record {
      rule_kept = same_next R Q (g.S.Supply.rule n.supply) e.rule_kept t.rule_kept;
      again = inr (
        us,
        u,
        h,
        taken_same R Q e.rule_kept c.args.bytes us ts u w r t.taken,
      );
      granted = λ p l b asked.
          let back : Restored R p rs us v u = subst (λ (q : Spot). Restored R q rs us v u) (sym (h.only p l b)) h.restored in
          granted_again R Q e.rule_kept (λ a k. g.met.S.Supply.fits_bounds x a k) c.args.bytes rs us ts v u w p l asked back (s.used (p.index, p.run, l.0)) r t.taken t.reuses;
    }
