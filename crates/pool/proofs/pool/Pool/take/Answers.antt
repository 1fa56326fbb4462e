-- What the parts say, over the tables that the call found.
use Rattle.std.proofs.Common.{Ok, ap, subst, inl}
use Rattle.pool.specs.Parts.{Beginning}
use Rattle.pool.proofs.Lending.{begun_taken}
use Rattle.pool.proofs.Loaned.{taken_adds}
use Rattle.pool.proofs.pool.Pool.take.Goals as goal

pub returns-in-Some-lend-clause-taken : goal.returns-in-Some-lend-clause-taken
returns-in-Some-lend-clause-taken g c =
    let e = c.in-Some-lend.ensures in
    let l = e.lends in
    record {
      shape = c.in-Some.shape;
      asked = c.in-Some.ensures.shape;
      spot = l.0;
      from = inl (l.1, ap g.S.Supply.table e.supply);
      block = l.2;
      size = l.3;
    }

pub returns-in-Some-lend-clause-adds : goal.returns-in-Some-lend-clause-adds
returns-in-Some-lend-clause-adds g c =
    let s = c.args.self.now in
    taken_adds s.runs.table (g.S.Supply.table s.supply) s.out s.differ (g.met.S.Supply.inside s.supply) (g.met.S.Supply.apart s.supply) (g.S.Supply.rule s.supply) c.args.bytes
    c.lend.new.self.runs.table (g.S.Supply.table c.lend.new.self.supply) (Ok c.in-Some-lend.block) (returns-in-Some-lend-clause-taken g c)

pub returns-in-None-clause-taken : goal.returns-in-None-clause-taken
returns-in-None-clause-taken g c =
    let e = c.in-None.ensures in
    let d = c.args.self.now.supply in
    let rs = c.args.self.now.runs.table in
    let us = c.lend.new.self.runs.table in
    let ts = c.begin.new.self.runs.table in
    let w = g.S.Supply.table c.begin.new.self.supply in
    begun_taken (g.S.Supply.rule d) c.args.bytes c.in-Some.shape rs us ts (g.S.Supply.table d) w c.begin.result c.in-Some.ensures.shape e.lends.0 e.lends.1
    (subst (λ t. Beginning (g.S.Supply.rule t) c.args.bytes c.in-Some.shape us ts (g.S.Supply.table t) w c.begin.result) e.supply c.begin.ensures.begins)

pub returns-in-None-clause-adds : goal.returns-in-None-clause-adds
returns-in-None-clause-adds g c =
    let s = c.args.self.now in
    taken_adds s.runs.table (g.S.Supply.table s.supply) s.out s.differ (g.met.S.Supply.inside s.supply) (g.met.S.Supply.apart s.supply) (g.S.Supply.rule s.supply) c.args.bytes
    c.begin.new.self.runs.table (g.S.Supply.table c.begin.new.self.supply) c.begin.result (returns-in-None-clause-taken g c)
