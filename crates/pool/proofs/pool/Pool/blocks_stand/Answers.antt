-- From what every pool knows of its tables.
use Rattle.pool.proofs.Sound.{blocks_stand_lem}
use Rattle.pool.proofs.pool.Pool.blocks_stand.Goals as goal

pub returns : goal.returns
returns g c =
    let p = c.args.self.now in
    blocks_stand_lem p.runs.table (g.S.Supply.table p.supply) p.out p.differ (g.met.S.Supply.inside p.supply) (g.met.S.Supply.apart p.supply)
