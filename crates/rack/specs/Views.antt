-- What a rack is seen as: its lines, its pool's table of runs, its supply's table of pages, the supply with its rule, and
-- how its samples stand in memory.
use Rattle.std.specs.Prelude.{ℕ, List, Option}
use Rattle.pages.specs.declared.supply.Supply.{Ghosts as SupplyGhosts}
use Rattle.samples.specs.declared.kind.Kind.{Ghosts as KindGhosts}
use Rattle.pages.specs.Rule.{Rule}
use Rattle.runs.specs.declared.run.Run.{Run}
use Rattle.rack.specs.declared.line.Line.{Line}
use Rattle.rack.specs.declared.rack.Rack.{Rack}
use Rattle.rack.specs.Model.{Model, model, Coding, coding}

module _ {S K X : Type 0} {supply : SupplyGhosts S} {kind : KindGhosts K X} (r : Rack S K X supply kind) where
  abbrev pub lines_of : List Line
  lines_of = r.inner.lines

  abbrev pub runs_of : List (Option Run)
  runs_of = r.inner.pool.runs.table

  abbrev pub supply_of : S
  supply_of = r.inner.pool.supply

  abbrev pub pages_of : List ℕ
  pages_of = supply.table supply_of

  -- with a sample memory
  abbrev pub model_of : (memory : List ℕ) → Model
  model_of memory = model lines_of runs_of pages_of memory

  -- what its supply grants
  abbrev pub rule_of : Rule
  rule_of = supply.rule supply_of

  -- how its samples stand in memory
  abbrev pub coding_of : Coding X
  coding_of = coding kind.wide kind.silent kind.coded kind.heard
