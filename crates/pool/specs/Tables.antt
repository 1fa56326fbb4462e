-- What a pool is seen as: its table of runs, the table of pages of its supply, and the supply with its rule.
use Rattle.std.specs.Prelude.{ℕ, List, Option}
use Rattle.pages.specs.declared.supply.Supply.{Ghosts}
use Rattle.pages.specs.Rule.{Rule}
use Rattle.runs.specs.declared.run.Run.{Run}
use Rattle.pool.specs.declared.pool.Pool.{Pool}
use Rattle.pool.specs.Model.{PoolModel}

-- at each index a run or none
abbrev pub run_table : {S : Type 0} {g : Ghosts S} → Pool S g → List (Option Run)
run_table p = p.runs.table

-- at each page the count of the supply's run that begins there, or 0
abbrev pub page_table : {S : Type 0} {g : Ghosts S} → Pool S g → List ℕ
page_table {g = g} p = g.table p.supply

-- the supply below
abbrev pub supply_of : {S : Type 0} {g : Ghosts S} → Pool S g → S
supply_of p = p.supply

-- what the supply grants
abbrev pub rule_of : {S : Type 0} {g : Ghosts S} → Pool S g → Rule
rule_of {g = g} p = g.rule p.supply

abbrev pub seen : {S : Type 0} {g : Ghosts S} → Pool S g → PoolModel
seen p = record { rule = rule_of p; runs = run_table p; pages = page_table p }
