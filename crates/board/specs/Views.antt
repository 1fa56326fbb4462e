-- What a board is seen as: its mark, its supply with its rule, how its samples stand in memory, and, with a sample memory,
-- the model of its rack; and what no call changes of it.
use Rattle.std.specs.Prelude.{◌≡◌, ℕ, List}
use Rattle.pages.specs.declared.supply.Supply.{Ghosts as SupplyGhosts}
use Rattle.samples.specs.declared.kind.Kind.{Ghosts as KindGhosts}
use Rattle.rack.specs.declared.line.Line.{Line}
use Rattle.pages.specs.Rule.{Rule, SameRule}
use Rattle.rack.specs.Model.{Model, Coding}
use Rattle.rack.specs.Views as rack
use Rattle.board.specs.declared.board.Board.{Board}

-- a board with a sample memory, as its calls see it
pub record BoardModel (X : Type 0) : Type 1 where
  pub mark : ℕ
  pub rule : Rule
  pub coding : Coding X
  pub rack : Model

module _ {S K X : Type 0} {supply : SupplyGhosts S} {kind : KindGhosts K X} (b : Board S K X supply kind) where
  abbrev pub mark_of : ℕ
  mark_of = b.mark

  abbrev pub lines_of : List Line
  lines_of = rack.lines_of b.rack

  abbrev pub pages_of : List ℕ
  pages_of = rack.pages_of b.rack

  abbrev pub supply_of : S
  supply_of = rack.supply_of b.rack

  abbrev pub model_of : (memory : List ℕ) → Model
  model_of memory = rack.model_of b.rack memory

  -- what its supply grants
  abbrev pub rule_of : Rule
  rule_of = rack.rule_of b.rack

  -- how its samples stand in memory
  abbrev pub coding_of : Coding X
  coding_of = rack.coding_of b.rack

  abbrev pub seen : (memory : List ℕ) → BoardModel X
  seen memory = record { mark = mark_of; rule = rule_of; coding = coding_of; rack = model_of memory }

-- what no call changes: the mark, and what the supply grants. How the samples stand in memory follows from their kind
pub record SameBoard {S K X : Type 0} {supply : SupplyGhosts S} {kind : KindGhosts K X} (before after : Board S K X supply kind) : Type 0 where
  pub mark : mark_of after ≡ mark_of before
  pub rule : SameRule (rule_of before) (rule_of after)
