-- A run is given, and its count taken at once.
use Rattle.std.specs.Prelude.{ℕ, List, Ok, Err, Result, slice_set}
use Rattle.pages.specs.declared.fault.SupplyFault.{SupplyFault}
use Rattle.pages.specs.declared.run.Run.{Run}
use Rattle.pages.specs.Rule.{Rule}
use Rattle.pages.specs.Table.{Out}
use Rattle.pages.specs.Calls.{Added, NotGiven}

-- granted if the run was out: a run of its count is added to the table without it; else refused as the give is
abbrev pub Again : Rule → (first count : ℕ) → (before after : List ℕ) → Result Run SupplyFault → Type 0
Again R first count before after (Ok run) = Out before first count × Added R count (slice_set before first 0) after run
Again R first count before after (Err e) = NotGiven first count before after e
