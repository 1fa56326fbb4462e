-- What a supply and a kind of sample promise to the rack over them.
use Rattle.std.proofs.Common.{◌≡◌, ℕ, ◌<◌, ◌≤◌, List, length}
use Rattle.pages.specs.declared.supply.Supply.{Ghosts as SupplyGhosts}
use Rattle.samples.specs.declared.kind.Kind.{Ghosts as KindGhosts}
use Rattle.rack.specs.declared.rack.Rack.{Rack}
use Rattle.pages.specs.Rule.{Rule}
use Rattle.rack.specs.Model.{Coding}
use Rattle.rack.specs.Views.{rule_of, coding_of}

pub record Promises {X : Type 0} (R : Rule) (C : Coding X) : Type 0 where
  pub long : (x : X) → length (C.coded x) ≡ C.wide
  pub wide : 1 ≤ C.wide
  pub bounds : (t : List ℕ) (c : ℕ) → R.fits t c → (0 < c) × (c ≤ R.largest)
  pub inverse : (x : X) → C.heard (C.coded x) ≡ x

-- those of a rack, by the laws of its supply and of its kind
module _ {S K X : Type 0} {supply : SupplyGhosts S} {kind : KindGhosts K X} (r : Rack S K X supply kind) where
  pub promised : ((s : S) (t : List ℕ) (c : ℕ) → (supply.rule s).fits t c → (0 < c) × (c ≤ (supply.rule s).largest)) → ((x : X) → length (kind.coded x) ≡ kind.wide) → 1 ≤ kind.wide → ((x : X) → kind.heard (kind.coded x) ≡ x)
      → Promises (rule_of r) (coding_of r)
  promised bounds long least back = record { long = long; wide = least; bounds = bounds _; inverse = back }
