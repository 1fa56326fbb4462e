-- The edges of the size classes, each computed from its definition.
use Rattle.std.proofs.Common.{refl, arith}
use Rattle.classes.proofs.Sizes.{smallest_from}
use Rattle.edges.specs.Edges.{ClassEdges}

pub class_edges : ClassEdges
class_edges =
    record {
      eight = smallest_from 7 0 (omega arith) refl;
      nine = smallest_from 8 1 (omega arith) refl;
      quarter = smallest_from 223 19 (omega arith) refl;
      past_quarter = smallest_from 224 20 (omega arith) refl;
      longest = smallest_from 1791 31 (omega arith) refl;
      shortest_long = record { long = omega arith; within = omega arith; holds = omega arith; least = λ q h. omega arith };
      longest_long = record { long = omega arith; within = omega arith; holds = omega arith; least = λ q h. omega arith };
      slot_start = (omega arith, refl);
      slot_middle = (omega arith, refl);
      no_start = λ s h. omega (arith, h.1);
    }
