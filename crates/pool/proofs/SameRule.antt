-- A take by a rule is a take by any rule that says the same.
use Rattle.std.proofs.Common.{ℕ, List, Ok, Err, Option, Result, inl, inr, ⊎_elim, arith}
use Rattle.pages.specs.declared.fault.SupplyFault.{SupplyFault}
use Rattle.pages.specs.declared.run.Run.{Run as PageRun}
use Rattle.pages.specs.Rule.{Rule, SameRule}
use Rattle.pages.specs.Calls.{Added, NotTaken}
use Rattle.runs.specs.declared.run.Run.{Run}
use Rattle.pool.specs.declared.block.Block.{Block}
use Rattle.pool.specs.declared.fault.PoolFault.{PoolFault}
use Rattle.pool.specs.Take.{Taken}

module _ (R Q : Rule) (s : SameRule R Q) where
  added_same : (count : ℕ) (v w : List ℕ) (p : PageRun) → Added Q count v w p → Added R count v w p
  added_same count v w p h =
      record {
        same = h.same;
        some = h.some;
        most = omega (arith, h.most, s.largest);
        fit = (s.fits v count).1 h.fit;
        inside = h.inside;
        free = h.free;
        chosen = (s.chooses v count p.first).1 h.chosen;
        after_is = h.after_is;
      }

  untaken_same : (count : ℕ) (v w : List ℕ) (e : SupplyFault) → NotTaken Q count v w e → NotTaken R count v w e
  untaken_same count v w e h =
      record {
        kept = h.kept;
        told = h.told;
        none = h.none;
        above = λ l. h.above (omega (arith, l, s.largest));
        unfit = λ a b. let k = h.unfit a (omega (arith, b, s.largest)) in (k.0, λ f. k.1 ((s.fits v count).0 f));
      }

  pub taken_same : (bytes : ℕ) (rs ts : List (Option Run)) (v w : List ℕ) (r : Result Block PoolFault) → Taken Q bytes rs ts v w r → Taken R bytes rs ts v w r
  taken_same bytes rs ts v w (Ok b) h =
      record {
        shape = h.shape;
        asked = h.asked;
        spot = h.spot;
        from = ⊎_elim inl
            (λ k.
            let n = k.1 in
            inr (k.0, record { lowest = n.lowest; added = added_same h.shape.count v w _ n.added; put = n.put; shape = n.shape; slots = n.slots; slot = n.slot }))
            h.from;
        block = h.block;
        size = h.size;
      }
  taken_same bytes rs ts v w (Err e) h =
      record {
        runs_kept = h.runs_kept;
        pages_kept = h.pages_kept;
        empty = h.empty;
        long = h.long;
        unbegun = λ a b.
            let k = h.unbegun a b in
            (k.0, k.1, k.2, record { full = k.3.full; unsupplied = λ f. let u = k.3.unsupplied f in (u.0, untaken_same k.0.count v w u.0 u.1, u.2) });
      }
