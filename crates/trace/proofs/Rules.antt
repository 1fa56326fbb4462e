-- A step by a rule is a step by one that says the same.
use Rattle.std.proofs.Common.{ℕ, List, [], ◌∷◌, Ok, Err, Option, Result}
use Rattle.runs.specs.declared.run.Run.{Run}
use Rattle.pool.specs.Release.{Released}
use Rattle.pool.proofs.SameRule.{taken_same}
use Rattle.rack.specs.declared.fault.RackFault.{RackFault}
use Rattle.rack.specs.declared.state.State.{State}
use Rattle.pages.specs.Rule.{Rule, SameRule}
use Rattle.rack.specs.Model.{Model, Coding, OpensAs, open_checks, Closes}
use Rattle.trace.specs.declared.call.Call.{Call}
use Rattle.trace.specs.declared.call.Call.TheVariants.{Open, Feed, Tick, Tap, Ring, Close}
use Rattle.trace.specs.Steps.{Reply, Step, Deed, Ran}

module _ (R Q : Rule) (s : SameRule R Q) where
  released_same : (rs ts : List (Option Run)) (v w : List ℕ) (offset : ℕ) → Released Q rs ts v w offset → Released R rs ts v w offset
  released_same rs ts v w offset h =
      record {
        spot = h.spot;
        on_loan = h.on_loan;
        begins = h.begins;
        only = h.only;
        restored = record {
          more = h.restored.more;
          last = λ e. let k = h.restored.last e in (k.0, record { was = k.1.was; after_is = k.1.after_is; fit = (s.fits w h.spot.run.shape.count).1 k.1.fit });
        };
      }

  opens_same : (w : ℕ) (m : Model) (k len : ℕ) (c : Result State RackFault) (r : Result ℕ RackFault) (n : Model) → OpensAs Q w m k len c r n → OpensAs R w m k len c r n
  opens_same w m k len (Ok t) r n h =
      (h.0, taken_same R Q s _ m.runs n.runs m.pages n.pages h.0 h.1, h.2, h.3, h.4)
  opens_same w m k len (Err f) r n h = h

  closes_same : (m : Model) (k : ℕ) (r : Result (Unit {0}) RackFault) (n : Model) → Closes Q m k r n → Closes R m k r n
  closes_same m k (Ok u) n h = (h.0, record { lines = h.1.lines; released = released_same m.runs n.runs m.pages n.pages _ h.1.released; memory = h.1.memory })
  closes_same m k (Err f) n h = h

  pub step_same : {X : Type 0} (C : Coding X) (m n : Model) (c : Call X) (a : Reply X) → Step Q C m c a n → Step R C m c a n
  step_same C m n (Open k len) a h = (h.0, opens_same C.wide m k len (open_checks C.wide m k len) h.0 n h.1, h.2)
  step_same C m n (Feed k x) a h = h
  step_same C m n (Tick k) a h = h
  step_same C m n (Tap k d) a h = h
  step_same C m n (Ring k) a h = h
  step_same C m n (Close k) a h = (h.0, closes_same m k h.0 n h.1, h.2)

  pub ran_same : {X : Type 0} (C : Coding X) (m n : Model) (log : List (Deed X)) → Ran Q C m log n → Ran R C m log n
  ran_same C m n [] h = h
  ran_same C m n (d ∷ log) h = (h.0, step_same C m h.0 d.0 d.1 h.1, ran_same C h.0 n log h.2)
