-- One call of a rack, its answer, and the states around it, by the relations of the calls' own contracts.
use Rattle.std.specs.Prelude.{◌≡◌, ℕ, List, [], ◌∷◌, Result}
use Rattle.std.specs.Result.{result_map_both}
use Rattle.rack.specs.declared.fault.RackFault.{RackFault}
use Rattle.pages.specs.Rule.{Rule}
use Rattle.rack.specs.Model.{Model, Coding, Opens, Feeds, Ticks, tap_answer, Rings, Closes}
use Rattle.trace.specs.declared.call.Call.{Call}
use Rattle.trace.specs.declared.call.Call.TheVariants.{Open, Feed, Tick, Tap, Ring, Close}
use Rattle.trace.specs.declared.call.Answer.{Answer}
use Rattle.trace.specs.declared.call.Answer.TheVariants.{Opened, Done, Heard}

-- an `Answered<X>`, since antt has no name for an alias
abbrev pub Reply : Type 0 → Type 0
Reply X = Result (Answer X) RackFault

-- the reply to a call, by its result
abbrev pub opened : {X : Type 0} → Result ℕ RackFault → Reply X
opened r = result_map_both Opened (λ f. f) r

abbrev pub acknowledged : {X : Type 0} → Result (Unit {0}) RackFault → Reply X
acknowledged r = result_map_both (λ u. Done) (λ f. f) r

abbrev pub heard : {X : Type 0} → Result X RackFault → Reply X
heard r = result_map_both Heard (λ f. f) r

-- from m the call is answered by a, and leaves n
abbrev pub Step : {X : Type 0} → Rule → Coding X → (m : Model) → Call X → Reply X → (n : Model) → Type 0
Step R C m (Open k len) a n = (r : Result ℕ RackFault) × Opens R C.wide m k len r n × (a ≡ opened r)
Step R C m (Feed k x) a n = (r : Result (Unit {0}) RackFault) × Feeds C m k x r n × (a ≡ acknowledged r)
Step R C m (Tick k) a n = (r : Result (Unit {0}) RackFault) × Ticks C m k r n × (a ≡ acknowledged r)
Step R C m (Tap k d) a n = (a ≡ heard (tap_answer C m k d)) × (n ≡ m)
Step R C m (Ring k) a n = (r : Result (Unit {0}) RackFault) × Rings m k r n × (a ≡ acknowledged r)
Step R C m (Close k) a n = (r : Result (Unit {0}) RackFault) × Closes R m k r n × (a ≡ acknowledged r)

-- a call with its reply
abbrev pub Deed : Type 0 → Type 0
Deed X = Call X × Reply X

-- from m the calls of the log, first to last, are answered as it says, and leave n
abbrev pub Ran : {X : Type 0} → Rule → Coding X → (m : Model) → List (Deed X) → (n : Model) → Type 0
Ran R C m [] n = n ≡ m
Ran R C m (d ∷ log) n = (k : Model) × Step R C m d.0 d.1 k × Ran R C k log n

-- the calls, each beside its reply
abbrev pub beside : {X : Type 0} → List (Call X) → List (Reply X) → List (Deed X)
beside [] replies = []
beside (c ∷ calls) [] = []
beside (c ∷ calls) (a ∷ replies) = (c, a) ∷ beside calls replies
