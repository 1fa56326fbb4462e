-- Whole lists of calls, each beside its answer.
use Rattle.std.proofs.Common.{◌≡◌, ℕ, ◌+◌, ◌<◌, ◌≤◌, List, [], ◌∷◌, ◌++◌, length, get_or, take, sym, refl, ap, subst, arith}
use Rattle.std.proofs.lemmas.List.{length-take, take_more, take_all}
use Rattle.pages.specs.Rule.{Rule, SameRule}
use Rattle.rack.specs.Model.{Model, fresh_model, Coding}
use Rattle.trace.specs.declared.call.Call.{Call}
use Rattle.trace.specs.Steps.{Reply, Step, Deed, Ran, beside}
use Rattle.trace.specs.Law.{Lawful}
use Rattle.trace.proofs.Promises.{Promises}
use Rattle.trace.proofs.Rules.{step_same}
use Rattle.trace.proofs.Runs.{ran_more, every_run}

module _ {X : Type 0} (R : Rule) (C : Coding X) where
  beside_more : (calls : List (Call X)) (answers : List (Reply X)) (c : Call X) (a : Reply X) → length answers ≡ length calls → beside (calls ++ c ∷ []) (answers ++ a ∷ []) ≡ beside calls answers ++ (c, a) ∷ []
  beside_more [] [] c a h = refl
  beside_more [] (x ∷ answers) c a h = absurd (omega arith)
  beside_more (x ∷ calls) [] c a h = absurd (omega arith)
  beside_more (x ∷ calls) (y ∷ answers) c a h = ap (λ (l : List (Deed X)). (x, y) ∷ l) (beside_more calls answers c a (omega arith))

  -- one call more of a list, by a rule that says the same
  pub all_more : (Q : Rule) → SameRule R Q → (start m n : Model) (calls : List (Call X)) (answers after : List (Reply X)) (i : ℕ) (c d : Call X) (a : Reply X) → length answers ≡ i → i < length calls
      → Ran R C start (beside (take i calls) answers) m → c ≡ get_or calls i d → Step Q C m c a n → after ≡ answers ++ a ∷ [] → Ran R C start (beside (take (i + 1) calls) after) n
  all_more Q same start m n calls answers after i c d a l h r is s e =
      let t : length answers ≡ length (take i calls) = simp length-take (omega arith) in
      let z : beside (take (i + 1) calls) after ≡ beside (take i calls) answers ++ (c, a) ∷ [] = rw (e, take_more calls i d h, ← is) (beside_more (take i calls) answers c a t) in
      subst (λ (log : List (Deed X)). Ran R C start log n) (sym z) (ran_more C R start m n (beside (take i calls) answers) c a r (step_same R Q same C m n c a s))

  -- a run after a run
  pub ran_on : (m k n : Model) (log more : List (Deed X)) → Ran R C m log k → Ran R C k more n → Ran R C m (log ++ more) n
  ran_on m k n [] more r s = subst (λ (x : Model). Ran R C x more n) r s
  ran_on m k n (d ∷ log) more r s = (r.0, r.1, ran_on r.0 k n log more r.2 s)

  -- the whole list
  pub all_done : Promises R C → (start m : Model) (calls : List (Call X)) (answers : List (Reply X)) (i : ℕ) → length answers ≡ i → i ≤ length calls → length calls ≤ i → Ran R C start (beside (take i calls) answers) m → Lawful R C start calls answers m
  all_done promises start m calls answers i l low high r =
      let run = subst (λ (cs : List (Call X)). Ran R C start (beside cs answers) m) (take_all i calls high) r in
      record { all = omega arith; ran = run; law = λ span memory log led. every_run promises span memory (log ++ beside calls answers) m (ran_on (fresh_model span memory) start m log (beside calls answers) led run) }
