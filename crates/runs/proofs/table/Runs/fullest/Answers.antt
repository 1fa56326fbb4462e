-- The entries that the chain yields are those of the table that serve, and `min_by_key` picks the least of their ranks.
use Rattle.std.proofs.Common.{◌≡◌, ℕ, ◌<◌, List, Option, get_or, Some, None, length, true, Bor, sym, ◌∙◌, subst, arith, rules}
use borrow.Author.Tests.{tests}
use Rattle.std.proofs.lemmas.Grind.{common_steps}
use Rattle.std.proofs.lemmas.Iterator.Adapters.{option_map_id}
use Rattle.std.proofs.lemmas.Option.{MatchOption-at_some}
use Rattle.std.specs.List.{filter}
use Rattle.std.specs.Option.{option_map, IsSomeAnd}
use Rattle.runs.specs.declared.run.Run.{Run}
use Rattle.runs.specs.Table.{serves, rank}
use Rattle.runs.proofs.Places.{serving, fullest_by}
use Rattle.runs.proofs.table.Runs.fullest.Goals as goal

pub returns : goal.returns
returns c =
    let rs = c.args.self.now.table in
    let cl = c.args.class.number in
    let m = c.min_by_key.ensures.runs in
    let f = c.filter.ensures.runs m.0 m.0.seen m.1 in
    let e = c.enumerate.ensures.runs f.0 f.0.seen f.1 in
    let i = c.iter.ensures.runs e.1.0 e.1.0.seen in
    let ys : List (ℕ × Bor (Option Run)) = f.0.items in
    let whole : e.1.0.whole ≡ true = e.1.2.1 ∙ f.2.0 ∙ m.2 in
    let long : length ys ≡ length rs = grind (arith, i.1 whole) in
    let at : (k : ℕ) (d : ℕ × Bor (Option Run)) → k < length ys → ((get_or ys k d).0 ≡ k) × ((get_or ys k d).1.now ≡ get_or rs k None) = λ k d h. grind (arith, common_steps, e.0 k) in
    let kept : m.0.items ≡ filter (serving cl rs ys long at) ys = f.2.4 (λ y. serves cl y.1.now) (λ x r q k. search (rules, tests)) in
    let item : (k : ℕ) (d : ℕ × Bor (Option Run)) → k < m.0.len → m.0.at k ≡ Some (get_or m.0.items k d) = λ k d h. sym (option_map_id (m.0.at k)) ∙ m.0.reads k d h in
    let answer : option_map (λ y. y.0) c.min_by_key.result ≡ c.map.result = search (rules, tests) in
    fullest_by cl rs ys long at m.0.items kept c.min_by_key.result _ _ m.3 (λ none. omega arith)
    (λ b found.
    let keys = found.1 (λ a r g k. search (rules, tests)) in
    let called = keys.1 in
    let key : keys.0 ≡ option_map rank b.1.now = search (rules, tests) in (
      (found.0.0, omega arith, subst (λ (o : Option (ℕ × Bor (Option Run))). IsSomeAnd o (λ x. x ≡ b)) (item found.0.0 b found.0.1) found.0.2),
      λ k d h.
          let other = MatchOption-at_some _ _ _ (item k d (omega arith)) (keys.2 k) in
          let its = other.1 in
          let its_key : other.0 ≡ option_map rank (get_or m.0.items k d).1.now = search (rules, tests) in
          rw (sym its_key, sym key) other.2,
    ))
    c.map.result answer
