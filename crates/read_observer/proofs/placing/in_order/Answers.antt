use Rattle.std.proofs.Common.{rules, ◌≡◌, map, subst}
use Rattle.std.specs.Prelude.{IfOk}
use Rattle.std.proofs.lemmas.Iterator.{YieldsList-from_map, items_from_collect}
use Rattle.std.proofs.lemmas.Iterator.Adapters.{YieldsList-from_vec}
use Rattle.std.proofs.lemmas.List.Sorted.{IsNonDecreasingBy-from_sort_by_key, answers_always}
use borrow.Author.Tests.{tests}
use Rattle.read_observer.proofs.Sorting.{sort_inserts}
use Rattle.read_observer.proofs.placing.in_order.Goals as goal

pub returns : goal.returns
returns g c =
    let sorted = c.sort_by_key.new.self.items in
    let up = IsNonDecreasingBy-from_sort_by_key (λ p. p.0) sorted c.in_ok-sort_by_key.ensures.sorted (λ a r q k. search rules) in
    let stable = c.in_ok-sort_by_key.ensures.stable (λ p. p.0) (answers_always _ _ _ (λ f a r q k. search rules)) in
    let is = sort_inserts c.args.placed.items sorted up stable in
    subst (λ xs. IfOk c.collect.result (λ v. v.items ≡ map (λ p. p.1) xs)) is
    (items_from_collect c.collect.result c.collect.ensures.ran
    (YieldsList-from_map _ (λ p. p.1) (YieldsList-from_vec {s = c.map.result.iter} sorted (cc) (cc)) c.map.ensures.closure (λ x r q k. search (rules, tests))))
