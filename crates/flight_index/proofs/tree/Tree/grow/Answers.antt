use Rattle.std.proofs.Common.{◌≡◌, ◌<◌, ℕ, List, [], ◌∷◌, Option, Some, length, arith, ap, sym, subst, ◌∙◌}
use Rattle.flight_index.specs.Flights.{IsCounted}
use Rattle.flight_index.proofs.Counts.{counted-more}
use Rattle.flight_index.proofs.Trees.{some-packets}
use Rattle.flight_index.proofs.tree.Tree.grow.Goals as goal

pub invariant_of-fork : goal.invariant_of-fork
invariant_of-fork c =
    let b = c.behind-left in
    let view = b.view_is ∙ c.deref.ensures in
    let h = subst (λ (ps : List (Option ℕ)). IsCounted ps b.inside.len b.inside.counts) view b.invariant.1 in
    let some = subst (λ (ps : List (Option ℕ)). 0 < length ps) view (some-packets b.inside.branch b.invariant.0) in
    let right : c.in_ok-right.right.value ≡ Some c.args.to ∷ [] = c.in_ok-right.ensures.ok ∙ c.in_ok-page-2.ensures in
    let n : c.len.result ≡ b.inside.len = c.len.ensures ∙ (ap length c.deref-2.ensures ∙ sym h.number) in
    ((some, rw right (omega arith)), rw (right, n, c.index.ensures) (counted-more h c.requires.node))
