use Rattle.std.proofs.Common.{◌≡◌, List, Option, ℕ, subst, arith, ◌∙◌}
use Rattle.flight_index.proofs.Counts.{goes_below, count-below_none, count-below_all, total-more, total-same, total-fits}
use Rattle.std.specs.List.{count_by}
use Rattle.flight_index.specs.Flights.{IsCounted}
use Rattle.flight_index.proofs.tree.Tree.count.Goals as goal
use Rattle.flight_index.proofs.tree.Tree.count.Goals.{then-up-k, else-up-k}

pub loop-k-init : goal.loop-k-init
loop-k-init c = count-below_none c.args.up.now c.args.self.now

pub overflow_add-total : goal.overflow_add-total
overflow_add-total c =
    let h = subst (λ (ps : List (Option ℕ)). IsCounted ps c.self.inside.len c.self.inside.counts) c.self.view_is c.self.invariant.1 in
    omega (arith, total-fits c.args.up.now c.loop-k.k c.loop-k.total h c.loop-k-test.true c.loop-k.invariant c.if-up-k.true)

pub loop-k-preserved : goal.loop-k-preserved
loop-k-preserved c =
    let h = subst (λ (ps : List (Option ℕ)). IsCounted ps c.self.inside.len c.self.inside.counts) c.self.view_is c.self.invariant.1 in
    elim c.if-up-k.branch [
      | then-up-k w ↦ w.total-is ∙ total-more c.args.up.now c.loop-k.k c.loop-k.total h c.loop-k-test.true c.loop-k.invariant w.if-up-k.true
      | else-up-k w ↦ w.total-is ∙ total-same c.args.self.now c.args.up.now c.loop-k.k c.loop-k.total c.loop-k.invariant w.if-up-k.false
    ]

pub returns : goal.returns
returns c =
    let h = subst (λ (ps : List (Option ℕ)). IsCounted ps c.self.inside.len c.self.inside.counts) c.self.view_is c.self.invariant.1 in
    let last : c.loop-k.k ≡ 9 = omega (arith, c.loop-k-test.false, c.loop-k.auto.k-end) in
    subst (λ (k : ℕ). c.loop-k.total ≡ count_by (goes_below k c.args.up.now) c.args.self.now) last c.loop-k.invariant
    ∙ count-below_all c.args.up.now c.args.self.now h.within
