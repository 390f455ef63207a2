use Rattle.std.proofs.Common.{◌≡◌, ◌<◌, ◌≤◌, ◌-◌, ℕ, List, Option, None, ◌++◌, length, get_or, set, arith, ap, sym, subst, ◌∙◌}
use Rattle.std.proofs.lemmas.List.{length-set}
use Rattle.flight_index.specs.Flights.{IsCounted}
use Rattle.flight_index.specs.Trees.{packets_of, HasPackets}
use Rattle.flight_index.proofs.Trees.{changed-left, was-left, changed-right, was-right}
use Rattle.flight_index.proofs.tree.Tree.+gone.Goals as goal

pub returns-then-k-len-clause-gone : goal.returns-then-k-len-clause-gone
returns-then-k-len-clause-gone t c =
    let e : c.args.self.now ≡ c.in-Fork.left.value ++ c.in-Fork.right.value = sym c.self.view_is ∙ ap packets_of c.in-Fork.is in
    let n = c.len.ensures ∙ ap length c.deref.ensures in
    let inside : c.args.k < length c.in-Fork.left.value = omega (arith, n, c.if-k-len.true) in
    changed-left c.in-Fork.left.value c.in-Fork.right.value c.args.k None e inside (c.gone.ensures.gone ∙ ap (λ xs. set xs c.args.k None) c.deref_mut.ensures.value)

pub invariant_of-self-then-k-len : goal.invariant_of-self-then-k-len
invariant_of-self-then-k-len t c =
    let e : c.args.self.now ≡ c.in-Fork.left.value ++ c.in-Fork.right.value = sym c.self.view_is ∙ ap packets_of c.in-Fork.is in
    let n = c.len.ensures ∙ ap length c.deref.ensures in
    let inside : c.args.k < length c.in-Fork.left.value = omega (arith, n, c.if-k-len.true) in
    let new = c.gone.ensures.gone ∙ ap (λ xs. set xs c.args.k None) c.deref_mut.ensures.value in
    let whole = changed-left c.in-Fork.left.value c.in-Fork.right.value c.args.k None e inside new in
    let h = subst (λ (ps : List (Option ℕ)). IsCounted ps c.self.inside.len c.self.inside.counts) c.self.view_is c.self.invariant.1 in
    let some = subst HasPackets c.in-Fork.is c.self.invariant.0 in
    let is = was-left c.in-Fork.left.value c.in-Fork.right.value c.args.k e inside ∙ sym (c.gone.ensures.destination ∙ ap (λ xs. get_or xs c.args.k None) c.deref_mut.ensures.value) in (
      (omega (arith, ap length new ∙ length-set c.in-Fork.left.value c.args.k None, some.0), some.1),
      subst (λ (ps : List (Option ℕ)). IsCounted ps c.self.inside.len c.uncount-then-k-len.new.counts) (sym whole)
          (c.uncount-then-k-len.ensures.counts c.args.self.now c.self.inside.len c.args.k h c.requires is),
    )

pub returns-else-k-len-clause-gone : goal.returns-else-k-len-clause-gone
returns-else-k-len-clause-gone t c =
    let e : c.args.self.now ≡ c.in-Fork.left.value ++ c.in-Fork.right.value = sym c.self.view_is ∙ ap packets_of c.in-Fork.is in
    let n = c.len.ensures ∙ ap length c.deref.ensures in
    let m = c.len-else-k-len.ensures ∙ ap length c.deref-else-k-len.ensures in
    let after : c.len-else-k-len.result ≤ c.args.k = omega (arith, n, m, c.if-k-len.false) in
    changed-right c.in-Fork.left.value c.in-Fork.right.value c.args.k c.len-else-k-len.result None e (sym m) after
    (c.gone-else-k-len.ensures.gone ∙ ap (λ xs. set xs (c.args.k - c.len-else-k-len.result) None) c.deref_mut-else-k-len.ensures.value)

pub invariant_of-self-else-k-len : goal.invariant_of-self-else-k-len
invariant_of-self-else-k-len t c =
    let e : c.args.self.now ≡ c.in-Fork.left.value ++ c.in-Fork.right.value = sym c.self.view_is ∙ ap packets_of c.in-Fork.is in
    let n = c.len.ensures ∙ ap length c.deref.ensures in
    let m = c.len-else-k-len.ensures ∙ ap length c.deref-else-k-len.ensures in
    let after : c.len-else-k-len.result ≤ c.args.k = omega (arith, n, m, c.if-k-len.false) in
    let j = c.args.k - c.len-else-k-len.result in
    let new = c.gone-else-k-len.ensures.gone ∙ ap (λ xs. set xs j None) c.deref_mut-else-k-len.ensures.value in
    let whole = changed-right c.in-Fork.left.value c.in-Fork.right.value c.args.k c.len-else-k-len.result None e (sym m) after new in
    let h = subst (λ (ps : List (Option ℕ)). IsCounted ps c.self.inside.len c.self.inside.counts) c.self.view_is c.self.invariant.1 in
    let some = subst HasPackets c.in-Fork.is c.self.invariant.0 in
    let is = was-right c.in-Fork.left.value c.in-Fork.right.value c.args.k c.len-else-k-len.result e (sym m) after
    ∙ sym (c.gone-else-k-len.ensures.destination ∙ ap (λ xs. get_or xs j None) c.deref_mut-else-k-len.ensures.value) in (
      (some.0, omega (arith, ap length new ∙ length-set c.in-Fork.right.value j None, some.1)),
      subst (λ (ps : List (Option ℕ)). IsCounted ps c.self.inside.len c.uncount-else-k-len.new.counts) (sym whole)
          (c.uncount-else-k-len.ensures.counts c.args.self.now c.self.inside.len c.args.k h c.requires is),
    )
