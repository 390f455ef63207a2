use Rattle.std.proofs.Common.{◌≡◌, ◌<◌, ◌≤◌, ◌++◌, arith, ap, sym, ◌∙◌}
use Rattle.std.specs.List.{count_by}
use Rattle.flight_index.specs.Flights.{goes_up}
use Rattle.flight_index.specs.Trees.{packets_of}
use Rattle.flight_index.proofs.Ranks.{nth_left, nth_right}
use Rattle.flight_index.proofs.tree.Tree.+nth.Goals as goal

pub returns-then-i-before : goal.returns-then-i-before
returns-then-i-before t c =
    let p = goes_up c.args.up.now in
    let e : c.args.self.now ≡ c.in-Fork.left.value ++ c.in-Fork.right.value = sym c.self.view_is ∙ ap packets_of c.in-Fork.is in
    let n = c.count-before.ensures ∙ ap (count_by p) c.deref-in-Fork.ensures in
    let inside : c.args.i < count_by p c.in-Fork.left.value = omega (arith, n, c.if-i-before.true) in
    cc (nth_left p c.args.from c.in-Fork.left.value c.in-Fork.right.value c.args.i inside)

pub returns-else-i-before : goal.returns-else-i-before
returns-else-i-before t c =
    let p = goes_up c.args.up.now in
    let e : c.args.self.now ≡ c.in-Fork.left.value ++ c.in-Fork.right.value = sym c.self.view_is ∙ ap packets_of c.in-Fork.is in
    let n = c.count-before.ensures ∙ ap (count_by p) c.deref-in-Fork.ensures in
    let after : count_by p c.in-Fork.left.value ≤ c.args.i = omega (arith, n, c.if-i-before.false) in
    cc (nth_right p c.args.from c.in-Fork.left.value c.in-Fork.right.value c.args.i after)
