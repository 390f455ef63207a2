use Rattle.std.proofs.Common.{arith, sym, ap, ◌∙◌}
use Rattle.std.specs.List.{count_by}
use Rattle.std.proofs.lemmas.List.{take_all}
use Rattle.flight_index.specs.Flights.{goes_up}
use Rattle.flight_index.proofs.Ranks.{nth_here, nth_none}
use Rattle.flight_index.proofs.tree.nth_of_page.Goals as goal

pub returns-then-left-eq0 : goal.returns-then-left-eq0
returns-then-left-eq0 c =
    let p = goes_up c.args.up.now in
    sym (nth_here p c.args.from c.args.packets.now c.loop-k.k c.args.i c.index-packets-k.result c.loop-k-test.true
    (ap p (sym c.index-packets-k.is) ∙ (sym c.goes_up.ensures ∙ c.if-goes_up.true))
    (omega (arith, c.loop-k.invariant, c.if-left-eq0.true)))

pub returns : goal.returns
returns c =
    let p = goes_up c.args.up.now in
    let all = ap (count_by p) (take_all c.loop-k.k c.args.packets.now c.loop-k-test.false) in
    sym (nth_none p c.args.from c.args.packets.now c.args.i (omega (arith, c.loop-k.invariant, all)))
