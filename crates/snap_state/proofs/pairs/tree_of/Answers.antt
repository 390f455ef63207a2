use Rattle.std.proofs.Common.{rules, ◌≡◌, ◌++◌, ◌∷◌, true, false, sym, ap, ◌∙◌}
use Rattle.std.specs.FinMap.{is_sorted}
use Rattle.snap_state.proofs.Trees.{one_taken}
use Rattle.snap_state.specs.Tables.{goes_first}
use Rattle.snap_state.specs.TableLaws.{out_of_order, stands_first}
use Rattle.snap_state.proofs.pairs.tree_of.Goals as goal

pub returns-then-not-goes_first : goal.returns-then-not-goes_first
returns-then-not-goes_first g c =
    let k = c.in-Some.key in
    let v = c.in-Some.value in
    let taken = c.loop-key.tree.entries in
    let all = one_taken c.args.items.items c.loop-key.items.items c.pop.new.self.items c.pop.result (k, v) taken c.loop-key.invariant.0 c.pop.ensures.items c.in-Some.is in
    let later : goes_first g.K.Ord.cmp c.in-Some.key c.loop-key.tree.entries ≡ false = search rules in
    ap (is_sorted g.K.Ord.cmp) all ∙ out_of_order g.K.Ord.cmp c.pop.new.self.items k v taken later

pub loop-key-preserved : goal.loop-key-preserved
loop-key-preserved g c =
    let k = c.in-Some.key in
    let v = c.in-Some.value in
    let taken = c.loop-key.tree.entries in
    let all = one_taken c.args.items.items c.loop-key.items.items c.pop.new.self.items c.pop.result (k, v) taken c.loop-key.invariant.0 c.pop.ensures.items c.in-Some.is in
    let earlier : goes_first g.K.Ord.cmp c.in-Some.key c.loop-key.tree.entries ≡ true = search rules in
    let first = stands_first g.K.Ord.cmp g.met.K.Ord.total k v taken earlier c.loop-key.invariant.1 in
    let is : c.insert.new.self.entries ≡ (k, v) ∷ taken = c.in_ok-insert.ensures.entries ∙ first.0 in
    (all ∙ ap (λ es. c.pop.new.self.items ++ es) (sym is), ap (is_sorted g.K.Ord.cmp) is ∙ first.1)
