use Rattle.std.proofs.Common.{◌∷◌, ◌++◌, [], ap, arith, subst, sym, ◌∙◌}
use Rattle.lanes.specs.Lanes.{Follows, lane}
use Rattle.lanes.proofs.Pushes.{entries-more}
use Rattle.lanes.proofs.lanes.Lanes.push.Goals as goal

pub returns-clause-ok : goal.returns-clause-ok
returns-clause-ok c = λ es f.
    let number = c.lane-way.ensures ∙ ap (λ s. lane s c.index-2.result) c.index.ensures ∙ ap (lane c.args.source) c.index-2.ensures in
    entries-more c.self.inside.lasts.entries c.insert.new.self.entries c.self.inside.previous.items c.push.new.self.items c.lane-way.result c.len-k.result c.in_ok-before.before es
    c.args.source c.args.destination (omega (arith, c.index.type_inv, c.index.ensures)) (omega (arith, c.index-2.type_inv, c.index-2.ensures))
    number (omega (arith, c.len-k.ensures, c.self.inside.previous.ok.0)) (c.in_ok-push.ensures.items ∙ ap (λ xs. xs ++ c.in_ok-before.before ∷ []) c.reserve.ensures.items) c.in_ok-before.ensures.old c.in_ok-before.ensures.updates.0
    (subst (λ l. Follows l es) (sym c.self.view_is) f)
