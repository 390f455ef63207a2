use Rattle.std.proofs.Common.{◌≡◌, [], inl, refl, ap, ◌∙◌}
use Rattle.node_acts.specs.Stores.{StoreView}
use Rattle.node_body.specs.Bodies.{kept_as}
use Rattle.node_state.proofs.Changes.{change_leads, changed_parts}
use Rattle.node_state.proofs.Stopping.{on_err, stopped_before}
use Rattle.node_state.proofs.store.Store.write.Goals as goal
use Rattle.node_state.specs.Changes.{change_to, changed_by}

pub returns-in_err-acts-clause-stopped : goal.returns-in_err-acts-clause-stopped
returns-in_err-acts-clause-stopped g c = on_err _ _ (inl (stopped_before _ _ [] refl))

pub returns-in_err-reserve-clause-stopped : goal.returns-in_err-reserve-clause-stopped
returns-in_err-reserve-clause-stopped g c = on_err _ _ (inl (stopped_before _ _ [] refl))

pub returns-clause-knows : goal.returns-clause-knows
returns-clause-knows g c =
    let s = g.C.Commands.stack in
    let f = g.C.Wire.format in
    let store = c.args.self.now in
    let kept = kept_as c.args.term c.args.voted c.args.log.now in
    let change : c.in_ok-acts.field-0.change ≡ change_to s f store kept = c.in_ok-acts.ensures.change in
    let parts = c.into_parts-term.ensures in
    changed_parts store c.in_ok-acts.field-0.change c.self.inside.who c.into_parts-term.result.0 c.into_parts-term.result.1 c.into_parts-term.result.2 c.into_parts-term.result.3 c.append.new.self.items
    c.truncate.new.self.items c.into_parts-term.result.4.items c.reserve.new.self.items (ap (λ (v : StoreView). v.who) c.self.view_is) parts.end parts.term parts.voted parts.keep parts.added
    (c.reserve.ensures.items ∙ ap (λ (v : StoreView). v.terms) c.self.view_is) c.truncate.ensures.items c.in_ok-append.ensures.items
    ∙ (ap (λ change. changed_by store change) change ∙ change_leads s f store kept)
