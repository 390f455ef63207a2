use Rattle.std.proofs.Common.{◌≡◌, ℕ, List, sym, ap, ◌∙◌}
use Rattle.lists.specs.Places.{take_rest}
use Rattle.node_acts.specs.Stores.{StoreView, common}
use Rattle.node_body.specs.Bodies.{kept_as}
use Rattle.node_state.proofs.Changes.{acts_new, change_new, fits_new, not_held}
use Rattle.node_state.proofs.store.Store.plan.Goals as goal

pub returns-clause-acts : goal.returns-clause-acts
returns-clause-acts g c =
    let s = g.C.Commands.stack in
    let f = g.C.Wire.format in
    let store = c.args.self.now in
    let kept = kept_as c.args.term c.args.voted c.args.log.now in
    let keep = c.common-keep.result in
    let terms : c.deref.result.now ≡ store.terms = c.deref.ensures.value ∙ ap (λ (v : StoreView). v.terms) c.self.view_is in
    let same : keep ≡ common store.terms c.args.log.now = c.common-keep.ensures.common ∙ ap (λ (ts : List ℕ). common ts c.args.log.now) terms in
    let new = not_held s f store kept keep same (sym c.if-has.ensures) in
    c.in_ok-saving.ensures.acts ∙ acts_new s f store kept keep same new

pub returns-clause-fits : goal.returns-clause-fits
returns-clause-fits g c =
    let s = g.C.Commands.stack in
    let f = g.C.Wire.format in
    let store = c.args.self.now in
    let kept = kept_as c.args.term c.args.voted c.args.log.now in
    let keep = c.common-keep.result in
    let terms : c.deref.result.now ≡ store.terms = c.deref.ensures.value ∙ ap (λ (v : StoreView). v.terms) c.self.view_is in
    let same : keep ≡ common store.terms c.args.log.now = c.common-keep.ensures.common ∙ ap (λ (ts : List ℕ). common ts c.args.log.now) terms in
    λ _. fits_new s f store kept keep same c.in_ok-saving.ensures.fits

pub returns-clause-change : goal.returns-clause-change
returns-clause-change g c =
    let s = g.C.Commands.stack in
    let f = g.C.Wire.format in
    let store = c.args.self.now in
    let kept = kept_as c.args.term c.args.voted c.args.log.now in
    let keep = c.common-keep.result in
    let terms : c.deref.result.now ≡ store.terms = c.deref.ensures.value ∙ ap (λ (v : StoreView). v.terms) c.self.view_is in
    let same : keep ≡ common store.terms c.args.log.now = c.common-keep.ensures.common ∙ ap (λ (ts : List ℕ). common ts c.args.log.now) terms in
    let new = not_held s f store kept keep same (sym c.if-has.ensures) in
    c.new-2.ensures ∙ change_new s f store kept keep same c.in_ok-saving.saving.end c.in_ok-added.added.items _ new c.in_ok-saving.ensures.end c.in_ok-added.ensures (take_rest keep c.args.log.now)
