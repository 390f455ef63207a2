use Rattle.std.proofs.Common.{◌≡◌, ◌∙◌, Some, None, ap, length, refl, rules, sym}
use Rattle.std.specs.Prelude.{is_none, slice_get}
use Rattle.std.proofs.lemmas.Option.{slice_get_past, slice_get_read}
use Rattle.net_semantics.specs.ShownFail.{kept_at}
use Rattle.net_semantics.proofs.stopped.Stopped.is_up.Goals as goal

pub returns-in-Some : goal.returns-in-Some
returns-in-Some g c =
    let items : c.deref.result.now ≡ c.args.self.now = c.deref.ensures.value ∙ c.self.view_is in
    let place : c.from.result ≡ c.args.n = c.from.ensures ∙ c.index.ensures in
    let there : slice_get c.deref.result.now c.from.result ≡ Some c.in-Some.kept.now = slice_get_read c.deref.result.now (length c.deref.result.now) c.from.result c.in-Some.kept.now refl c.in-Some.ensures.lookup.3.0 c.in-Some.ensures.lookup.1 in
    let up : c.is_none.result ≡ is_none c.in-Some.kept.now = search rules in
    up ∙ (ap (λ o. is_none (kept_at o)) (sym there) ∙ (ap (λ ks. is_none (kept_at (slice_get ks c.from.result))) items ∙ ap (λ k. is_none (kept_at (slice_get c.args.self.now k))) place))

pub returns-in-None : goal.returns-in-None
returns-in-None g c =
    let items : c.deref.result.now ≡ c.args.self.now = c.deref.ensures.value ∙ c.self.view_is in
    let place : c.from.result ≡ c.args.n = c.from.ensures ∙ c.index.ensures in
    let gone : slice_get c.deref.result.now c.from.result ≡ None = slice_get_past c.deref.result.now c.from.result c.in-None.ensures.lookup.3 in
    ap (λ o. is_none (kept_at o)) (sym gone) ∙ (ap (λ ks. is_none (kept_at (slice_get ks c.from.result))) items ∙ ap (λ k. is_none (kept_at (slice_get c.args.self.now k))) place)
