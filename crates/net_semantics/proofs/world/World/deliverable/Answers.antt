use Rattle.std.proofs.Common.{◌≡◌, ◌∙◌, ◌<◌, Some, ap, subst, sym, true}
use Rattle.std.specs.Prelude.{slice_get}
use Rattle.vst_base.specs.Nets.{keeps_order}
use Rattle.net_semantics.specs.Held.{held_copies}
use Rattle.net_semantics.specs.Order.{IsAhead, IsFirst}
use Rattle.net_semantics.proofs.Ordering.{deliver_not_refused, deliver_out_of_turn}
use Rattle.net_semantics.proofs.world.World.deliverable.Goals as goal

pub returns-in-Err-clause-refused : goal.returns-in-Err-clause-refused
returns-in-Err-clause-refused g c =
    let now = c.args.self.now in
    let packets : c.self.inside.packets ≡ now.packets = ap (λ v. v.packets) c.self.view_is in
    let copy : 0 < held_copies (slice_get now.packets c.args.k) = rw packets at c.in_ok-place.ensures.ok.1 in
    let behind = c.in-Err.ensures.behind in
    let ahead : IsAhead now.packets behind.1 c.args.k = subst (λ k. IsAhead now.packets behind.1 k) c.in_ok-place.ensures.ok.0 behind.2 in
    λ w shows. deliver_out_of_turn now.net (g.H.Handlers.meaning now.handlers) now w shows c.args.k c.requires.kind copy behind.1 ahead behind.0
    ∙ ap (λ why. Some why) (sym c.in-Err.ensures.why)

pub returns-in-Ok-clause-allowed : goal.returns-in-Ok-clause-allowed
returns-in-Ok-clause-allowed g c =
    let now = c.args.self.now in
    let packets : c.self.inside.packets ≡ now.packets = ap (λ v. v.packets) c.self.view_is in
    let copy : 0 < held_copies (slice_get now.packets c.args.k) = rw packets at c.in_ok-place.ensures.ok.1 in
    let first : keeps_order now.net ≡ true → IsFirst now.packets c.args.k = subst (λ k. keeps_order now.net ≡ true → IsFirst now.packets k) c.in_ok-place.ensures.ok.0 c.in-Ok.ensures.first in
    λ w shows. deliver_not_refused now.net (g.H.Handlers.meaning now.handlers) now w shows c.args.k c.requires.kind copy first
