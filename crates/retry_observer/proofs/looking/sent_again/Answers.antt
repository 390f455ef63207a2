use Rattle.std.proofs.Common.{◌≡◌, ◌<◌, ap, arith, sym, ◌∙◌}
use Rattle.std.specs.Prelude.{refl, slice_get}
use Rattle.std.specs.Result.{result_ok}
use Rattle.std.proofs.lemmas.Option.{none-some, same_Some}
use Rattle.std.proofs.lemmas.Bool.{false≢true}
use Rattle.std.proofs.lemmas.Result.{Ok-from_Ok_iff}
use Rattle.net_semantics.specs.Runs.{run}
use Rattle.retry_xform.specs.Retransmission.{retrying}
use Rattle.retry_xform.specs.Image.{place_of}
use Rattle.retry_observer.specs.Places.{named, numbers_in}
use Rattle.retry_observer.proofs.Carrying.{again-is}
use Rattle.retry_observer.proofs.Worlds.{ticks-at_node}
use Rattle.retry_observer.proofs.looking.sent_again.Goals as goal

pub returns-in_err-ok : goal.returns-in_err-ok
returns-in_err-ok g c = λ ss taken follows net same allowed.
    let m = g.H.Handlers.meaning (g.W.Network.within c.args.network.now) in
    let here = ticks-at_node m (g.W.Network.system c.args.network.now).recovery net ss c.args.n allowed in
    let nodes : c.nodes-nodes.result ≡ m.nodes = c.nodes-nodes.ensures ∙ ap (λ h. (g.H.Handlers.meaning h).nodes) c.handlers.ensures in
    let fits : c.args.n < 256 = omega (arith, here, nodes, c.nodes-nodes.type_inv) in
    absurd (none-some c.args.n (sym c.in_err-ok.was ∙ (c.ok.ensures.value ∙ ap result_ok (Ok-from_Ok_iff c.try_from.result (c.args.n < 256) c.args.n c.try_from.ensures fits))))

pub returns-in_err-node : goal.returns-in_err-node
returns-in_err-node g c = λ ss taken follows net same allowed.
    let m = g.H.Handlers.meaning (g.W.Network.within c.args.network.now) in
    let here = ticks-at_node m (g.W.Network.system c.args.network.now).recovery net ss c.args.n allowed in
    let nodes : c.nodes-nodes.result ≡ m.nodes = c.nodes-nodes.ensures ∙ ap (λ h. (g.H.Handlers.meaning h).nodes) c.handlers.ensures in
    let fits : c.args.n < 256 = omega (arith, here, nodes, c.nodes-nodes.type_inv) in
    let n = same_Some c.in_ok-ok.field-0 c.args.n (c.in_ok-ok.ensures.value ∙ ap result_ok (Ok-from_Ok_iff c.try_from.result (c.args.n < 256) c.args.n c.try_from.ensures fits)) in
    let none = c.in_err-node.ensures.exists.1 (omega (arith, here, nodes, n)) in
    absurd (false≢true none)

pub returns-in-Some : goal.returns-in-Some
returns-in-Some g c = λ ss taken follows net same allowed.
    let now = c.args.network.now in
    let r = (g.W.Network.system now).recovery in
    let m = g.H.Handlers.meaning (g.W.Network.within now) in
    let means = g.met.W.Network.same_meaning now in
    let here = ticks-at_node m r net ss c.args.n allowed in
    let nodes : c.nodes-nodes.result ≡ m.nodes = c.nodes-nodes.ensures ∙ ap (λ h. (g.H.Handlers.meaning h).nodes) c.handlers.ensures in
    let fits : c.args.n < 256 = omega (arith, here, nodes, c.nodes-nodes.type_inv) in
    let node : c.in_ok-node.node ≡ c.args.n = c.in_ok-node.ensures.number ∙ same_Some c.in_ok-ok.field-0 c.args.n (c.in_ok-ok.ensures.value ∙ ap result_ok (Ok-from_Ok_iff c.try_from.result (c.args.n < 256) c.args.n c.try_from.ensures fits)) in
    let w = run (retrying m) r ss in
    let state_is = c.state.ensures.state ss taken.followed ∙ (λ i. (run (means i) r ss).state (node i)) in
    let first = sym (c.in-Some.ensures ∙ ap (λ ks. slice_get ks 0) (c.kept.ensures ∙ ap (λ s. s.kept) state_is)) in
    c.place_with.ensures _ follows ∙ (ap (λ x. place_of (x, c.in-Some.number) (named (numbers_in w.packets))) node ∙ again-is w.packets c.args.n c.in-Some.number (slice_get (w.state c.args.n).kept 0) _ first refl)
