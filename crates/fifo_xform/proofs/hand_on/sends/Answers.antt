use Rattle.std.proofs.Common.{ap, sym, arith, rules, length, ◌≡◌, ◌∙◌, ◌++◌}
use Rattle.std.proofs.lemmas.List.{append-nil, nil_from_length}
use Rattle.fifo_xform.specs.Fifo.{counted, numbered_by}
use Rattle.fifo_xform.specs.PeersLaws.{numbered-counting}
use Rattle.fifo_xform.specs.Peers.{numbered_packets}
use Rattle.fifo_xform.proofs.HandingOn.{handed-one}
use Rattle.fifo_xform.proofs.hand_on.sends.Goals as goal

pub loop-to-preserved : goal.loop-to-preserved
loop-to-preserved g c =
    let before = c.loop-to.invariant in
    let is = c.in-Some.ensures.steps.0 in
    let next = c.in_ok-number.ensures in
    let rest = c.next.new.self.rest.items in
    let one_more = numbered-counting c.loop-to.peers c.in-Some.to in
    record {
      sends = handed-one _ _ c.loop-to.peers c.count.new.self c.in-Some.to c.in_ok-number.number c.in-Some.inner rest c.loop-to.to-iterator.rest.items c.send.ensures.added next.number next.counted is ∙ before.sends;
      peers = ap (λ ps. counted ps rest) next.counted ∙ (sym (ap (counted c.loop-to.peers) is) ∙ before.peers);
      fits = omega (arith, before.fits, ap length is, ap numbered_packets next.counted, one_more);
      room = omega (arith, before.room, ap length is, c.send.ensures.send_places);
      outputs = c.send.ensures.outputs ∙ before.outputs;
    }

pub returns-clause-sends : goal.returns-clause-sends
returns-clause-sends g c =
    let zero : length c.loop-to.to-iterator.rest.items ≡ 0 = search rules in
    let given : c.into_iter-to-iterator.result.rest.items ≡ c.args.within.items = search rules in
    sym (append-nil c.loop-to.effects.sends)
    ∙ (ap (λ xs. c.loop-to.effects.sends ++ numbered_by c.loop-to.peers xs) (sym (nil_from_length c.loop-to.to-iterator.rest.items zero))
    ∙ (c.loop-to.invariant.sends ∙ ap (λ xs. c.args.effects.now.sends ++ numbered_by c.args.peers.now xs) given))
