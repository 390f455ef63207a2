use Rattle.std.proofs.Common.{◌≡◌, refl, rules, append-nil, ap, sym, ◌∙◌, ◌++◌, ◌∷◌, [], ◌+◌, append_assoc}
use Rattle.retry_xform.specs.Keeping.{numbered_from}
use Rattle.vst_base.specs.declared.retry.RetryMsg.TheVariants as msg
use Rattle.retry_xform.specs.Retransmission.{all_as_data, as_data}
use Rattle.retry_xform.proofs.Numbers.{below-push, none-there}
use Rattle.retry_xform.proofs.hand_on.sends.Goals as goal

pub loop-to-preserved : goal.loop-to-preserved
loop-to-preserved g c = record {
  sends =
      let here = as_data (record { number = c.loop-to.next; destination = c.in-Some.to; content = c.in-Some.content }) in
      let rest = all_as_data (numbered_from (c.loop-to.next + 1) c.next.new.self.rest.items) in
      let content : c.in_ok-inner.inner ≡ c.in-Some.content = c.in_ok-inner.ensures in
      ap (λ s. s ++ rest) (c.send.ensures.added ∙ ap (λ x. c.loop-to.effects.sends ++ (c.in-Some.to, msg.Data c.loop-to.next x) ∷ []) content)
      ∙ (append_assoc c.loop-to.effects.sends (here ∷ []) rest
      ∙ (ap (λ l. c.loop-to.effects.sends ++ all_as_data (numbered_from c.loop-to.next l)) (sym c.in-Some.ensures.steps.0) ∙ c.loop-to.invariant.sends));
  kept = search (rules, append_assoc);
  next = search rules;
  room = search rules;
  room_left = search rules;
  unused = rw (c.in_ok-add.ensures.added) (below-push c.loop-to.next c.loop-to.kept _ c.loop-to.invariant.unused refl);
  outputs = search rules;
}

pub returns-clause-sends : goal.returns-clause-sends
returns-clause-sends g c =
    let none : c.loop-to.to-iterator.rest.items ≡ [] = none-there c.loop-to.to-iterator.rest.items (sym c.loop-to.to-iterator.rest.ok.0 ∙ c.in-None.ensures.steps.0) in
    let start : c.into_iter-to-iterator.result.rest.items ≡ c.args.within.items = search rules in
    sym (append-nil c.loop-to.effects.sends)
    ∙ (ap (λ l. c.loop-to.effects.sends ++ all_as_data (numbered_from c.loop-to.next l)) (sym none)
    ∙ (c.loop-to.invariant.sends ∙ ap (λ l. c.args.effects.now.sends ++ all_as_data (numbered_from c.args.next.now l)) start))
