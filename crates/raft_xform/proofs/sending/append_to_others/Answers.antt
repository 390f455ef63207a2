use Rattle.std.proofs.Common.{rules, [], ◌∷◌, ◌++◌, ap, ◌∙◌}
use Rattle.raft_xform.specs.Sending.{append}
use Rattle.raft_xform.proofs.Doing.{sent_to}
use Rattle.raft_xform.proofs.sending.append_to_others.Goals as goal
use Rattle.raft_xform.proofs.sending.append_to_others.Goals.{in-Some+in_ok-append, in_default}

pub loop-n-preserved : goal.loop-n-preserved
loop-n-preserved g c = elim c.match-other.branch [
  | in-Some+in_ok-append w ↦ record {
    sends = sent_to c.loop-n.n c.args.seat.me w.in-Some.to (append c.args.state.now) c.args.effects.now.sends c.loop-n.effects.sends c.match-other.effects.sends
        (search rules) c.loop-n.invariant.sends (rw (w.effects-is) (w.send.ensures.added ∙ ap (λ p. c.loop-n.effects.sends ++ (w.in-Some.to, p) ∷ []) w.in_ok-append.ensures));
    outputs = search rules;
    up_to_it = search rules;
    past_it = search rules;
  }
  | in_default w ↦ record {
    sends = search rules;
    outputs = search rules;
    up_to_it = search rules;
    past_it = search rules;
  }
]
