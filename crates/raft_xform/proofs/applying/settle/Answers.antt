use Rattle.std.proofs.Common.{OnOk, subst}
use Rattle.handler_trait.specs.Handling.{Does}
use Rattle.raft_xform.specs.Nodes.{RaftEffect}
use Rattle.raft_xform.proofs.Doing.{settles}
use Rattle.raft_xform.proofs.applying.settle.Goals as goal

pub returns-clause-does : goal.returns-clause-does
returns-clause-does g c =
    rw (← c.state.view_is) (subst (λ (e : RaftEffect _ _ _). OnOk c.catch_up.result (Does e c.catch_up.new.state c.args.effects.now c.catch_up.new.effects))
    (settles (g.M.Machine.meaning c.args.machine.now) c.args.me _ c.advance-state-inside.result
    (rw (c.entries.ensures.entries, c.deref.ensures.value, c.term-term.ensures.value) at c.advance-state-inside.ensures.commit)) c.catch_up.ensures.does)
