use Rattle.handler_trait.specs.Facts.{rebootable_facts}
use Rattle.xform_stack.proofs.Stepping.{fail-forget}
use Rattle.xform_stack.proofs.fail_network.FailWorldNetwork.forget_trace.Goals as goal

pub returns-clause-sound : goal.returns-clause-sound
returns-clause-sound g c = fail-forget (rebootable_facts g.H.Handlers g.H.Rebootable) c.args.self.now c.forget_trace.new.self c.forget_trace.ensures
