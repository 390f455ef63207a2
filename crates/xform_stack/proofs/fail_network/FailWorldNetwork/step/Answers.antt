use Rattle.handler_trait.specs.Facts.{rebootable_facts}
use Rattle.xform_stack.proofs.Stepping.{fail-next, fail-sound}
use Rattle.xform_stack.proofs.fail_network.FailWorldNetwork.step.Goals as goal

pub returns-clause-next : goal.returns-clause-next
returns-clause-next g c =
    fail-next (rebootable_facts g.H.Handlers g.H.Rebootable) c.args.self.now c.step.new.self c.args.step.now c.step.result c.step.ensures.refused c.step.ensures.next c.step.ensures.taken c.step.ensures.handlers

pub returns-clause-sound : goal.returns-clause-sound
returns-clause-sound g c =
    fail-sound (rebootable_facts g.H.Handlers g.H.Rebootable) c.args.self.now c.step.new.self c.args.step.now c.step.result c.step.ensures.next c.step.ensures.sound c.requires.sound
