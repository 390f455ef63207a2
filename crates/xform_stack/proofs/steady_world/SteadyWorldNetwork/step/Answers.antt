use Rattle.xform_stack.proofs.Stepping.{steady-next, steady-sound}
use Rattle.xform_stack.proofs.steady_world.SteadyWorldNetwork.step.Goals as goal

pub returns-clause-next : goal.returns-clause-next
returns-clause-next g c =
    rw (← c.self.view_is) (steady-next g.H.Handlers c.self.inside.world c.step.new.self c.args.step.now c.step.result c.step.ensures.refused c.step.ensures.next c.step.ensures.taken c.step.ensures.handlers)

pub returns-clause-sound : goal.returns-clause-sound
returns-clause-sound g c =
    steady-sound g.H.Handlers c.self.inside.world c.step.new.self c.args.step.now c.step.result c.step.ensures.next c.step.ensures.sound (rw (← c.self.view_is) at c.requires.sound)
