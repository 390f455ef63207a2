use Rattle.xform_stack.proofs.Stepping.{steady-forget}
use Rattle.xform_stack.proofs.steady_world.SteadyWorldNetwork.forget_trace.Goals as goal

pub returns-clause-sound : goal.returns-clause-sound
returns-clause-sound g c = λ had. steady-forget g.H.Handlers c.self.inside.world c.forget_trace.new.self c.forget_trace.ensures (rw (← c.self.view_is) at had)
