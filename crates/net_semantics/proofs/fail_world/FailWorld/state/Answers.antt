use Rattle.net_semantics.proofs.FailShowing.{shows_up, all_up}
use Rattle.net_semantics.specs.ShownFail.{ShowsFail}
use Rattle.std.proofs.Common.{sym, subst}
use Rattle.net_semantics.proofs.fail_world.FailWorld.state.Goals as goal

pub returns : goal.returns
returns g c = λ w shows. c.state.ensures (all_up w) (shows_up _ c.self.inside.world c.self.inside.stopped w (subst (λ v. ShowsFail (g.H.Handlers.meaning v.handlers).nodes v w) (sym c.self.view_is) shows))
