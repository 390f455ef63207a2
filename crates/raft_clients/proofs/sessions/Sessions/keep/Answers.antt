use Rattle.std.proofs.Common.{ap, ◌∙◌}
use Rattle.std.specs.FinMap as map
use Rattle.raft_clients.proofs.Views.{written}
use Rattle.raft_clients.proofs.sessions.Sessions.keep.Goals as goal

pub returns-clause-ok : goal.returns-clause-ok
returns-clause-ok g c = written _ _ _ _ c.in_ok-insert.ensures.updates.0 ∙ ap (λ m. map.insert m c.args.client c.args.session) c.self.view_is
