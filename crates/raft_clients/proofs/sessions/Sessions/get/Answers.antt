use Rattle.std.proofs.Common.{ap, sym, ◌∙◌}
use Rattle.std.specs.FinMap as map
use Rattle.raft_clients.proofs.Views.{get-entries}
use Rattle.raft_clients.proofs.sessions.Sessions.get.Goals as goal

pub returns : goal.returns
returns g c = c.get.ensures.value ∙ sym (get-entries _ _) ∙ ap (λ m. map.get m c.args.client) c.self.view_is
