use Rattle.std.proofs.Common.{length, ap, sym, ◌∙◌, arith}
use Rattle.toml.specs.View.{table_view}
use Rattle.node_config.proofs.Making.{made}
use Rattle.node_config.proofs.table.config_of.Goals as goal

pub returns : goal.returns
returns c =
    made c.args.me (table_view c.args.table.now) c.in_ok-stack.stack c.in_ok-peers.peers c.in_ok-clients.clients c.in_ok-heartbeat_ms.heartbeat_ms c.in_ok-election_ms.election_ms c.in_ok-cluster.cluster
    (sym c.stack_in.ensures ∙ c.in_ok-stack.ensures.ok)
    (sym c.in_ok-peers_in.ensures ∙ c.in_ok-peers.ensures.ok)
    (sym c.in_ok-clients_in.ensures ∙ c.in_ok-clients.ensures.ok)
    (sym c.period_in.ensures ∙ c.in_ok-heartbeat_ms.ensures.ok)
    (sym c.period_in-2.ensures ∙ c.in_ok-election_ms.ensures.ok)
    (sym c.cluster_in.ensures ∙ c.in_ok-cluster.ensures.ok)
    (sym c.are_known.ensures ∙ c.if-not-are_known.false)
    (omega (arith, c.if-from-as_slice.false, c.from.ensures, ap length c.as_slice.ensures))
