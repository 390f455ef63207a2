use Rattle.std.proofs.Common.{ap, sym}
use Rattle.node_core.specs.Replicas.{view_of}
use Rattle.node_datagrams.specs.Configured.{settings_of}
use Rattle.udp_node.proofs.Clock.{heard_tells, tells_both}
use Rattle.udp_node.proofs.Heard.{heard_told, stopped_told}
use Rattle.udp_node.proofs.listening.await_event.Goals as goal

pub returns-in-Wait-clause-heard : goal.returns-in-Wait-clause-heard
returns-in-Wait-clause-heard g c =
    heard_told (settings_of c.args.config.now) g.C.Wire.format g.O.Wire.format (view_of c.args.node.now.replica) c.now-now.result c.in-Wait.ms
    (sym c.in-Wait.ensures.due) _ (ap (λ r. r.time) c.in-Wait.ensures.replica) _ _ _ c.listen.result c.now-now.ensures.tells c.now-now.ensures.outcome c.listen.ensures.received

pub returns-in-Wait-clause-stopped : goal.returns-in-Wait-clause-stopped
returns-in-Wait-clause-stopped g c =
    stopped_told (settings_of c.args.config.now) g.C.Wire.format g.O.Wire.format (view_of c.args.node.now.replica) c.now-now.result c.in-Wait.ms
    (sym c.in-Wait.ensures.due) _ _ _ c.listen.result c.now-now.ensures.tells c.now-now.ensures.outcome c.listen.ensures.cut_off

pub returns-in-Wait-clause-tells : goal.returns-in-Wait-clause-tells
returns-in-Wait-clause-tells g c =
    tells_both 1 0 _ _ _ c.now-now.ensures.tells
    (heard_tells (settings_of c.args.config.now) g.C.Wire.format c.in-Wait.ms _ _ c.listen.result c.listen.ensures.received c.listen.ensures.cut_off)
