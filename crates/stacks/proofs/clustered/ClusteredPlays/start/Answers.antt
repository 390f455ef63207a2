use Rattle.std.proofs.Common.{◌∙◌, ap}
use Rattle.net_semantics.specs.ShownFail.{FailView}
use Rattle.raft_xform.specs.Clusters.{Cluster}
use Rattle.runs_in_bytes.specs.Clusters.{ByteCluster}
use Rattle.stacks.proofs.Playing.{cluster-plays}
use Rattle.stacks.proofs.clustered.ClusteredPlays.start.Goals as goal
use Rattle.stacks.specs.Kinds.{application}
use Rattle.stacks.specs.Plays.{texts_of}

pub returns-clause-runs : goal.returns-clause-runs
returns-clause-runs g c =
    let cluster = ap (λ (w : FailView (ByteCluster (Cluster _)) _ _ _ _ _). w.handlers.inner.inner) c.new-3.ensures.network ∙ (c.in_ok-network.ensures.handlers ∙ c.new.ensures) in
    let machine = ap (λ (h : Cluster _). g.M.Machine.meaning h.machine) cluster ∙ ap g.M.Machine.meaning c.machine.ensures in
    let nodes = ap (λ (h : Cluster _). h.nodes) cluster in
    let text = g.M.Text.AppText in
    let within = c.new-3.result.network.handlers.inner.inner in
    cluster-plays
    (application g.M.Application.own (g.M.Machine.meaning g.M.Application.machine) (texts_of text.input_of text.input_text text.output_of text.output_text text.replies) g.M.Inputs.MakesInputs.inputs)
    c.args.nodes (g.M.Machine.meaning within.machine) within.nodes machine nodes
