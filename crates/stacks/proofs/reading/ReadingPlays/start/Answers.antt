use Rattle.std.proofs.Common.{◌∙◌, ap}
use Rattle.net_semantics.specs.ShownFail.{FailView}
use Rattle.raft_xform.specs.Clusters.{Cluster}
use Rattle.runs_in_bytes.specs.Clusters.{ByteCluster}
use Rattle.stacks.proofs.ReadActs.{reads-plays}
use Rattle.stacks.proofs.reading.ReadingPlays.start.Goals as goal
use Rattle.stacks.specs.Kinds.{application}
use Rattle.stacks.specs.Plays.{texts_of}

pub returns-clause-runs : goal.returns-clause-runs
returns-clause-runs g c =
    let cluster = ap (λ (w : FailView (ByteCluster (Cluster _)) _ _ _ _ _). w.handlers.inner.inner) c.new-3.ensures.network ∙ (c.in_ok-network.ensures.handlers ∙ c.new.ensures) in
    let machine = ap (λ (h : Cluster _). g.M.Machine.meaning h.machine) cluster ∙ ap g.M.Machine.meaning c.machine.ensures in
    let reads = ap (λ (h : Cluster _). g.M.Queries.reads h.machine) cluster ∙ ap g.M.Queries.reads c.machine.ensures in
    let asked = ap g.M.Queries.reads (c.new-3.ensures.machine ∙ c.machine-2.ensures) in
    let nodes = ap (λ (h : Cluster _). h.nodes) cluster in
    let text = g.M.Text.AppText in
    let within = c.new-3.result.running.running.network.handlers.inner.inner in
    reads-plays
    (application g.M.Application.own (g.M.Machine.meaning g.M.Application.machine) (texts_of text.input_of text.input_text text.output_of text.output_text text.replies) g.M.Inputs.MakesInputs.inputs)
    (g.M.Queries.reads g.M.Application.machine) c.args.nodes (g.M.Machine.meaning within.machine) (g.M.Queries.reads within.machine) within.nodes machine reads nodes
    (g.M.Queries.reads c.new-3.result.running.machine) asked
