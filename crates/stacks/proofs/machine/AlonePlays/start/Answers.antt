use Rattle.std.proofs.Common.{◌∙◌, ap}
use Rattle.net_semantics.specs.Shown.{WorldView}
use Rattle.trace_maps.specs.SingleNode.{single_node}
use Rattle.stacks.proofs.Playing.{alone-plays}
use Rattle.stacks.proofs.machine.AlonePlays.start.Goals as goal
use Rattle.stacks.specs.Kinds.{application}
use Rattle.stacks.specs.Plays.{texts_of}

pub returns-clause-runs : goal.returns-clause-runs
returns-clause-runs g c =
    let made = c.in_ok-network.ensures in
    let net = ap (λ (w : WorldView _ _ _ _ _). w.net) c.new-3.ensures.network ∙ made.net in
    let machine = ap (λ (w : WorldView _ _ _ _ _). w.handlers) c.new-3.ensures.network ∙ (made.handlers ∙ (c.new.ensures ∙ c.machine.ensures)) in
    let text = g.M.Text.AppText in
    alone-plays
    (application g.M.Application.own (g.M.Machine.meaning g.M.Application.machine) (texts_of text.input_of text.input_text text.output_of text.output_text text.replies) g.M.Inputs.MakesInputs.inputs)
    c.new-3.result.network.net (single_node (g.M.Machine.meaning c.new-3.result.network.handlers)) net (ap (λ h. single_node (g.M.Machine.meaning h)) machine)
