use Rattle.commands.proofs.NodeAnswering.{node_answers}
use Rattle.commands.proofs.node.run_node.Goals as goal

pub returns : goal.returns
returns g c = record { answers = node_answers c.args.words.now _ c.run_and_tell.result c.run_and_tell.ensures }
