use Rattle.node_histories.proofs.Translating.{translations_are_by_node}
use Rattle.node_histories.proofs.laws.translations_are_by_node.Goals as goal

pub returns : goal.returns
returns g c = translations_are_by_node _ _ _
