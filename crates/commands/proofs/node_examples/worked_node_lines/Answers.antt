-- These print numbers and names, whose digits have to be computed.
use Rattle.schedule_text.specs.Headers.{header_of}
use Rattle.std.proofs.Common.{refl}
use Rattle.std.specs.Fmt.{digits}
use Rattle.hex.specs.Hex.{encode_with}
use Rattle.commands.proofs.node_examples.worked_node_lines.Goals as goal

pub returns-clause-turns : goal.returns-clause-turns
unfolding digits header_of
returns-clause-turns c = refl

pub returns-clause-node : goal.returns-clause-node
unfolding digits header_of
returns-clause-node c = refl

pub returns-clause-name : goal.returns-clause-name
unfolding encode_with
returns-clause-name c = refl
