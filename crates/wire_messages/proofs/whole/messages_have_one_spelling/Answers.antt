use Rattle.wire_messages.specs.WireLaws.{one_spelling_of}
use Rattle.wire_messages.proofs.whole.messages_have_one_spelling.Goals as goal

pub returns-clause-alone : goal.returns-clause-alone
returns-clause-alone g c = one_spelling_of g.M.Wire.format g.met.M.Wire.is_format
