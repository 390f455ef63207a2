use Rattle.wire_codec.specs.DatagramLaws.{typed_back, typed_one}
use Rattle.wire_codec.proofs.laws.datagrams_have_one_spelling.Goals as goal

pub returns-clause-reads_back : goal.returns-clause-reads_back
returns-clause-reads_back g c = typed_back g.M.Wire.format g.met.M.Wire.is_format

pub returns-clause-one_spelling : goal.returns-clause-one_spelling
returns-clause-one_spelling g c = typed_one g.M.Wire.format g.met.M.Wire.is_format
