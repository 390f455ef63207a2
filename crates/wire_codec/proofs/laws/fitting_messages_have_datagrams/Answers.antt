use Rattle.wire_codec.specs.DatagramLaws.{fitting}
use Rattle.wire_codec.proofs.laws.fitting_messages_have_datagrams.Goals as goal

pub returns : goal.returns
returns g c = fitting g.M.Wire.format
