use Rattle.std.proofs.Common.{ap, arith, length}
use Rattle.wire_codec.specs.HeadingLaws.{heading_short}
use Rattle.wire_codec.proofs.heading.Heading.read.Goals as goal

pub returns-then-rest-lt-HEADING_LEN : goal.returns-then-rest-lt-HEADING_LEN
returns-then-rest-lt-HEADING_LEN c = heading_short c.args.input.now (omega (arith, ap length c.rest.ensures))
