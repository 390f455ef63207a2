use Rattle.node_device_mem.proofs.Read.{follow_more, read_by_word}
use Rattle.node_device_mem.proofs.laws.areas_follow_the_acts.Goals as goal

pub returns-clause-stay : goal.returns-clause-stay
returns-clause-stay c = follow_more

pub returns-clause-read : goal.returns-clause-read
returns-clause-read c = read_by_word
