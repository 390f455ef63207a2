use Rattle.raft_xform.proofs.InRange.{input_in_range, message_in_range, tick_in_range}
use Rattle.raft_xform.proofs.soundness.sends_are_in_range.Goals as goal

pub returns-clause-input : goal.returns-clause-input
returns-clause-input g c = λ nodes me m s i sound. (input_in_range sound m i).sends

pub returns-clause-message : goal.returns-clause-message
returns-clause-message g c = λ nodes me from m s message sound below range. (message_in_range sound m from below message range).sends

pub returns-clause-timeout : goal.returns-clause-timeout
returns-clause-timeout g c = λ nodes me m s sound. (tick_in_range sound m).sends
