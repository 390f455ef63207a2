use Rattle.std.proofs.Common.{None, [], arith}
use Rattle.raft_xform.proofs.Keeping.{keeps_input, keeps_message, keeps_tick}
use Rattle.raft_xform.proofs.Sounding.{sound_started}
use Rattle.raft_xform.proofs.soundness.events_keep_a_node_sound.Goals as goal

pub returns-clause-start : goal.returns-clause-start
returns-clause-start g c = λ nodes me m cluster here. sound_started m 0 None [] cluster here (omega arith) tt (omega arith)

pub returns-clause-reboot : goal.returns-clause-reboot
returns-clause-reboot g c = λ nodes me m k cluster here term vote short. sound_started m k.term k.voted k.log cluster here term vote short

pub returns-clause-input : goal.returns-clause-input
returns-clause-input g c = λ nodes me m s i sound. (keeps_input sound m i).sound

pub returns-clause-message : goal.returns-clause-message
returns-clause-message g c = λ nodes me from m s message sound below range. (keeps_message sound m from below message range).sound

pub returns-clause-timeout : goal.returns-clause-timeout
returns-clause-timeout g c = λ nodes me m s sound. (keeps_tick sound m).sound
