-- The faults of texts that are not read and of writes as faults of a replay.
use Rattle.line_reader.specs.declared.write_fault.WriteFault.{WriteFault}
use Rattle.line_reader.specs.declared.write_fault.WriteFault.TheVariants as write
use Rattle.schedule_text.specs.declared.text_faults.TextFault.{TextFault}
use Rattle.schedule_text.specs.declared.text_faults.TextFault.TheVariants as text
use Rattle.schedule_replay.specs.declared.fault.ReplayFault.{ReplayFault}
use Rattle.schedule_replay.specs.declared.fault.ReplayFault.TheVariants as replay

abbrev pub write_fault : WriteFault → ReplayFault
write_fault write.Write = replay.Write
write_fault write.Memory = replay.Memory

-- what a replay answers where its header is not read
abbrev pub replay_fault : TextFault → ReplayFault
replay_fault text.Read = replay.Read
replay_fault text.Memory = replay.Memory
replay_fault (text.Refused line why) = replay.Refused line why
