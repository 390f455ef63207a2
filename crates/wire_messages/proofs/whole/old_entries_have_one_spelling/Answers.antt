use Rattle.wire_messages.specs.EntryByteLaws.{old_entry_is_format}
use Rattle.wire_messages.proofs.whole.old_entries_have_one_spelling.Goals as goal

pub returns : goal.returns
returns g c = old_entry_is_format g.C.Wire.format g.met.C.Wire.is_format
