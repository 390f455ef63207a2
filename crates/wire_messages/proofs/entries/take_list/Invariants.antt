use Rattle.std.proofs.Common.{◌≡◌, Some, length}
use Rattle.wire_fields.specs.Formats.{read_list}
use Rattle.wire_messages.proofs.entries.take_list.Given as goal

-- the values so far are those that were read
abbrev pub invariant-loop-taken : goal.invariant-loop-taken
invariant-loop-taken g l = (read_list g.T.Wire.format.read l._taken l.fn.input ≡ Some (l.items.items, l.input)) × (length l.items.items ≡ l._taken)
