use Rattle.std.proofs.Common.{◌≡◌, Some, length}
use Rattle.node_body.specs.Bodies.{entry_in}
use Rattle.wire_fields.specs.Formats.{read_list}
use Rattle.node_body.proofs.log.take_each.Given as goal

-- the entries so far are those that were read
abbrev pub invariant-loop-taken : goal.invariant-loop-taken
invariant-loop-taken g l =
    (read_list (entry_in l.version g.C.Wire.format).read l._taken l.fn.input ≡ Some (l.items.items, l.input)) × (length l.items.items ≡ l._taken)
