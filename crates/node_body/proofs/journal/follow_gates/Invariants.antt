use Rattle.std.proofs.Common.{◌≡◌}
use Rattle.node_body.specs.Bodies.{entry_in}
use Rattle.node_body.specs.Journals.{change, from_gate}
use Rattle.node_body.specs.declared.journal.TheConstants.{MAX_RECORDS}
use Rattle.node_body.proofs.journal.follow_gates.Given as goal

-- what is left is read from the state so far
abbrev pub invariant-gates : goal.invariant-gates
invariant-gates g l =
    let f = change l.nodes (entry_in l.version g.C.Wire.format) in
    from_gate f l.left l.kept l.input ≡ from_gate f MAX_RECORDS l.fn.first l.bytes

abbrev pub decreases-gates : goal.decreases-gates
decreases-gates g l = l.left
