use Rattle.std.proofs.Common.{◌≡◌, None, Ok, Some, ap, length, subst}
use Rattle.std.specs.declared.alloc.AllocError.{AllocError}
use Rattle.node_body.proofs.Gates.{finds_closed, finds_next, finds_no_gate, finds_no_record, finds_past}
use Rattle.node_body.specs.Bodies.{entry_in}
use Rattle.node_body.specs.Journals.{change, from_gate, next_state}
use Rattle.node_body.specs.Steps.{Steps}
use Rattle.node_body.specs.declared.journal.TheConstants.{MAX_RECORDS}
use Rattle.node_body.proofs.journal.follow_gates.Goals as goal

pub returns-in_default : goal.returns-in_default
returns-in_default g c =
    let f = change c.args.nodes (entry_in c.args.version g.C.Wire.format) in
    finds_no_gate f c.gates.kept (from_gate f MAX_RECORDS c.args.first c.args.bytes.now) c.gates.left c.gates.input c.gates.invariant c.in_default.ensures

pub returns-then-gate-eq0 : goal.returns-then-gate-eq0
returns-then-gate-eq0 g c =
    let f = change c.args.nodes (entry_in c.args.version g.C.Wire.format) in
    finds_closed f c.gates.kept (from_gate f MAX_RECORDS c.args.first c.args.bytes.now) c.gates.left c.in-Some.gate (length c.rest-hidden.result.now) c.gates.input c.byte.new.self
    c.gates.invariant c.in-Some.ensures c.if-gate-eq0.true (ap length c.rest-hidden.ensures)

pub returns-then-left-eq0 : goal.returns-then-left-eq0
returns-then-left-eq0 g c =
    let f = change c.args.nodes (entry_in c.args.version g.C.Wire.format) in
    finds_past f c.gates.kept (from_gate f MAX_RECORDS c.args.first c.args.bytes.now) c.gates.left c.in-Some.gate c.gates.input c.byte.new.self
    c.gates.invariant c.in-Some.ensures c.if-left-eq0.true c.if-gate-eq0.false

pub returns-in_default-2 : goal.returns-in_default-2
returns-in_default-2 g c =
    let f = change c.args.nodes (entry_in c.args.version g.C.Wire.format) in
    let none : next_state f c.gates.kept c.byte.new.self ≡ None =
    subst (λ o. Steps {E = AllocError} (next_state f c.gates.kept c.byte.new.self) c.next_state.new.input (Ok o)) c.in_default-2.is c.in_ok-next.ensures in
    finds_no_record f c.gates.kept (from_gate f MAX_RECORDS c.args.first c.args.bytes.now) c.gates.left c.in-Some.gate c.gates.input c.byte.new.self
    c.gates.invariant c.in-Some.ensures c.if-left-eq0.false c.if-gate-eq0.false none

pub gates-preserved : goal.gates-preserved
gates-preserved g c =
    let f = change c.args.nodes (entry_in c.args.version g.C.Wire.format) in
    let next : next_state f c.gates.kept c.byte.new.self ≡ Some (c.in-Some-2.next, c.next_state.new.input) =
    subst (λ o. Steps {E = AllocError} (next_state f c.gates.kept c.byte.new.self) c.next_state.new.input (Ok o)) c.in-Some-2.is c.in_ok-next.ensures in
    finds_next f c.gates.kept (from_gate f MAX_RECORDS c.args.first c.args.bytes.now) c.gates.left c.in-Some.gate c.gates.input c.byte.new.self c.in-Some-2.next c.next_state.new.input
    c.gates.invariant c.in-Some.ensures c.if-left-eq0.false c.if-gate-eq0.false next
