use Rattle.std.proofs.Common.{◌≡◌, Ok, Some, ap, arith, length, subst, sym, ◌∙◌}
use Rattle.std.specs.declared.alloc.AllocError.{AllocError}
use Rattle.node_body.proofs.Wholes.{left_over}
use Rattle.node_body.specs.Bodies.{body}
use Rattle.wire_messages.specs.Wires.{Takes}
use Rattle.node_body.proofs.body.take_any_body.Goals as goal

pub returns-in-len1-up : goal.returns-in-len1-up
returns-in-len1-up g c =
    let f = body c.args.stack g.C.Wire.format in
    let there : f.read c.new-input.result ≡ Some (c.in-Some.found, c.take_front.new.input) =
    subst (λ o. Takes {E = AllocError} f c.new-input.result c.take_front.new.input (Ok o)) c.in-Some.is c.in_ok-found.ensures in
    left_over f c.args.bytes.now c.in-Some.found c.take_front.new.input (ap f.read (sym c.new-input.ensures) ∙ there)
    (omega (arith, c.in-len1-up.len_at_least, ap length c.rest.ensures))
