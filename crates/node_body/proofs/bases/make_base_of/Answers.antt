use Rattle.std.proofs.Common.{[], ◌∷◌, ap, arith, length, length-append, subst}
use Rattle.wire_fields.specs.ByteLaws.{length-number_bytes}
use Rattle.wire_fields.specs.Bytes.{number_bytes}
use Rattle.node_body.specs.BaseLaws.{body_length}
use Rattle.node_body.specs.Bodies.{body, body_of, kept_as}
use Rattle.node_body.proofs.bases.make_base_of.Goals as goal

pub overflow_cast-len : goal.overflow_cast-len
overflow_cast-len g c =
    let kept = kept_as c.args.term c.args.voted c.args.log.now in
    let spelled = (body c.args.who.now.stack g.C.Wire.format).spell (body_of c.args.who.now kept) in
    let bytes = ap length c.in_ok-put_state.ensures.ok in
    let empty = ap length c.new-body.ensures.items in
    omega (
      arith,
      bytes,
      empty,
      length-append c.new-body.result.items spelled,
      c.len.ensures,
      body_length c.args.who.now.stack g.C.Wire.format g.met.C.Commands.short c.args.who.now kept c.in_ok-put_state.ensures.fits,
    )

pub returns-clause-short : goal.returns-clause-short
returns-clause-short g c =
    let kept = kept_as c.args.term c.args.voted c.args.log.now in
    let spelled = (body c.args.who.now.stack g.C.Wire.format).spell (body_of c.args.who.now kept) in
    let long = body_length c.args.who.now.stack g.C.Wire.format g.met.C.Commands.short c.args.who.now kept c.in_ok-put_state.ensures.fits in
    let bytes = ap length c.in_ok-put_state.ensures.ok in
    let empty = ap length c.new-body.ensures.items in
    let both = length-append c.new-body.result.items spelled in
    let none = ap length c.new-slot.ensures.items in
    let number = ap length c.in_ok-put_u32.ensures.ok in
    let four = length-append c.new-slot.result.items (number_bytes 4 c.len.result) in
    let size = length-number_bytes 4 c.len.result in
    let added = ap length c.in_ok-extend_from_slice.ensures.items in
    let sum = length-append c.put_u32.new.out.items c.deref.result.now in
    let same = ap length c.deref.ensures.value in
    let last = ap length c.in_ok-push.ensures.items in
    let one = length-append c.extend_from_slice.new.self.items (0 ∷ []) in
    omega (arith, c.push.new.self.ok.0, last, one, added, sum, same, number, four, size, none, bytes, both, empty, long)

pub returns-clause-fits : goal.returns-clause-fits
returns-clause-fits g c =
    let kept = kept_as c.args.term c.args.voted c.args.log.now in
    subst (λ s. (body s g.C.Wire.format).Fits (body_of c.args.who.now kept)) c.requires.stack c.in_ok-put_state.ensures.fits
