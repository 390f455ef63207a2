use Rattle.std.proofs.Common.{◌+◌, ◌≡◌, ◌∷◌, ◌++◌, [], Ok, Some, refl, subst, sym, ap, ◌∙◌, arith, length-append, length}
use Rattle.std.specs.declared.alloc.AllocError.{AllocError}
use Rattle.wire_fields.specs.Formats.{read_list}
use Rattle.wire_messages.specs.Lists.{list_next, list_stops}
use Rattle.wire_messages.specs.Wires.{Takes}
use Rattle.wire_messages.proofs.Reading.{none_taken}
use Rattle.wire_messages.proofs.entries.take_list.Goals as goal

pub loop-taken-preserved : goal.loop-taken-preserved
loop-taken-preserved g c =
    let f = g.T.Wire.format in
    let item = c.in-Some.item in
    let taken = c.loop-taken._taken in
    let before = c.loop-taken.items.items in
    let read : f.read c.loop-taken.input ≡ Some (item, c.take.new.input) =
    subst (λ o. Takes {E = AllocError} f c.loop-taken.input c.take.new.input (Ok o)) c.in-Some.is c.in_ok-item.ensures in
    let pushed : c.push.new.self.items ≡ before ++ item ∷ [] = c.in_ok-push.ensures.items in
    let size : length c.push.new.self.items ≡ taken + 1 = ap length pushed ∙ omega (arith, length-append before (item ∷ []), c.loop-taken.invariant.1) in (
      subst (λ items. read_list f.read (taken + 1) c.args.input.now ≡ Some (items, c.take.new.input)) (sym pushed)
          (list_next f.read taken (taken + 1) c.args.input.now before c.loop-taken.input item c.take.new.input refl c.loop-taken.invariant.0 read),
      size,
    )

pub returns-in_default-clause-items : goal.returns-in_default-clause-items
returns-in_default-clause-items g c =
    let f = g.T.Wire.format in
    list_stops f.read c.loop-taken._taken c.args.count c.args.input.now c.loop-taken.items.items c.loop-taken.input (omega arith) c.loop-taken.invariant.0
    (none_taken f c.loop-taken.input c.take.new.input c.in_ok-item.field-0 c.in_default.is c.in_ok-item.ensures)
