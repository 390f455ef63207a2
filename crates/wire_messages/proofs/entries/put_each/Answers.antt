use Rattle.std.proofs.Common.{◌≡◌, ◌++◌, All, take, subst, arith}
use Rattle.std.proofs.lemmas.List.{take_all}
use Rattle.std.specs.List.{flat_map}
use Rattle.wire_messages.proofs.Broken.{broke_off}
use Rattle.wire_messages.proofs.Each.{puts_more}
use Rattle.wire_messages.proofs.entries.put_each.Goals as goal

pub loop-item-preserved : goal.loop-item-preserved
loop-item-preserved g c =
    let f = g.T.Wire.format in
    puts_more f.spell f.Fits c.args.items.now c.loop-item.item-index c.item-item.result c.args.out.now.items c.loop-item.out.items c.put.new.out.items
    (omega arith) c.item-item.is c.loop-item.invariant.0 c.loop-item.invariant.1 c.in_ok-put.ensures.ok c.in_ok-put.ensures.fits

pub returns-in_err-put-clause-err : goal.returns-in_err-put-clause-err
returns-in_err-put-clause-err g c =
    broke_off c.from_residual.result c.args.out.now.items _ c.loop-item.out.items c.put.new.out.items c.loop-item.invariant.0 c.in_err-put.ensures.err

pub returns-clause-ok : goal.returns-clause-ok
returns-clause-ok g c =
    let whole : take c.loop-item.item-index c.args.items.now ≡ c.args.items.now = take_all c.loop-item.item-index c.args.items.now (omega arith) in
    subst (λ xs. c.loop-item.out.items ≡ c.args.out.now.items ++ flat_map g.T.Wire.format.spell xs) whole c.loop-item.invariant.0

pub returns-clause-fits : goal.returns-clause-fits
returns-clause-fits g c =
    let whole : take c.loop-item.item-index c.args.items.now ≡ c.args.items.now = take_all c.loop-item.item-index c.args.items.now (omega arith) in
    subst (λ xs. All g.T.Wire.format.Fits xs) whole c.loop-item.invariant.1
