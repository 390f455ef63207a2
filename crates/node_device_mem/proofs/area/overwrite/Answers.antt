use Rattle.std.proofs.Common.{◌≡◌, ◌<◌, ◌+◌, length, min, arith}
use Rattle.std.proofs.lemmas.Grind.{common_steps}
use Rattle.std.proofs.lemmas.List.{take_rest}
use Rattle.node_device_mem.proofs.Overwriting.{overwritten_to}
use Rattle.node_device_mem.proofs.area.overwrite.Goals as goal

pub returns : goal.returns
returns c =
    let some : 0 < length c.args.bytes.now = grind (arith, common_steps) in
    let end : c.min-end.result ≡ min (c.args.at + length c.args.bytes.now) (length c.args.old.now) = grind (arith, common_steps) in
    let whole = overwritten_to c.args.old.now c.args.at c.args.bytes.now c.min-end.result some end in
    let rest = take_rest c.args.old.now c.min-end.result in
    cc (c.in_ok-extend_from_slice-2.ensures.items, c.in_ok-extend_from_slice.ensures.items, c.in_ok-resize.ensures.items, c.in_ok-new.ensures.items, c.in_ok-new.ensures.len, whole, rest)
