use Rattle.std.proofs.Common.{◌-◌, ℕ, List, Option, Some, arith, ap, ◌∙◌, sym, take, drop, length}
use Rattle.wire_fields.proofs.Fronts.{raw_short, raw_there}
use Rattle.wire_fields.proofs.name.front_name.Goals as goal

pub returns-then-bytes-lt-NAME_LEN : goal.returns-then-bytes-lt-NAME_LEN
returns-then-bytes-lt-NAME_LEN c = raw_short 16 c.args.bytes.now (omega arith)

pub returns : goal.returns
returns c =
    let bs = c.args.bytes.now in
    raw_there 16 bs (omega arith) c.type_inv.bytes
    ∙ ap (λ front. let found : Option (List ℕ × List ℕ) = Some (front, take (length bs - 16) (drop 16 bs)) in found) (sym c.copy_from_slice.ensures.after)
