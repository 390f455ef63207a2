use Rattle.std.proofs.Common.{◌≡◌, ◌∷◌, length, All, refl, sym, drop, arith}
use Rattle.std.proofs.lemmas.Map.Iter.{rest_more, rest_all}
use Rattle.std.specs.Map.Iter.{deref_pair}
use Rattle.lists.specs.Prefixes.{prefix_joined}
use Rattle.wire_fields.specs.Formats.{pair}
use Rattle.wire_messages.proofs.Broken.{broke_off}
use Rattle.snap_state.proofs.Trees.{all_put, one_fits, one_put, still_front}
use Rattle.snap_state.specs.TableLaws.{in_its_order}
use Rattle.snap_state.proofs.pairs.put_pairs.Goals as goal

pub loop-key-preserved : goal.loop-key-preserved
loop-key-preserved g c =
    let f = pair g.K.Wire.format g.V.Wire.format in
    let x : g.row.K.Denot × g.row.V.Denot = (c.in-Some.key.now, c.in-Some.value.now) in
    let is : c.loop-key.key-iterator ≡ x ∷ c.next.new.self = rest_more deref_pair c.loop-key.key-iterator c.next.new.self c.next.result (c.in-Some.key, c.in-Some.value) c.in-Some.is c.next.ensures.steps in
    let kept = c.loop-key.invariant in
    let ok = c.in_ok-put_pair.ensures.ok in (
      tt,
      tt,
      one_put f.spell x c.loop-key.key-iterator c.next.new.self c.loop-key.out.items c.put_pair.new.out.items _ is ok kept.2,
      one_fits f.Fits x c.loop-key.key-iterator c.next.new.self _ is c.in_ok-put_pair.ensures.fits kept.3,
      still_front c.args.out.now.items c.loop-key.out.items c.put_pair.new.out.items (f.spell x) kept.4 ok,
    )

pub returns-in_err-put_pair-clause-err : goal.returns-in_err-put_pair-clause-err
returns-in_err-put_pair-clause-err g c =
    broke_off c.from_residual-in_err-put_pair.result c.args.out.now.items (drop (length c.args.out.now.items) c.loop-key.out.items) c.loop-key.out.items c.put_pair.new.out.items
    (sym (prefix_joined c.loop-key.invariant.4)) c.in_err-put_pair.ensures.err

pub returns-clause-fits : goal.returns-clause-fits
returns-clause-fits g c =
    let f = pair g.K.Wire.format g.V.Wire.format in
    let none = rest_all deref_pair c.loop-key.key-iterator c.next.new.self c.next.result c.in-None.is c.next.ensures.steps in
    let fits : All f.Fits c.args.tree.now.entries = all_put f.Fits c.loop-key.key-iterator (All f.Fits c.args.tree.now.entries) none c.loop-key.invariant.3 in
    (((omega arith, c.requires), (refl, fits)), in_its_order g.K.Ord.cmp c.args.tree.now.entries c.len.ensures.ordered)
