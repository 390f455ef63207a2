use Rattle.std.proofs.Common.{◌-◌, ◌<◌, ◌≤◌, length, take, drop, option_map, arith, ap, sym, ◌∙◌, refl, take_all, length-drop}
use Rattle.node_config.proofs.Fills.{ended, filled-more, front-stays, further, left-more, left-none, room, taken-all}
use borrow.Rule.Slice.PartMut.{same_len_mid}
use Rattle.node_config.proofs.filling.fill.Goals as goal
use Rattle.lists.specs.Options.{if_some}

pub returns-in-Got-eq0-clause-bytes : goal.returns-in-Got-eq0-clause-bytes
returns-in-Got-eq0-clause-bytes g c =
    let inv = c.loop-len.invariant in
    let s = g.S.Source in
    let buf = c.loop-len.buf in
    let len = c.loop-len.len in
    let e = c.in-Got-eq0.ensures.read in
    let some : 0 < length (take (length buf - len) (drop len buf)) = omega (arith, room buf len, c.loop-len-test.true) in
    if_some _ (s.left c.args.source.now) (λ bytes is.
    let nothing = ended (s.left c.args.source.now) (s.left c.loop-len.source) len c.in-Got-eq0.field-0 _ c.read.new.buf inv.taken e.2 c.in-Got-eq0.field-0-test some bytes is in
    let few = taken-all bytes len nothing in
    front-stays buf c.read.new.buf len inv.within
    ∙ (inv.same bytes is ∙ (take_all len bytes few ∙ sym (take_all (length c.args.buf.now) bytes (omega (arith, few, inv.within, inv.size))))))

pub returns-in-Got-eq0-clause-left : goal.returns-in-Got-eq0-clause-left
returns-in-Got-eq0-clause-left g c =
    let inv = c.loop-len.invariant in
    let s = g.S.Source in
    let buf = c.loop-len.buf in
    let len = c.loop-len.len in
    let e = c.in-Got-eq0.ensures.read in
    let some : 0 < length (take (length buf - len) (drop len buf)) = omega (arith, room buf len, c.loop-len-test.true) in
    left-none (s.left c.args.source.now) (s.left c.loop-len.source) (s.left c.read.new.self) len (length c.args.buf.now) inv.taken
    (e.1 ∙ ap (λ n. option_map (drop n) (s.left c.loop-len.source)) c.in-Got-eq0.field-0-test)
    (ended (s.left c.args.source.now) (s.left c.loop-len.source) len c.in-Got-eq0.field-0 _ c.read.new.buf inv.taken e.2 c.in-Got-eq0.field-0-test some)
    (omega (arith, inv.within, inv.size))

pub loop-len-preserved : goal.loop-len-preserved
loop-len-preserved g c =
    let inv = c.loop-len.invariant in
    let s = g.S.Source in
    let buf = c.loop-len.buf in
    let len = c.loop-len.len in
    let n = c.in-Got.count in
    let e = c.in-Got.ensures.read in
    let same = same_len_mid len (length buf - len) buf c.read.new.buf c.read.auto.buf in
    let fits : n ≤ length c.read.new.buf = omega (arith, e.0, c.read.auto.buf) in
    record {
      size = same ∙ inv.size;
      within = omega (arith, same, e.0, room buf len, c.loop-len-test.true);
      reached = λ bytes is.
          let gives = further (s.left c.args.source.now) (s.left c.loop-len.source) len n _ c.read.new.buf bytes inv.taken e.2 is in
          omega (arith, gives.enough, inv.reached bytes is, length-drop len bytes);
      same = λ bytes is.
          let gives = further (s.left c.args.source.now) (s.left c.loop-len.source) len n _ c.read.new.buf bytes inv.taken e.2 is in
          filled-more buf c.read.new.buf bytes (drop len bytes) len n inv.within fits (inv.same bytes is) refl gives.front;
      taken = left-more (s.left c.args.source.now) (s.left c.loop-len.source) (s.left c.read.new.self) len n inv.taken e.1;
      quiet = e.3 ∙ inv.quiet;
    }
