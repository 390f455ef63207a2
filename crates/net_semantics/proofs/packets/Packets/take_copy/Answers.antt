use Rattle.std.proofs.Common.{◌≡◌, ◌∙◌, ◌-◌, ◌≢◌, ap, arith, refl}
use Rattle.net_semantics.specs.Worlds.{change_at}
use Rattle.net_semantics.specs.Held.{held_less}
use Rattle.net_semantics.proofs.Keeping.{Changes, sent_there, kept_some, kept_none, shown_less}
use Rattle.net_semantics.proofs.packets.Packets.take_copy.Goals as goal

pub overflow_sub-sent : goal.overflow_sub-sent
overflow_sub-sent g c =
    let i = c.self.inside in
    let s = c.index_mut-sent.result.now in
    let found = sent_there i.contents i.items.items c.args.k s (rw c.self.view_is c.requires) c.index_mut-sent.ensures.value in
    omega (arith, found.1)

pub remove-requires : goal.remove-requires
remove-requires g c =
    let i = c.self.inside in
    let s = c.index_mut-sent.result.now in
    let found = sent_there i.contents i.items.items c.args.k s (rw c.self.view_is c.requires) c.index_mut-sent.ensures.value in
    c.self.invariant.there c.args.k s found.0 found.1

pub invariant_of-self : goal.invariant_of-self
invariant_of-self g c =
    let i = c.self.inside in
    let s = c.index_mut-sent.result.now in
    let found = sent_there i.contents i.items.items c.args.k s (rw c.self.view_is c.requires) c.index_mut-sent.ensures.value in
    let none : s.copies - 1 ≡ 0 = omega (arith, c.if-sent-eq0.true) in
    let less : Changes i.items.items i.contents c.remove.new.self c.args.k s (s.copies - 1) =
    record {
      was = c.self.invariant;
      there = found.0;
      copy = found.1;
      others = c.remove.ensures.updates.others;
      still = λ l. absurd (omega (arith, none, l));
    } in
    kept_none i.items.items i.contents c.remove.new.self c.args.k s (s.copies - 1) less none c.remove.ensures.len

pub invariant_of-self-else-sent-eq0 : goal.invariant_of-self-else-sent-eq0
invariant_of-self-else-sent-eq0 g c =
    let i = c.self.inside in
    let s = c.index_mut-sent.result.now in
    let found = sent_there i.contents i.items.items c.args.k s (rw c.self.view_is c.requires) c.index_mut-sent.ensures.value in
    let some : s.copies - 1 ≢ 0 = c.if-sent-eq0.false in
    let less : Changes i.items.items i.contents i.contents c.args.k s (s.copies - 1) =
    record { was = c.self.invariant; there = found.0; copy = found.1; others = λ p ne. refl; still = λ l. refl } in
    kept_some i.items.items i.contents i.contents c.args.k s (s.copies - 1) less (omega (arith, some)) refl

pub returns-then-sent-eq0 : goal.returns-then-sent-eq0
returns-then-sent-eq0 g c =
    let i = c.self.inside in
    let s = c.index_mut-sent.result.now in
    let found = sent_there i.contents i.items.items c.args.k s (rw c.self.view_is c.requires) c.index_mut-sent.ensures.value in
    let none : s.copies - 1 ≡ 0 = omega (arith, c.if-sent-eq0.true) in
    let less : Changes i.items.items i.contents c.remove.new.self c.args.k s (s.copies - 1) =
    record {
      was = c.self.invariant;
      there = found.0;
      copy = found.1;
      others = c.remove.ensures.updates.others;
      still = λ l. absurd (omega (arith, none, l));
    } in
    shown_less i.items.items i.contents c.remove.new.self c.args.k s less ∙ ap (change_at held_less c.args.k) c.self.view_is

pub returns-else-sent-eq0 : goal.returns-else-sent-eq0
returns-else-sent-eq0 g c =
    let i = c.self.inside in
    let s = c.index_mut-sent.result.now in
    let found = sent_there i.contents i.items.items c.args.k s (rw c.self.view_is c.requires) c.index_mut-sent.ensures.value in
    let less : Changes i.items.items i.contents i.contents c.args.k s (s.copies - 1) =
    record { was = c.self.invariant; there = found.0; copy = found.1; others = λ p ne. refl; still = λ l. refl } in
    shown_less i.items.items i.contents i.contents c.args.k s less ∙ ap (change_at held_less c.args.k) c.self.view_is
