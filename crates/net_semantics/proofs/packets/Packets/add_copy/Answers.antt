use Rattle.std.proofs.Common.{◌≡◌, ◌∙◌, ◌+◌, ap, arith, refl}
use Rattle.std.specs.Prelude.{slice_get}
use Rattle.net_semantics.specs.Worlds.{change_at}
use Rattle.net_semantics.specs.Held.{held_copies, held_more}
use Rattle.net_semantics.proofs.Keeping.{Changes, sent_there, kept_some, shown_more, shown_there}
use Rattle.net_semantics.proofs.packets.Packets.add_copy.Goals as goal

pub overflow_add-sent : goal.overflow_add-sent
overflow_add-sent g c =
    let i = c.self.inside in
    let s = c.index_mut-sent.result.now in
    let found = sent_there i.contents i.items.items c.args.k s (rw c.self.view_is c.requires.copy) c.index_mut-sent.ensures.value in
    let shown = shown_there i.contents c.args.self.now i.items.items c.args.k c.self.view_is s found.0 in
    let copies : held_copies (slice_get c.args.self.now c.args.k) ≡ s.copies = ap held_copies shown in
    omega (arith, copies, c.requires.fits)

pub invariant_of-self : goal.invariant_of-self
invariant_of-self g c =
    let i = c.self.inside in
    let s = c.index_mut-sent.result.now in
    let found = sent_there i.contents i.items.items c.args.k s (rw c.self.view_is c.requires.copy) c.index_mut-sent.ensures.value in
    let more : Changes i.items.items i.contents i.contents c.args.k s (s.copies + 1) =
    record { was = c.self.invariant; there = found.0; copy = found.1; others = λ p ne. refl; still = λ l. refl } in
    kept_some i.items.items i.contents i.contents c.args.k s (s.copies + 1) more (omega arith) refl

pub returns : goal.returns
returns g c =
    let i = c.self.inside in
    let s = c.index_mut-sent.result.now in
    let found = sent_there i.contents i.items.items c.args.k s (rw c.self.view_is c.requires.copy) c.index_mut-sent.ensures.value in
    let more : Changes i.items.items i.contents i.contents c.args.k s (s.copies + 1) =
    record { was = c.self.invariant; there = found.0; copy = found.1; others = λ p ne. refl; still = λ l. refl } in
    shown_more i.items.items i.contents i.contents c.args.k s more ∙ ap (change_at held_more c.args.k) c.self.view_is
