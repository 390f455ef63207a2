use Rattle.std.proofs.Common.{◌≡◌, Some, ap, length, refl, subst, sym}
use Rattle.std.specs.Prelude.{slice_get}
use Rattle.std.proofs.lemmas.Option.{slice_get_read}
use Rattle.net_semantics.specs.Held.{held_copies}
use Rattle.net_semantics.proofs.Keeping.{shown_past, shown_there}
use Rattle.net_semantics.proofs.packets.Packets.copies.Goals as goal

pub returns-in-Some : goal.returns-in-Some
returns-in-Some g c =
    let i = c.self.inside in
    let xs = c.deref.result.now in
    let s = c.in-Some.sent.now in
    let found = c.in-Some.ensures.lookup in
    let read : slice_get xs c.args.k ≡ Some s = slice_get_read xs (length xs) c.args.k s refl found.3.0 found.1 in
    let there : slice_get i.items.items c.args.k ≡ Some s = subst (λ ys. slice_get ys c.args.k ≡ Some s) c.deref.ensures.value read in
    ap held_copies (sym (shown_there i.contents c.args.self.now i.items.items c.args.k c.self.view_is s there))

pub returns-in-None : goal.returns-in-None
returns-in-None g c =
    let i = c.self.inside in
    let past = rw c.deref.ensures.value at c.in-None.ensures.lookup.3 in
    ap held_copies (sym (shown_past i.contents c.args.self.now i.items.items c.args.k c.self.view_is past))
