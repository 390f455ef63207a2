use Rattle.std.proofs.Common.{◌≡◌, ◌∙◌, ◌<◌, Some, ap, arith, length, refl, sym}
use Rattle.std.specs.Prelude.{slice_get}
use Rattle.std.proofs.lemmas.List.{length-map}
use Rattle.std.proofs.lemmas.Option.{slice_get_read}
use Rattle.lanes.specs.Lanes.{previous_of}
use Rattle.lanes.specs.LanesLaws.{previous_some}
use Rattle.net_semantics.specs.Held.{held_copies}
use Rattle.net_semantics.specs.Kept.{shown_with}
use Rattle.net_semantics.specs.Order.{all_ends}
use Rattle.net_semantics.proofs.Keeping.{shown_there}
use Rattle.net_semantics.proofs.Ordering.{ahead-some, first-none, first-some, match_zero}
use Rattle.net_semantics.proofs.packets.Packets.is_first.Goals as goal

pub index-requires : goal.index-requires
index-requires g c =
    let i = c.self.inside in
    let is : previous_of (all_ends c.args.self.now) c.args.k ≡ Some c.in-Some.before = sym (c.previous.ensures _ c.requires.follow) ∙ c.in-Some.is in
    let before = (previous_some (all_ends c.args.self.now) c.args.k c.in-Some.before is).0 in
    let size = ap length c.self.view_is in
    let kept = length-map i.items.items (shown_with i.contents) in
    omega (arith, before, c.requires.sent, size, kept)

pub returns-in-Some : goal.returns-in-Some
returns-in-Some g c =
    let i = c.self.inside in
    let s = c.index.result.now in
    let is : previous_of (all_ends c.args.self.now) c.args.k ≡ Some c.in-Some.before = sym (c.previous.ensures _ c.requires.follow) ∙ c.in-Some.is in
    let before = (previous_some (all_ends c.args.self.now) c.args.k c.in-Some.before is).0 in
    let size = ap length c.self.view_is in
    let kept = length-map i.items.items (shown_with i.contents) in
    let lt : c.in-Some.before < length i.items.items = omega (arith, before, c.requires.sent, size, kept) in
    let copies : held_copies (slice_get c.args.self.now c.in-Some.before) ≡ s.copies =
    ap held_copies (shown_there i.contents c.args.self.now i.items.items c.in-Some.before c.self.view_is s (slice_get_read i.items.items (length i.items.items) c.in-Some.before s refl lt c.index.ensures)) in
    match_zero s.copies
    (λ none. first-some c.args.self.now c.args.k c.requires.in_order c.requires.sent c.in-Some.before is (copies ∙ none))
    (λ some. (c.in-Some.before, ahead-some c.args.self.now c.args.k c.requires.in_order c.requires.sent c.in-Some.before is (omega (arith, copies, some))))

pub returns-in-None : goal.returns-in-None
returns-in-None g c =
    first-none c.args.self.now c.args.k c.requires.in_order c.requires.sent (sym (c.previous.ensures _ c.requires.follow) ∙ c.in-None.is)
