use Rattle.std.proofs.Common.{◌≡◌, ◌∙◌, [], ◌∷◌, ◌++◌, ap, subst, sym}
use Rattle.net_semantics.specs.Held.{held_sent}
use Rattle.net_semantics.specs.Kept.{IsKept, shown_all}
use Rattle.net_semantics.specs.Order.{LanesFollow}
use Rattle.net_semantics.proofs.Keeping.{Adds, sent_to, kept_roomier, kept_added, shown_roomier, shown_added}
use Rattle.net_semantics.proofs.Ordering.{all_ends-sent}
use Rattle.net_semantics.proofs.packets.Packets.send.Goals as goal

pub invariant_of-self-2 : goal.invariant_of-self-2
invariant_of-self-2 g c =
    let i = c.self.inside in
    let roomier = c.reserve.new.self in
    let place = c.vacant_key-place.result in
    let key : c.insert_reserved.result ≡ place = c.insert_reserved.ensures.key ∙ sym c.vacant_key-place.ensures.value in
    let adds : Adds i.items.items roomier c.insert_reserved.new.self place c.args.content =
    record {
      was = kept_roomier i.items.items i.contents roomier c.reserve.ensures.rest_kept c.self.invariant;
      vacant = c.vacant_key-place.ensures.vacant;
      updates = rw key at c.insert_reserved.ensures.updates;
    } in
    subst (λ ss. IsKept ss c.insert_reserved.new.self) (sym (c.push_in_room.ensures ∙ ap (λ ss. ss ++ sent_to c.args.source c.args.destination place ∷ []) c.reserve-2.ensures.items))
    (kept_added i.items.items roomier c.insert_reserved.new.self place c.args.content c.args.source c.args.destination adds
    c.insert_reserved.ensures.len)

pub returns-clause-sent : goal.returns-clause-sent
returns-clause-sent g c =
    let i = c.self.inside in
    let roomier = c.reserve.new.self in
    let place = c.vacant_key-place.result in
    let key : c.insert_reserved.result ≡ place = c.insert_reserved.ensures.key ∙ sym c.vacant_key-place.ensures.value in
    let adds : Adds i.items.items roomier c.insert_reserved.new.self place c.args.content =
    record {
      was = kept_roomier i.items.items i.contents roomier c.reserve.ensures.rest_kept c.self.invariant;
      vacant = c.vacant_key-place.ensures.vacant;
      updates = rw key at c.insert_reserved.ensures.updates;
    } in
    let added =
    shown_added i.items.items roomier c.insert_reserved.new.self place c.args.content c.args.source c.args.destination
    adds in
    let before = shown_roomier i.items.items i.contents roomier c.reserve.ensures.rest_kept ∙ c.self.view_is in
    ap (shown_all c.insert_reserved.new.self) (c.push_in_room.ensures ∙ ap (λ ss. ss ++ sent_to c.args.source c.args.destination place ∷ []) c.reserve-2.ensures.items)
    ∙ (added ∙ ap (λ ps. ps ++ held_sent c.args.source (c.args.destination, c.args.content) ∷ []) before)

pub returns-clause-follow : goal.returns-clause-follow
returns-clause-follow g c = λ was.
    subst (LanesFollow c.push_ends.new.lanes) (sym (all_ends-sent _ _ c.args.source c.args.destination c.args.content (returns-clause-sent g c)))
    (c.in_ok-push_ends.ensures.ok _ was)
