use Rattle.std.proofs.Common.{◌≡◌, ◌≢◌, ◌<◌, ◌++◌, ◌∷◌, List, ℕ, [], ap, arith, length, map, set, sym, ◌∙◌}
use Rattle.std.proofs.lemmas.List.{get_or-map, get_or-set_other, get_or-set_same, length-map, map-set}
use Rattle.observer_parts.specs.PacketLists.{list_at}
use Rattle.observer_parts.proofs.packet_lists.PacketLists.push.Goals as goal

pub returns-clause-there : goal.returns-clause-there
returns-clause-there c =
    let number = c.args.list in
    let lists = c.reach.new.lists.items in
    let list = c.index_mut.result.now in
    let there = c.in_ok-reach.ensures.there in
    let found : list_at (map (λ l. l.items) lists) number ≡ list.items = get_or-map (λ l. l.items) lists number list [] there ∙ ap (λ l. l.items) (sym c.index_mut.ensures.value) in
    let longer : map (λ l. l.items) (set lists number c.push.new.self) ≡ set (map (λ l. l.items) lists) number (list.items ++ c.args.packet ∷ []) =
    map-set (λ l. l.items) lists number c.push.new.self ∙ ap (set (map (λ l. l.items) lists) number) c.in_ok-push.ensures.items in
    let inside : number < length (map (λ l. l.items) lists) = omega (arith, there, length-map lists (λ l. l.items)) in
    ap (λ ls. list_at ls number) longer
    ∙ (get_or-set_same (map (λ l. l.items) lists) number (list.items ++ c.args.packet ∷ []) [] inside
    ∙ ap (λ xs. xs ++ c.args.packet ∷ []) (sym found ∙ (c.in_ok-reach.ensures.same number ∙ ap (λ v. list_at v number) c.self.view_is)))

pub returns-clause-others : goal.returns-clause-others
returns-clause-others c = λ j other.
    let lists = c.reach.new.lists.items in
    let longer : map (λ l. l.items) (set lists c.args.list c.push.new.self) ≡ set (map (λ l. l.items) lists) c.args.list c.push.new.self.items =
    map-set (λ l. l.items) lists c.args.list c.push.new.self in
    ap (λ ls. list_at ls j) longer
    ∙ (get_or-set_other (map (λ l. l.items) lists) c.args.list j c.push.new.self.items [] other ∙ (c.in_ok-reach.ensures.same j ∙ ap (λ v. list_at v j) c.self.view_is))
