-- What clients saw, as the code keeps it.
use Rattle.std.proofs.Common.{◌≡◌, List, [], ◌∷◌, ◌++◌, map, refl, ap}
use Rattle.act_network.specs.ActWorlds.{Listed}
use Rattle.act_network.specs.Listing.{items_with, shown}
use Rattle.act_world.specs.ActViews.{seen_items, seen_of}

pub seen-shown : {I O : Type 0} (ls : List (Listed I O)) → seen_items (map seen_of ls) ≡ shown ls
seen-shown [] = refl
seen-shown (l ∷ ls) = ap (λ xs. items_with l.node l.input l.sent ++ xs) (seen-shown ls)
