-- What clients saw of the turns that count.
use Rattle.std.specs.Prelude.{◌≡◌, ℕ, List, [], ◌∷◌, ◌++◌, map, drop, Option, ◌⊎◌}
use Rattle.vst_base.specs.declared.step.Item.{Item}
use Rattle.vst_base.specs.declared.step.Item.TheVariants as item
use Rattle.net_semantics.specs.Steps.{input_item}
use Rattle.act_network.specs.ActWorlds.{Listed}

-- the next output is sent
abbrev pub move_one : {O : Type 0} → List O → List O → List O
move_one sent [] = sent
move_one sent (o ∷ os) = sent ++ o ∷ []

module _ {I O : Type 0} where
  abbrev pub moved : Listed I O → Listed I O
  moved l = record { node = l.node; input = l.input; sent = move_one l.sent l.unsent; unsent = drop 1 l.unsent }

  abbrev pub items_with : ℕ → Option I → List O → List (Item I O)
  items_with n input outputs = input_item n input ++ map (λ o. item.Output n o) outputs

  -- what clients saw: each turn's input, and those of its outputs that were sent
  abbrev pub shown : List (Listed I O) → List (Item I O)
  shown [] = []
  shown (l ∷ ls) = items_with l.node l.input l.sent ++ shown ls

  -- and with the outputs that were not sent
  abbrev pub whole : List (Listed I O) → List (Item I O)
  whole [] = []
  whole (l ∷ ls) = items_with l.node l.input (l.sent ++ l.unsent) ++ whole ls

  -- the first items are the second with some outputs left out
  abbrev pub LeavesOut : List (Item I O) → List (Item I O) → Type 0
  LeavesOut xs [] = xs ≡ []
  LeavesOut xs (item.Input n i ∷ ys) = (rest : List (Item I O)) × (xs ≡ item.Input n i ∷ rest) × LeavesOut rest ys
  LeavesOut xs (item.Output n o ∷ ys) = ((rest : List (Item I O)) × (xs ≡ item.Output n o ∷ rest) × LeavesOut rest ys) ⊎ LeavesOut xs ys
