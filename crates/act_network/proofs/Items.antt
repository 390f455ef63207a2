-- What clients saw of turns, beside the whole events.
use Rattle.std.proofs.Common.{◌≡◌, ℕ, zero, suc, List, [], ◌∷◌, ◌++◌, map, drop, Option, Some, None, refl, ap, sym, ◌∙◌, inl, inr, append_assoc}
use Rattle.std.proofs.lemmas.List.{append-nil}
use Rattle.vst_base.specs.declared.step.Item.{Item}
use Rattle.vst_base.specs.declared.step.Item.TheVariants as item
use Rattle.net_semantics.specs.Worlds.{change_at}
use Rattle.act_network.specs.ActWorlds.{Listed}
use Rattle.act_network.specs.Listing.{LeavesOut, items_with, move_one, moved, shown, whole}

all-outputs : {O : Type 0} (sent unsent : List O) → move_one sent unsent ++ drop 1 unsent ≡ sent ++ unsent
all-outputs sent [] = refl
all-outputs sent (o ∷ os) = append_assoc sent (o ∷ []) os

module _ {I O : Type 0} where
  pub whole-append : (ls : List (Listed I O)) (l : Listed I O) → whole (ls ++ l ∷ []) ≡ whole ls ++ items_with l.node l.input (l.sent ++ l.unsent)
  whole-append [] l = append-nil (items_with l.node l.input (l.sent ++ l.unsent))
  whole-append (x ∷ ls) l =
      ap (λ ys. items_with x.node x.input (x.sent ++ x.unsent) ++ ys) (whole-append ls l)
      ∙ sym (append_assoc (items_with x.node x.input (x.sent ++ x.unsent)) (whole ls) (items_with l.node l.input (l.sent ++ l.unsent)))

  pub whole-moved : (k : ℕ) (ls : List (Listed I O)) → whole (change_at moved k ls) ≡ whole ls
  whole-moved k [] = refl
  whole-moved zero (l ∷ ls) = ap (λ os. items_with l.node l.input os ++ whole ls) (all-outputs l.sent l.unsent)
  whole-moved (suc k) (l ∷ ls) = ap (λ ys. items_with l.node l.input (l.sent ++ l.unsent) ++ ys) (whole-moved k ls)

  left-none : (n : ℕ) (os : List O) (xs ys : List (Item I O)) → LeavesOut xs ys → LeavesOut xs (map (λ o. item.Output n o) os ++ ys)
  left-none n [] xs ys h = h
  left-none n (o ∷ os) xs ys h = inr (left-none n os xs ys h)

  left-some : (n : ℕ) (sent unsent : List O) (xs ys : List (Item I O)) → LeavesOut xs ys →
      LeavesOut (map (λ o. item.Output n o) sent ++ xs) (map (λ o. item.Output n o) (sent ++ unsent) ++ ys)
  left-some n [] unsent xs ys h = left-none n unsent xs ys h
  left-some n (o ∷ sent) unsent xs ys h = inl (map (λ p. item.Output n p) sent ++ xs, refl, left-some n sent unsent xs ys h)

  left-turn : (n : ℕ) (input : Option I) (sent unsent : List O) (xs ys : List (Item I O)) → LeavesOut xs ys →
      LeavesOut (items_with n input sent ++ xs) (items_with n input (sent ++ unsent) ++ ys)
  left-turn n None sent unsent xs ys h = left-some n sent unsent xs ys h
  left-turn n (Some i) sent unsent xs ys h = (map (λ o. item.Output n o) sent ++ xs, refl, left-some n sent unsent xs ys h)

  -- clients saw the whole events with the outputs left out that were not sent
  pub leaves_out : (ls : List (Listed I O)) → LeavesOut (shown ls) (whole ls)
  leaves_out [] = refl
  leaves_out (l ∷ ls) = left-turn l.node l.input l.sent l.unsent (shown ls) (whole ls) (leaves_out ls)
