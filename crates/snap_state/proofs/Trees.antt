-- What a loop over a tree's pairs, or one that makes a tree, keeps.
use Rattle.std.proofs.Common.{◌≡◌, ℕ, List, [], ◌∷◌, ◌++◌, All, Option, Some, sym, ap, subst, ◌∙◌, append_assoc}
use Rattle.std.specs.List.{flat_map}
use Rattle.std.specs.Option.{option_to_list}
use Rattle.std.proofs.lemmas.List.Elements.{All-cons, All-nil}
use Rattle.lists.specs.Prefixes.{IsPrefix, prefix_trans, prefix_append}

-- one pair less is left, and its bytes are there
pub one_put : {A : Type 0} (spell : A → List ℕ) (x : A) (s t : List A) (now new all : List ℕ) → s ≡ x ∷ t → new ≡ now ++ spell x → now ++ flat_map spell s ≡ all → new ++ flat_map spell t ≡ all
one_put spell x s t now new all is added so_far =
    ap (λ bs. bs ++ flat_map spell t) added ∙ append_assoc now (spell x) (flat_map spell t) ∙ ap (λ xs. now ++ flat_map spell xs) (sym is) ∙ so_far

pub one_fits : {A : Type 0} (Fits : A → Type 0) (x : A) (s t : List A) (P : Type 0) → s ≡ x ∷ t → Fits x → (All Fits s → P) → All Fits t → P
one_fits Fits x s t P is fits so rest = so (subst (λ xs. All Fits xs) (sym is) (All-cons Fits x t fits rest))

pub all_put : {A : Type 0} (Fits : A → Type 0) (s : List A) (P : Type 0) → s ≡ [] → (All Fits s → P) → P
all_put Fits s P is so = so (subst (λ xs. All Fits xs) (sym is) (All-nil Fits))

pub still_front : (old now new added : List ℕ) → IsPrefix old now → new ≡ now ++ added → IsPrefix old new
still_front old now new added front is = prefix_trans new front (subst (IsPrefix now) (sym is) (prefix_append now added))

-- the last of the rest goes before those that were taken
pub one_taken : {A : Type 0} (all before after : List A) (r : Option A) (x : A) (taken : List A) → all ≡ before ++ taken → before ≡ after ++ option_to_list r → r ≡ Some x → all ≡ after ++ x ∷ taken
one_taken all before after r x taken is popped some =
    is ∙ ap (λ front. front ++ taken) (popped ∙ ap (λ o. after ++ option_to_list o) some) ∙ append_assoc after (x ∷ []) taken
