-- Lines that are gathered, and written now and then. Each of some things has its line, f of it.
use Rattle.std.specs.Prelude.{◌≡◌, ℕ, ◌+◌, ◌<◌, ◌≤◌, List, [], ◌∷◌, ◌++◌, length, take, drop, Option}
use Rattle.std.specs.List.{flat_map}
use Rattle.std.proofs.Common.{ap, ◌∙◌, sym, subst, append_assoc, get_or, take-append-drop}
use Rattle.std.proofs.lemmas.List.{append-nil, take_more, take_all}
use Rattle.std.proofs.lemmas.Grind.{flat_map-append}
use Rattle.outside.specs.Wholes.{Gained, GainedPrefix}
use Rattle.outside.proofs.Wholes.{gained-both, gained-front, gained-some}
use Rattle.schedule_text.specs.Sending.{Spilled}

module _ {X : Type 0} (f : X → List ℕ) (old : Option (List ℕ)) (xs : List X) (i : ℕ) where
  parts : flat_map f xs ≡ flat_map f (take i xs) ++ flat_map f (drop i xs)
  parts = ap (flat_map f) (sym (take-append-drop i xs)) ∙ flat_map-append f (take i xs) (drop i xs)

  -- nothing more was written
  pub sending-broken : (now : Option (List ℕ)) (text : List ℕ) → Spilled old now (flat_map f (take i xs)) text → GainedPrefix old now (flat_map f xs)
  sending-broken now text (sent, gained, lines) =
      gained-front old now sent (text ++ flat_map f (drop i xs)) (flat_map f xs)
      (parts ∙ (ap (λ bs. bs ++ flat_map f (drop i xs)) lines ∙ append_assoc sent text (flat_map f (drop i xs)))) gained

  -- the lines were all gathered, and what was left of them was written, or a front of it
  pub sending-done : (mid new : Option (List ℕ)) (text : List ℕ) → length xs ≤ i → Spilled old mid (flat_map f (take i xs)) text → Gained mid new text → Gained old new (flat_map f xs)
  sending-done mid new text all (sent, gained, lines) more =
      subst (λ (bs : List ℕ). Gained old new bs) (sym (ap (flat_map f) (sym (take_all i xs all)) ∙ lines)) (gained-both old mid new sent text gained more)

  pub sending-last : (mid new : Option (List ℕ)) (text : List ℕ) → length xs ≤ i → Spilled old mid (flat_map f (take i xs)) text → GainedPrefix mid new text → GainedPrefix old new (flat_map f xs)
  sending-last mid new text all (sent, gained, lines) more =
      gained-some old mid new sent text (flat_map f xs) []
      (ap (flat_map f) (sym (take_all i xs all)) ∙ (lines ∙ ap (λ bs. sent ++ bs) (sym (append-nil text)))) gained more

  -- one more line was gathered
  module _ (x : X) (below : i < length xs) (is : x ≡ get_or xs i x) where
    next : flat_map f (take (i + 1) xs) ≡ flat_map f (take i xs) ++ f x
    next = ap (flat_map f) (take_more xs i x below ∙ ap (λ y. take i xs ++ y ∷ []) (sym is)) ∙ (flat_map-append f (take i xs) (x ∷ []) ∙ ap (λ bs. flat_map f (take i xs) ++ bs) (append-nil (f x)))

    pub sending-more : (mid new : Option (List ℕ)) (text text' text'' : List ℕ) → Spilled old mid (flat_map f (take i xs)) text → text' ≡ text ++ f x → Spilled mid new text' text''
        → Spilled old new (flat_map f (take (i + 1) xs)) text''
    sending-more mid new text text' text'' (sent, gained, lines) one (sent', gained', lines') = (
      sent ++ sent',
      gained-both old mid new sent sent' gained gained',
      next ∙ (ap (λ bs. bs ++ f x) lines ∙ (append_assoc sent text (f x) ∙ (ap (λ bs. sent ++ bs) (sym one ∙ lines') ∙ sym (append_assoc sent sent' text'')))),
    )

    pub sending-failed : (mid new : Option (List ℕ)) (text text' : List ℕ) → Spilled old mid (flat_map f (take i xs)) text → text' ≡ text ++ f x → GainedPrefix mid new text'
        → GainedPrefix old new (flat_map f xs)
    sending-failed mid new text text' (sent, gained, lines) one more =
        let rest = flat_map f (drop (i + 1) xs) in
        let whole = ap (flat_map f) (sym (take-append-drop (i + 1) xs)) ∙ flat_map-append f (take (i + 1) xs) (drop (i + 1) xs) in
        gained-some old mid new sent text' (flat_map f xs) rest
        (whole ∙ (ap (λ bs. bs ++ rest) (next ∙ (ap (λ bs. bs ++ f x) lines ∙ (append_assoc sent text (f x) ∙ ap (λ bs. sent ++ bs) (sym one)))) ∙ append_assoc sent text' rest))
        gained more
