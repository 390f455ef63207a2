-- Nodes that store first do their parts: what they decide counts from the first thing of it that goes out, from their next decision, or
-- from their next opening, if the areas open as after it.
use Rattle.std.specs.Prelude.{◌≡◌, ℕ, ◌⊎◌, Bool, true, false, List, [], ◌∷◌, ◌++◌}
use Rattle.handler_trait.specs.Handling.{Meaning, Recovery}
use Rattle.node_histories.specs.Histories.{own, state_of}
use Rattle.node_histories.specs.Translations.{translated}
use Rattle.cluster_histories.specs.Alone.{DoTheirParts}
use Rattle.cluster_histories.specs.Deeds.{AllStoreFirst, Answered, Decided, Deed, Deeds, MayOpenAs, Opened, Said, after_deeds, noted_by, running_at_first}
use Rattle.cluster_histories.specs.Moves.{ComesTo, Keeps, Move, Moves, Sends, StartsAgain, Tells, counted_by, view_of}
use Rattle.lists.specs.Prefixes.{IsPrefix}

-- an opening as moves, where the list says of each opening of the node whether what was decided last is kept, and of those past its end
-- that it is not
abbrev pub at_opening : {I O M : Type 0} → List Bool → List Bool × List (Move I O M)
at_opening [] = ([], StartsAgain ∷ [])
at_opening (true ∷ later) = (later, Keeps ∷ StartsAgain ∷ [])
at_opening (false ∷ later) = (later, StartsAgain ∷ [])

module _ {I O M K : Type 0} where
  -- the moves that a deed is
  abbrev pub moves_of_one : ℕ → List Bool → Deed I O M K → List Bool × List (Move I O M)
  moves_of_one n choices (Decided event) = (choices, Keeps ∷ ComesTo event ∷ [])
  moves_of_one n choices (Said to c) = (choices, Keeps ∷ Sends to c ∷ [])
  moves_of_one n choices (Answered o) = (choices, Keeps ∷ Tells o ∷ [])
  moves_of_one n choices (Opened k) = at_opening choices

  abbrev pub moves_of : (ℕ → List Bool) → Deeds I O M K → Moves I O M
  moves_of choices deeds = translated moves_of_one choices deeds

module _ {S K I O M : Type 0} (m : Meaning S I O M) (r : Recovery S K) where
  -- this is what the node keeps by what counts, or by that and the event that it came to last
  abbrev pub MayBeKept : Moves I O M → ℕ → K → Type 0
  MayBeKept moves n k =
      (k ≡ r.keep (state_of m r (counted_by moves) n)) ⊎ (k ≡ r.keep (state_of m r (counted_by (moves ++ (n, Keeps) ∷ [])) n))

  -- whatever the node's areas may open as after these deeds of it
  abbrev pub MayOpenAfter : ℕ → List (Deed I O M K) → K → Type 0
  MayOpenAfter n deeds k = MayOpenAs m r (after_deeds m r n (running_at_first m r n) deeds) k

  -- what the nodes keep at their openings, by which their deeds are moves that do their parts, and clients note the same; and at each
  -- moment each node's areas open as what it keeps by what counts, or by that and one event more
  pub record AreMoves (deeds : Deeds I O M K) : Type 0 where
    pub choices : ℕ → List Bool
    pub parts : DoTheirParts m r (moves_of choices deeds)
    pub noted : view_of (moves_of choices deeds) ≡ noted_by deeds
    pub durable : (early : Deeds I O M K) → IsPrefix early deeds → (n : ℕ) (k : K) →
        MayOpenAfter n (own n early) k → MayBeKept (moves_of choices early) n k

abbrev pub DeedsAreMoves : Type 0 → Type 0 → Type 0 → Type 0 → Type 0 → Type 0
DeedsAreMoves S K I O M =
    (m : Meaning S I O M) (r : Recovery S K) (deeds : Deeds I O M K) → AllStoreFirst m r deeds → AreMoves m r deeds
