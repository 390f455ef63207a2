-- The places of executed requests, found in one walk.
use Rattle.std.proofs.Common.{◌≡◌, ℕ, ◌+◌, ◌<◌, Bool, true, false, cond, List, [], ◌∷◌, ◌++◌, length, map, take, drop, get_or, Option, None, Some, refl, ap, sym, ◌∙◌, subst}
use Rattle.std.proofs.lemmas.List.{append_assoc, append-nil, take_more, drop_more}
use Rattle.std.proofs.lemmas.List.Elements.{filter_map-append}
use Rattle.std.specs.FinMap.{get, insert}
use Rattle.std.specs.List.{cons_option, enumerate_from}
use Rattle.std.specs.Option.{option_to_list}
use Rattle.vst_base.specs.declared.entry.Entry.{Entry}
use Rattle.raft_clients.proofs.Known.{Knows, knows_kept, knows_passed, session_of}
use Rattle.raft_clients.specs.Executed.{executed_after, executed_places, is_executed, request_of, requests}
use Rattle.raft_clients.specs.Sessions.{Sessions, is_new}
use Rattle.raft_types.specs.declared.client.RaftInput.{RaftInput}

-- the places in entries from a place on, after these requests
abbrev pub places_from : {C : Type 0} → List (RaftInput C) → ℕ → List (Entry C) → List ℕ
places_from earlier n es = map (λ p. p.0) (executed_after (λ p. request_of p.1) earlier (enumerate_from n es))

-- the places among the first i entries, and the sessions that tell which of the others are new
pub record Found {C O : Type 0} (entries : List (Entry C)) (i : ℕ) (places : List ℕ) (sessions : Sessions O) : Type 0 where
  pub so_far : places ++ places_from (requests (take i entries)) i (drop i entries) ≡ executed_places entries
  pub knows : Knows sessions (requests (take i entries))

module _ {C O : Type 0} (entries : List (Entry C)) (i : ℕ) (e : Entry C) (places : List ℕ) (sessions : Sessions O) (within : i < length entries) (is : e ≡ get_or entries i e)
    (found : Found entries i places sessions) where
  -- the requests up to the entry
  requests_up_to : (o : Option (RaftInput C)) → request_of e ≡ o → requests (take (i + 1) entries) ≡ requests (take i entries) ++ option_to_list o
  requests_up_to o by =
      ap requests (take_more entries i e within ∙ ap (λ d. take i entries ++ d ∷ []) (sym is)) ∙ (filter_map-append request_of (take i entries) (e ∷ []) ∙ ap (λ rs. requests (take i entries) ++ rs) (alone o by))
    where
      alone : (o : Option (RaftInput C)) → request_of e ≡ o → cons_option (request_of e) [] ≡ option_to_list o
      alone None by = ap (λ o. cons_option o []) by
      alone (Some r) by = ap (λ o. cons_option o []) by

  -- what is owed from the entry on
  owed : (o : Option (RaftInput C)) → request_of e ≡ o → (b : Bool) → is_executed (requests (take i entries)) o ≡ b →
      places ++ cond b (i ∷ places_from (requests (take (i + 1) entries)) (i + 1) (drop (i + 1) entries)) (places_from (requests (take (i + 1) entries)) (i + 1) (drop (i + 1) entries)) ≡ executed_places entries
  owed o by b t = go (sym (ap (λ es. places ++ places_from (requests (take i entries)) i es) here) ∙ found.so_far)
    where
      here : drop i entries ≡ e ∷ drop (i + 1) entries
      here = drop_more entries i e within ∙ ap (λ d. d ∷ drop (i + 1) entries) (sym is)

      go : places ++ places_from (requests (take i entries)) i (e ∷ drop (i + 1) entries) ≡ executed_places entries →
          places ++ cond b (i ∷ places_from (requests (take (i + 1) entries)) (i + 1) (drop (i + 1) entries)) (places_from (requests (take (i + 1) entries)) (i + 1) (drop (i + 1) entries)) ≡ executed_places entries
      go all = rw (requests_up_to o by) (by_test b t (rw by at all))
        where
          by_test : (b : Bool) → is_executed (requests (take i entries)) o ≡ b →
              places ++ map (λ p. p.0) (cond (is_executed (requests (take i entries)) o) ((i, e) ∷ executed_after (λ p. request_of p.1) (requests (take i entries) ++ option_to_list o) (enumerate_from (i + 1) (drop (i + 1) entries)))
              (executed_after (λ p. request_of p.1) (requests (take i entries) ++ option_to_list o) (enumerate_from (i + 1) (drop (i + 1) entries)))) ≡ executed_places entries →
              places ++ cond b (i ∷ places_from (requests (take i entries) ++ option_to_list o) (i + 1) (drop (i + 1) entries)) (places_from (requests (take i entries) ++ option_to_list o) (i + 1) (drop (i + 1) entries)) ≡ executed_places entries
          by_test true t all = rw t at all
          by_test false t all = rw t at all

  pub found_noop : request_of e ≡ None → Found entries (i + 1) places sessions
  found_noop by = record {
    so_far = owed None by false refl;
    knows = subst (λ earlier. Knows sessions earlier) (sym (requests_up_to None by ∙ append-nil _)) found.knows;
  }

  pub found_kept : (r : RaftInput C) (output : O) → request_of e ≡ Some r → is_new (get sessions r.client) r.request ≡ true →
      Found entries (i + 1) (places ++ i ∷ []) (insert sessions r.client (session_of r output))
  found_kept r output by new = record {
    so_far = append_assoc places (i ∷ []) _ ∙ owed (Some r) by true (found.knows.tells r.client r.request ∙ new);
    knows = subst (λ earlier. Knows (insert sessions r.client (session_of r output)) earlier) (sym (requests_up_to (Some r) by)) (knows_kept sessions (requests (take i entries)) r found.knows output new);
  }

  pub found_passed : (r : RaftInput C) → request_of e ≡ Some r → is_new (get sessions r.client) r.request ≡ false → Found entries (i + 1) places sessions
  found_passed r by old = record {
    so_far = owed (Some r) by false (found.knows.tells r.client r.request ∙ old);
    knows = subst (λ earlier. Knows sessions earlier) (sym (requests_up_to (Some r) by)) (knows_passed sessions (requests (take i entries)) r found.knows old);
  }
