-- What holds at each moment of what counts, of what each node has come to, and of what clients note.
use Rattle.std.proofs.Common.{◌≡◌, ℕ, ◌<◌, List, [], ◌∷◌, ◌++◌, map, Option, Some, None, refl, sym, ◌∙◌, subst, append_assoc, inl, inr}
use Rattle.std.proofs.lemmas.Bool.{cases_eq}
use Rattle.std.proofs.lemmas.List.{append-nil}
use Rattle.std.proofs.lemmas.List.Elements.{Contains-append_left}
use Rattle.std.specs.Prelude.{Contains}
use Rattle.handler_trait.specs.Handling.{Meaning, Recovery}
use Rattle.linearizability.specs.Linearizable.{HasInput, Seen}
use Rattle.net_semantics.proofs.Places.{put-elsewhere, put-there}
use Rattle.net_semantics.specs.Steps.{input_item}
use Rattle.net_semantics.specs.Worlds.{Packet, put, sent_by}
use Rattle.raft_types.specs.declared.client.RaftInput.{RaftInput}
use Rattle.raft_types.specs.declared.client.RaftOut.{RaftOut}
use Rattle.raft_types.specs.declared.client.RaftOut.TheVariants as told
use Rattle.vst_base.specs.declared.step.Item.TheVariants as item
use Rattle.node_histories.proofs.Adding.{items_of-more, not_forged_more, packets_of-more}
use Rattle.node_histories.proofs.Growing.{grow_seen, grow_view, has_input_left}
use Rattle.node_histories.proofs.Lists.{contains_cases, each_both}
use Rattle.node_histories.specs.Histories.{Asked, Event, Fired, Happening, Heard, History, MayBeAt, MayHappen, MayTake, Restarts, Takes, WasSent, effect_after, input_of, items_of, items_of_one, packet, packets_of}
use Rattle.node_histories.specs.Views.{AreAsked, AreGiven, HasOutput, IsGiven, HasView}
use Rattle.cluster_histories.specs.MoveLaws.{ClientMoves}
use Rattle.cluster_histories.specs.Moves.{AreAllowed_since, ComesTo, Keeps, MayMove, Move, Sends, SoFar, StartsAgain, Tells, WentOut, after_move, after_moves, kept, out_after, shows, view_of}

-- clients noted the input that the node came to
abbrev IsNoted : {C O M : Type 0} → Seen C O → Event (RaftInput C) M → Type 0
IsNoted view (Asked i) = HasInput view i
IsNoted view (Heard from c) = Unit {0}
IsNoted view Fired = Unit {0}

noted_more : {C O M : Type 0} (view more : Seen C O) (event : Event (RaftInput C) M) → IsNoted view event → IsNoted (view ++ more) event
noted_more view more (Asked i) n = has_input_left view more i n
noted_more view more (Heard from c) n = tt
noted_more view more Fired n = tt

has_input_last : {C O : Type 0} (view : Seen C O) (n : ℕ) (i : RaftInput C) → HasInput (view ++ item.Input n i ∷ []) i
has_input_last [] n i = inl refl
has_input_last (item.Input k j ∷ view) n i = inr (has_input_last view n i)
has_input_last (item.Output k o ∷ view) n i = has_input_last view n i

noted_now : {C O M : Type 0} (view : Seen C O) (n : ℕ) (event : Event (RaftInput C) M) → IsNoted (view ++ input_item n (input_of event)) event
noted_now view n (Asked i) = has_input_last view n i
noted_now view n (Heard from c) = tt
noted_now view n Fired = tt

nothing_given : {C O M : Type 0} (seen : Seen C O) (n : ℕ) (event : Event (RaftInput C) M) → AreGiven (input_item n (input_of event)) seen
nothing_given seen n (Asked i) = tt
nothing_given seen n (Heard from c) = tt
nothing_given seen n Fired = tt

outputs_asked : {C O : Type 0} (view : Seen C O) (n : ℕ) (os : List (RaftOut O)) → AreAsked (map (λ o. item.Output n o) os) view
outputs_asked view n [] = tt
outputs_asked view n (o ∷ os) = outputs_asked view n os

given_if : {C O : Type 0} (seen : Seen C O) (o : RaftOut O) → HasOutput seen o → IsGiven o seen
given_if seen (told.Reply client request output) h = h
given_if seen (told.NotLeader client request) h = tt
given_if seen (told.Full client request) h = tt

module _ {S K C O M : Type 0} (m : Meaning S (RaftInput C) (RaftOut O) M) (r : Recovery S K) where
  -- a node came to this, and it may count
  pub record IsPending (counted : History (RaftInput C) M) (view : Seen C O) (n : ℕ) (event : Event (RaftInput C) M) : Type 0 where
    pub below : n < m.nodes
    pub may : MayTake m n event
    pub sent : WasSent m r counted n (Takes event)
    pub noted : IsNoted view event

  -- a happening that may count now
  record MayCount (counted : History (RaftInput C) M) (view : Seen C O) (n : ℕ) (h : Happening (RaftInput C) M) : Type 0 where
    below : n < m.nodes
    may : MayBeAt m n h
    sent : WasSent m r counted n h
    asked : AreAsked (items_of_one m r counted (n, h)) view

  pub record Holds (s : SoFar (RaftInput C) M) (out : List (Packet M)) (view : Seen C O) : Type 0 where
    pub may : MayHappen m r s.counted
    pub pending : (n : ℕ) (event : Event (RaftInput C) M) → s.pending n ≡ Some event → IsPending s.counted view n event
    pub went_out : (p : Packet M) → Contains out p → Contains (packets_of m r s.counted) p
    pub shows : HasView (items_of m r s.counted) view

  sent_more : (counted : History (RaftInput C) M) (x : ℕ × Happening (RaftInput C) M) (p : Packet M) → Contains (packets_of m r counted) p → Contains (packets_of m r (counted ++ x ∷ [])) p
  sent_more counted x p h = subst (λ ps. Contains ps p) (sym (packets_of-more m r counted x)) (Contains-append_left (packets_of m r counted) (sent_by x.0 (effect_after m r counted x).sends) p h)

  was_sent_more : (counted : History (RaftInput C) M) (x : ℕ × Happening (RaftInput C) M) (n : ℕ) (h : Happening (RaftInput C) M) → WasSent m r counted n h → WasSent m r (counted ++ x ∷ []) n h
  was_sent_more counted x n (Takes (Asked i)) h = tt
  was_sent_more counted x n (Takes (Heard from c)) h = sent_more counted x (packet from n c) h
  was_sent_more counted x n (Takes Fired) h = tt
  was_sent_more counted x n Restarts h = tt

  item_asked : (counted : History (RaftInput C) M) (view : Seen C O) (n : ℕ) (event : Event (RaftInput C) M) → IsNoted view event → AreAsked (items_of_one m r counted (n, Takes event)) view
  item_asked counted view n (Asked i) noted = (noted, outputs_asked view n (effect_after m r counted (n, Takes (Asked i))).outputs)
  item_asked counted view n (Heard from c) noted = outputs_asked view n (effect_after m r counted (n, Takes (Heard from c))).outputs
  item_asked counted view n Fired noted = outputs_asked view n (effect_after m r counted (n, Takes Fired)).outputs

  counts_now : (counted : History (RaftInput C) M) (view : Seen C O) (n : ℕ) (event : Event (RaftInput C) M) → IsPending counted view n event → MayCount counted view n (Takes event)
  counts_now counted view n event p = record { below = p.below; may = p.may; sent = p.sent; asked = item_asked counted view n event p.noted }

  -- one more counts, and its node has come to nothing else
  counts : (s : SoFar (RaftInput C) M) (out : List (Packet M)) (view : Seen C O) (n : ℕ) (h : Happening (RaftInput C) M) → Holds s out view → MayCount s.counted view n h
      → Holds (record { counted = s.counted ++ (n, h) ∷ []; pending = put s.pending n None }) out view
  counts s out view n h all p = record {
    may = record {
      at_nodes = each_both (λ (x : ℕ × Happening (RaftInput C) M). x.0 < m.nodes) s.counted ((n, h) ∷ []) all.may.at_nodes (p.below, tt);
      taken = each_both (λ (x : ℕ × Happening (RaftInput C) M). MayBeAt m x.0 x.1) s.counted ((n, h) ∷ []) all.may.taken (p.may, tt);
      nothing_forged = not_forged_more m r [] s.counted n h all.may.nothing_forged p.sent;
    };
    pending = λ k x e. elim (cases_eq k n) [
      | inl same ↦ (let none : put s.pending n None k ≡ None = put-there s.pending n None k same in absurd (cc))
      | inr other ↦ (let stays : put s.pending n None k ≡ s.pending k = put-elsewhere s.pending n None k other in
          let was : IsPending s.counted view k x = all.pending k x (sym stays ∙ e) in
          record { below = was.below; may = was.may; sent = was_sent_more s.counted (n, h) k (Takes x) was.sent; noted = was.noted })
    ];
    went_out = λ q i. sent_more s.counted (n, h) q (all.went_out q i);
    shows = subst (λ xs. HasView xs view) (sym (items_of-more m r s.counted (n, h))) (grow_seen (items_of m r s.counted) (items_of_one m r s.counted (n, h)) view all.shows p.asked);
  }

  was_sent : (s : SoFar (RaftInput C) M) (out : List (Packet M)) (view : Seen C O) (n : ℕ) (event : Event (RaftInput C) M) → Holds s out view → WentOut out n event → WasSent m r s.counted n (Takes event)
  was_sent s out view n (Asked i) all went = tt
  was_sent s out view n (Heard from c) all went = all.went_out (packet from n c) went
  was_sent s out view n Fired all went = tt

  pending_more : (counted : History (RaftInput C) M) (view more : Seen C O) (n : ℕ) (event : Event (RaftInput C) M) → IsPending counted view n event → IsPending counted (view ++ more) n event
  pending_more counted view more n event p = record { below = p.below; may = p.may; sent = p.sent; noted = noted_more view more event p.noted }

  keeps : (s : SoFar (RaftInput C) M) (out : List (Packet M)) (view : Seen C O) (n : ℕ) (o : Option (Event (RaftInput C) M)) → s.pending n ≡ o → Holds s out view
      → Holds (record { counted = s.counted ++ kept n o; pending = put s.pending n None }) out view
  keeps s out view n None e all = subst (λ hs. Holds (record { counted = hs; pending = put s.pending n None }) out view) (sym (append-nil s.counted)) (record {
    may = all.may;
    pending = λ k x g. elim (cases_eq k n) [
      | inl same ↦ (let none : put s.pending n None k ≡ None = put-there s.pending n None k same in absurd (cc))
      | inr other ↦ all.pending k x (sym (put-elsewhere s.pending n None k other) ∙ g)
    ];
    went_out = all.went_out;
    shows = all.shows;
  })
  keeps s out view n (Some event) e all = counts s out view n (Takes event) all (counts_now s.counted view n event (all.pending n event e))

  comes_to : (s : SoFar (RaftInput C) M) (out : List (Packet M)) (view : Seen C O) (n : ℕ) (event : Event (RaftInput C) M) → n < m.nodes → MayMove m r s out n (ComesTo event) → Holds s out view
      → Holds (record { counted = s.counted; pending = put s.pending n (Some event) }) out (view ++ input_item n (input_of event))
  comes_to s out view n event below may all = record {
    may = all.may;
    pending = λ k x e. elim (cases_eq k n) [
      | inl same ↦ (let there : put s.pending n (Some event) k ≡ Some event = put-there s.pending n (Some event) k same in
          let is : event ≡ x = cc in
          subst (λ y. IsPending s.counted (view ++ input_item n (input_of event)) k y) is (subst (λ j. IsPending s.counted (view ++ input_item n (input_of event)) j event) (sym same)
          (record { below = below; may = may.0; sent = was_sent s out view n event all may.1; noted = noted_now view n event })))
      | inr other ↦ pending_more s.counted view (input_item n (input_of event)) k x (all.pending k x (sym (put-elsewhere s.pending n (Some event) k other) ∙ e))
    ];
    went_out = all.went_out;
    shows = grow_view (items_of m r s.counted) view (input_item n (input_of event)) all.shows (nothing_given (items_of m r s.counted) n event);
  }

  -- what holds, holds after one more move
  moves : (s : SoFar (RaftInput C) M) (out : List (Packet M)) (view : Seen C O) (n : ℕ) (a : Move (RaftInput C) (RaftOut O) M) → n < m.nodes → MayMove m r s out n a → Holds s out view
      → Holds (after_move s n a) (out_after out n a) (view ++ shows n a)
  moves s out view n (ComesTo event) below may all = comes_to s out view n event below may all
  moves s out view n Keeps below may all = subst (Holds (record { counted = s.counted ++ kept n (s.pending n); pending = put s.pending n None }) out) (sym (append-nil view)) (keeps s out view n (s.pending n) refl all)
  moves s out view n StartsAgain below may all = subst (Holds (record { counted = s.counted ++ (n, Restarts) ∷ []; pending = put s.pending n None }) out) (sym (append-nil view)) (counts s out view n Restarts all (record { below = below; may = tt; sent = tt; asked = tt }))
  moves s out view n (Sends to c) below may all = subst (Holds s (packet n to c ∷ out)) (sym (append-nil view)) (record {
    may = all.may;
    pending = all.pending;
    went_out = λ p i. elim (contains_cases (packet n to c) out p i) [ inl e ↦ subst (Contains (packets_of m r s.counted)) e may | inr h ↦ all.went_out p h ];
    shows = all.shows;
  })
  moves s out view n (Tells o) below may all = record {
    may = all.may;
    pending = λ k x e. pending_more s.counted view (item.Output n o ∷ []) k x (all.pending k x e);
    went_out = all.went_out;
    shows = grow_view (items_of m r s.counted) view (item.Output n o ∷ []) all.shows (given_if (items_of m r s.counted) o may, tt);
  }

  -- and after several
  pub all_moves : (s : SoFar (RaftInput C) M) (out : List (Packet M)) (view : Seen C O) (xs : ClientMoves C O M) → AreAllowed_since m r s out xs → Holds s out view
      → (rest : List (Packet M)) × Holds (after_moves s xs) rest (view ++ view_of xs)
  all_moves s out view [] may all = (out, subst (Holds s out) (sym (append-nil view)) all)
  all_moves s out view (a ∷ xs) may all =
      let rest : (rest : List (Packet M)) × Holds (after_moves s (a ∷ xs)) rest ((view ++ shows a.0 a.1) ++ view_of xs) =
      all_moves (after_move s a.0 a.1) (out_after out a.0 a.1) (view ++ shows a.0 a.1) xs may.2 (moves s out view a.0 a.1 may.0 may.1 all) in
      (rest.0, subst (Holds (after_moves s (a ∷ xs)) rest.0) (append_assoc view (shows a.0 a.1) (view_of xs)) rest.1)
