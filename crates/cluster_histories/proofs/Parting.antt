-- Nodes of which each does its part do together what they may.
use Rattle.std.proofs.Common.{◌≡◌, ◌≢◌, ℕ, ◌<◌, List, [], ◌∷◌, ◌++◌, map, cond, Option, Some, None, refl, sym, ap, ◌∙◌, subst, inl, inr}
use Rattle.std.proofs.lemmas.Bool.{cases_eq, eq-eqb, ne_eqb}
use Rattle.std.proofs.lemmas.List.{append-nil}
use Rattle.std.proofs.lemmas.List.Elements.{Contains-append_cases, Contains-append_left, Contains-append_right}
use Rattle.std.specs.Prelude.{Contains}
use Rattle.handler_trait.specs.Handling.{Meaning, Recovery}
use Rattle.net_semantics.proofs.Places.{put-elsewhere, put-there}
use Rattle.net_semantics.specs.Runs.{outputs_in}
use Rattle.net_semantics.specs.Worlds.{Packet, put, sent_by}
use Rattle.vst_base.specs.declared.step.Item.{Item}
use Rattle.vst_base.specs.declared.step.Item.TheVariants as item
use Rattle.node_histories.specs.Views.{HasOutput}
use Rattle.node_histories.proofs.Adding.{items_of-more, packets_of-more, state_of-more}
use Rattle.node_histories.proofs.Lists.{contains_none}
use Rattle.node_histories.proofs.Sending.{is_sent}
use Rattle.node_histories.specs.Histories.{Asked, AreAtNodes, Event, Fired, Happening, HasSent, Heard, History, Restarts, Takes, effect_after, effect_of, items_of, items_of_one, own, packet, packets_of, state_of}
use Rattle.cluster_histories.specs.Moves.{Move, Moves, AreAllowed, AreAllowed_since, ComesTo, Keeps, MayMove, Sends, SoFar, StartsAgain, Tells, after_move, after_moves, at_first, counted_by, kept, out_after}
use Rattle.cluster_histories.specs.Alone.{AllWentOut_since, Alone, DoTheirParts, DoesItsPart_from, HasGoneOut, MayMoveAlone, after_alone, alone_at_first, keeps, with_effect}

outputs_in-append : {I O : Type 0} (xs ys : List (Item I O)) → outputs_in (xs ++ ys) ≡ outputs_in xs ++ outputs_in ys
outputs_in-append [] ys = refl
outputs_in-append (item.Input n i ∷ xs) ys = outputs_in-append xs ys
outputs_in-append (item.Output n o ∷ xs) ys = ap (λ os. o ∷ os) (outputs_in-append xs ys)

outputs_in-outputs : (I : Type 0) {O : Type 0} (n : ℕ) (os : List O) → outputs_in {I = I} (map (λ o. item.Output n o) os) ≡ os
outputs_in-outputs I n [] = refl
outputs_in-outputs I n (o ∷ os) = ap (λ ps. o ∷ ps) (outputs_in-outputs I n os)

has_output_left : {I O : Type 0} (xs ys : List (Item I O)) (o : O) → HasOutput xs o → HasOutput (xs ++ ys) o
has_output_left xs ys o h = subst (λ os. Contains os o) (sym (outputs_in-append xs ys)) (Contains-append_left (outputs_in xs) (outputs_in ys) o h)

has_output_right : {I O : Type 0} (xs ys : List (Item I O)) (o : O) → HasOutput ys o → HasOutput (xs ++ ys) o
has_output_right xs ys o h = subst (λ os. Contains os o) (sym (outputs_in-append xs ys)) (Contains-append_right (outputs_in xs) (outputs_in ys) o h)

has_output_among : (I : Type 0) {O : Type 0} (n : ℕ) (os : List O) (o : O) → Contains os o → HasOutput {I = I} (map (λ p. item.Output n p) os) o
has_output_among I n os o h = subst (λ ps. Contains ps o) (sym (outputs_in-outputs I n os)) h

module _ {S K I O M : Type 0} (m : Meaning S I O M) (r : Recovery S K) where
  -- a node by itself is as it is among the others
  pub record Agrees (counted : History I M) (n : ℕ) (pending : Option (Event I M)) (x : Alone S I O M) : Type 0 where
    pub state : state_of m r counted n ≡ x.state
    pub comes_to : pending ≡ x.pending
    pub sends : (to : ℕ) (c : M) → Contains x.sends (to, c) → HasSent m r counted n to c
    pub outputs : (o : O) → Contains x.outputs o → HasOutput (items_of m r counted) o

  sent_still : (counted : History I M) (h : ℕ × Happening I M) (n to : ℕ) (c : M) → HasSent m r counted n to c → HasSent m r (counted ++ h ∷ []) n to c
  sent_still counted h n to c i = subst (λ ps. Contains ps (packet n to c)) (sym (packets_of-more m r counted h)) (Contains-append_left (packets_of m r counted) (sent_by h.0 (effect_after m r counted h).sends) (packet n to c) i)

  told_still : (counted : History I M) (h : ℕ × Happening I M) (o : O) → HasOutput (items_of m r counted) o → HasOutput (items_of m r (counted ++ h ∷ [])) o
  told_still counted h o i = subst (λ xs. HasOutput xs o) (sym (items_of-more m r counted h)) (has_output_left (items_of m r counted) (items_of_one m r counted h) o i)

  told_now : (counted : History I M) (n : ℕ) (h : Happening I M) (o : O) → Contains (effect_after m r counted (n, h)).outputs o → HasOutput (items_of_one m r counted (n, h)) o
  told_now counted n (Takes (Asked i)) o h = has_output_among I n (effect_after m r counted (n, Takes (Asked i))).outputs o h
  told_now counted n (Takes (Heard from c)) o h = has_output_among I n (effect_after m r counted (n, Takes (Heard from c))).outputs o h
  told_now counted n (Takes Fired) o h = has_output_among I n (effect_after m r counted (n, Takes Fired)).outputs o h
  told_now counted n Restarts o h = absurd (contains_none o h)

  -- one more counts at this node
  counts_here : (counted : History I M) (n : ℕ) (p : Option (Event I M)) (x : Alone S I O M) (h : Happening I M) → Agrees counted n p x
      → Agrees (counted ++ (n, h) ∷ []) n None (with_effect m r x (effect_of m r n x.state h))
  counts_here counted n p x h a =
      let same : effect_after m r counted (n, h) ≡ effect_of m r n x.state h = ap (λ s. effect_of m r n s h) a.state in
      record {
        state = state_of-more m r counted (n, h) n ∙ (put-there (state_of m r counted) n (effect_after m r counted (n, h)).state n refl ∙ ap (λ e. e.state) same);
        comes_to = refl;
        sends = λ to c i. elim (Contains-append_cases x.sends (effect_of m r n x.state h).sends (to, c) i) [
          | inl old ↦ sent_still counted (n, h) n to c (a.sends to c old)
          | inr new ↦ subst (λ ps. Contains ps (packet n to c)) (sym (packets_of-more m r counted (n, h)))
              (Contains-append_right (packets_of m r counted) (sent_by n (effect_after m r counted (n, h)).sends) (packet n to c)
              (is_sent n to c (effect_after m r counted (n, h)).sends (subst (λ e. Contains e.sends (to, c)) (sym same) new)))
        ];
        outputs = λ o i. elim (Contains-append_cases x.outputs (effect_of m r n x.state h).outputs o i) [
          | inl old ↦ told_still counted (n, h) o (a.outputs o old)
          | inr new ↦ subst (λ xs. HasOutput xs o) (sym (items_of-more m r counted (n, h)))
              (has_output_right (items_of m r counted) (items_of_one m r counted (n, h)) o (told_now counted n h o (subst (λ e. Contains e.outputs o) (sym same) new)))
        ];
      }

  -- and at another
  counts_there : (counted : History I M) (k n : ℕ) (p : Option (Event I M)) (x : Alone S I O M) (h : Happening I M) → k ≢ n → Agrees counted k p x → Agrees (counted ++ (n, h) ∷ []) k p x
  counts_there counted k n p x h other a = record {
    state = state_of-more m r counted (n, h) k ∙ (put-elsewhere (state_of m r counted) n (effect_after m r counted (n, h)).state k other ∙ a.state);
    comes_to = a.comes_to;
    sends = λ to c i. sent_still counted (n, h) k to c (a.sends to c i);
    outputs = λ o i. told_still counted (n, h) o (a.outputs o i);
  }

  agrees_by : (counted : History I M) (n : ℕ) (p q : Option (Event I M)) (x : Alone S I O M) → q ≡ p → Agrees counted n p x → Agrees counted n q x
  agrees_by counted n p q x e a = record { state = a.state; comes_to = e ∙ a.comes_to; sends = a.sends; outputs = a.outputs }

  keeps_here : (counted : History I M) (n : ℕ) (p : Option (Event I M)) (x : Alone S I O M) (o : Option (Event I M)) → p ≡ o → Agrees counted n p x
      → Agrees (counted ++ kept n o) n None (keeps m r n x o)
  keeps_here counted n p x None e a = subst (λ hs. Agrees hs n None (keeps m r n x None)) (sym (append-nil counted)) (record { state = a.state; comes_to = refl; sends = a.sends; outputs = a.outputs })
  keeps_here counted n p x (Some event) e a = counts_here counted n p x (Takes event) a

  keeps_there : (counted : History I M) (k n : ℕ) (p : Option (Event I M)) (x : Alone S I O M) (o : Option (Event I M)) → k ≢ n → Agrees counted k p x → Agrees (counted ++ kept n o) k p x
  keeps_there counted k n p x None other a = subst (λ hs. Agrees hs k p x) (sym (append-nil counted)) a
  keeps_there counted k n p x (Some event) other a = counts_there counted k n p x (Takes event) other a

  moves_here : (s : SoFar I M) (n : ℕ) (x : Alone S I O M) (a : Move I O M) → Agrees s.counted n (s.pending n) x → Agrees (after_move s n a).counted n ((after_move s n a).pending n) (after_alone m r n x a)
  moves_here s n x (ComesTo event) g = record { state = g.state; comes_to = put-there s.pending n (Some event) n refl; sends = g.sends; outputs = g.outputs }
  moves_here s n x Keeps g =
      let is : s.pending n ≡ x.pending = g.comes_to in
      agrees_by (s.counted ++ kept n (s.pending n)) n None (put s.pending n None n) (keeps m r n x x.pending) (put-there s.pending n None n refl)
      (subst (λ o. Agrees (s.counted ++ kept n o) n None (keeps m r n x x.pending)) (sym is) (keeps_here s.counted n (s.pending n) x x.pending is g))
  moves_here s n x StartsAgain g =
      agrees_by (s.counted ++ (n, Restarts) ∷ []) n None (put s.pending n None n) _ (put-there s.pending n None n refl) (counts_here s.counted n (s.pending n) x Restarts g)
  moves_here s n x (Sends to c) g = g
  moves_here s n x (Tells o) g = g

  moves_there : (s : SoFar I M) (k n : ℕ) (x : Alone S I O M) (a : Move I O M) → k ≢ n → Agrees s.counted k (s.pending k) x → Agrees (after_move s n a).counted k ((after_move s n a).pending k) x
  moves_there s k n x (ComesTo event) other g = agrees_by s.counted k (s.pending k) (put s.pending n (Some event) k) x (put-elsewhere s.pending n (Some event) k other) g
  moves_there s k n x Keeps other g =
      agrees_by (s.counted ++ kept n (s.pending n)) k (s.pending k) (put s.pending n None k) x (put-elsewhere s.pending n None k other) (keeps_there s.counted k n (s.pending k) x (s.pending n) other g)
  moves_there s k n x StartsAgain other g =
      agrees_by (s.counted ++ (n, Restarts) ∷ []) k (s.pending k) (put s.pending n None k) x (put-elsewhere s.pending n None k other) (counts_there s.counted k n (s.pending k) x Restarts other g)
  moves_there s k n x (Sends to c) other g = g
  moves_there s k n x (Tells o) other g = g

  may_move : (s : SoFar I M) (out : List (Packet M)) (n : ℕ) (x : Alone S I O M) (a : Move I O M) → Agrees s.counted n (s.pending n) x → MayMoveAlone m r n x a → HasGoneOut out n a → MayMove m r s out n a
  may_move s out n x (ComesTo event) g may went = (may, went)
  may_move s out n x Keeps g may went = tt
  may_move s out n x StartsAgain g may went = tt
  may_move s out n x (Sends to c) g may went = g.sends to c may
  may_move s out n x (Tells o) g may went = g.outputs o may

  -- the nodes by themselves, after one of them moves
  abbrev next_alone : (ℕ → Alone S I O M) → ℕ → Move I O M → ℕ → Alone S I O M
  next_alone xs n a = put xs n (after_alone m r n (xs n) a)

  agree_next : (s : SoFar I M) (xs : ℕ → Alone S I O M) (n : ℕ) (a : Move I O M) → ((k : ℕ) → Agrees s.counted k (s.pending k) (xs k))
      → (k : ℕ) → Agrees (after_move s n a).counted k ((after_move s n a).pending k) (next_alone xs n a k)
  agree_next s xs n a all k = elim (cases_eq k n) [
    | inl same ↦ subst (λ j. Agrees (after_move s n a).counted j ((after_move s n a).pending j) (next_alone xs n a j)) (sym same)
        (subst (Agrees (after_move s n a).counted n ((after_move s n a).pending n)) (sym (put-there xs n (after_alone m r n (xs n) a) n refl)) (moves_here s n (xs n) a (all n)))
    | inr other ↦ subst (Agrees (after_move s n a).counted k ((after_move s n a).pending k)) (sym (put-elsewhere xs n (after_alone m r n (xs n) a) k other)) (moves_there s k n (xs k) a other (all k))
  ]

  -- a node by itself, after several moves of it
  abbrev pub after_all : ℕ → Alone S I O M → List (Move I O M) → Alone S I O M
  after_all n x [] = x
  after_all n x (a ∷ moves) = after_all n (after_alone m r n x a) moves

  after_next : (xs : ℕ → Alone S I O M) (a : ℕ × Move I O M) (moves : Moves I O M) (k : ℕ)
      → after_all k (next_alone xs a.0 a.1 k) (own k moves) ≡ after_all k (xs k) (own k (a ∷ moves))
  after_next xs a moves k = elim (cases_eq k a.0) [
    | inl same ↦ ap (λ x. after_all k x (own k moves)) (put-there xs a.0 (after_alone m r a.0 (xs a.0) a.1) k same ∙ ap (λ j. after_alone m r j (xs j) a.1) (sym same))
        ∙ ap (λ b. after_all k (xs k) (cond b (a.1 ∷ own k moves) (own k moves))) (sym (eq-eqb k a.0 same))
    | inr other ↦ ap (λ x. after_all k x (own k moves)) (put-elsewhere xs a.0 (after_alone m r a.0 (xs a.0) a.1) k other)
        ∙ ap (λ b. after_all k (xs k) (cond b (a.1 ∷ own k moves) (own k moves))) (sym (ne_eqb k a.0 other))
  ]

  agree_after : (s : SoFar I M) (xs : ℕ → Alone S I O M) (moves : Moves I O M) → ((k : ℕ) → Agrees s.counted k (s.pending k) (xs k))
      → (k : ℕ) → Agrees (after_moves s moves).counted k ((after_moves s moves).pending k) (after_all k (xs k) (own k moves))
  agree_after s xs [] all k = all k
  agree_after s xs (a ∷ moves) all k =
      subst (Agrees (after_moves (after_move s a.0 a.1) moves).counted k ((after_moves (after_move s a.0 a.1) moves).pending k)) (after_next xs a moves k)
      (agree_after (after_move s a.0 a.1) (next_alone xs a.0 a.1) moves (agree_next s xs a.0 a.1 all) k)

  part_here : (x : Alone S I O M) (a : ℕ × Move I O M) (moves : Moves I O M) (k : ℕ) → k ≡ a.0 → DoesItsPart_from m r k x (own k (a ∷ moves)) → DoesItsPart_from m r k x (a.1 ∷ own k moves)
  part_here x a moves k same d = subst (λ b. DoesItsPart_from m r k x (cond b (a.1 ∷ own k moves) (own k moves))) (eq-eqb k a.0 same) d

  part_there : (x : Alone S I O M) (a : ℕ × Move I O M) (moves : Moves I O M) (k : ℕ) → k ≢ a.0 → DoesItsPart_from m r k x (own k (a ∷ moves)) → DoesItsPart_from m r k x (own k moves)
  part_there x a moves k other d = subst (λ b. DoesItsPart_from m r k x (cond b (a.1 ∷ own k moves) (own k moves))) (ne_eqb k a.0 other) d

  parts_next : (xs : ℕ → Alone S I O M) (a : ℕ × Move I O M) (moves : Moves I O M) → ((k : ℕ) → k < m.nodes → DoesItsPart_from m r k (xs k) (own k (a ∷ moves)))
      → (k : ℕ) → k < m.nodes → DoesItsPart_from m r k (next_alone xs a.0 a.1 k) (own k moves)
  parts_next xs a moves each k below = elim (cases_eq k a.0) [
    | inl same ↦ (let d : DoesItsPart_from m r k (xs k) (a.1 ∷ own k moves) = part_here (xs k) a moves k same (each k below) in
        let is : after_alone m r k (xs k) a.1 ≡ next_alone xs a.0 a.1 k = ap (λ j. after_alone m r j (xs j) a.1) same ∙ sym (put-there xs a.0 (after_alone m r a.0 (xs a.0) a.1) k same) in
        subst (λ x. DoesItsPart_from m r k x (own k moves)) is d.1)
    | inr other ↦ subst (λ x. DoesItsPart_from m r k x (own k moves)) (sym (put-elsewhere xs a.0 (after_alone m r a.0 (xs a.0) a.1) k other)) (part_there (xs k) a moves k other (each k below))
  ]

  together : (s : SoFar I M) (out : List (Packet M)) (xs : ℕ → Alone S I O M) (moves : Moves I O M) → ((k : ℕ) → Agrees s.counted k (s.pending k) (xs k)) → AreAtNodes m.nodes moves
      → ((k : ℕ) → k < m.nodes → DoesItsPart_from m r k (xs k) (own k moves)) → AllWentOut_since out moves → AreAllowed_since m r s out moves
  together s out xs [] all at_nodes each went = tt
  together s out xs (a ∷ moves) all at_nodes each went =
      let d : DoesItsPart_from m r a.0 (xs a.0) (a.1 ∷ own a.0 moves) = part_here (xs a.0) a moves a.0 refl (each a.0 at_nodes.0) in (
        at_nodes.0,
        may_move s out a.0 (xs a.0) a.1 (all a.0) d.0 went.0,
        together (after_move s a.0 a.1) (out_after out a.0 a.1) (next_alone xs a.0 a.1) moves (agree_next s xs a.0 a.1 all) at_nodes.1 (parts_next xs a moves each) went.1,
      )

  agree_first : (k : ℕ) → Agrees [] k None (alone_at_first m r k)
  agree_first k = record { state = refl; comes_to = refl; sends = λ to c i. absurd (contains_none (to, c) i); outputs = λ o i. absurd (contains_none o i) }

  -- each node is as it is by itself, by what counts, and if it keeps what it came to last
  pub by_what_counts : (moves : Moves I O M) (n : ℕ) → state_of m r (counted_by moves) n ≡ (after_all n (alone_at_first m r n) (own n moves)).state
  by_what_counts moves n = (agree_after at_first (alone_at_first m r) moves agree_first n).state

  after_one_more : (s : SoFar I M) (moves : Moves I O M) (a : ℕ × Move I O M) → after_moves s (moves ++ a ∷ []) ≡ after_move (after_moves s moves) a.0 a.1
  after_one_more s [] a = refl
  after_one_more s (b ∷ moves) a = after_one_more (after_move s b.0 b.1) moves a

  pub by_what_it_keeps : (moves : Moves I O M) (n : ℕ) → let x = after_all n (alone_at_first m r n) (own n moves) in state_of m r (counted_by (moves ++ (n, Keeps) ∷ [])) n ≡ (keeps m r n x x.pending).state
  by_what_it_keeps moves n =
      let s : SoFar I M = after_moves at_first moves in
      let x : Alone S I O M = after_all n (alone_at_first m r n) (own n moves) in
      let g : Agrees s.counted n (s.pending n) x = agree_after at_first (alone_at_first m r) moves agree_first n in
      ap (λ t. state_of m r t.counted n) (after_one_more at_first moves (n, Keeps)) ∙ (moves_here s n x Keeps g).state

  pub parts_are_allowed : (moves : Moves I O M) → DoTheirParts m r moves → AreAllowed m r moves
  parts_are_allowed moves p = together at_first [] (alone_at_first m r) moves agree_first p.at_nodes p.each p.not_forged
