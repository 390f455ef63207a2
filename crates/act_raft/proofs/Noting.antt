-- What clients note at the moments of single acts is a view of the turns that count: an input is noted when its turn begins, and an output
-- when it is sent, after its turn was listed.
use Rattle.std.proofs.Common.{◌≡◌, ◌≢◌, ℕ, zero, suc, Bool, true, false, drop, List, [], ◌∷◌, ◌++◌, map, length, Option, Some, None, slice_get, refl, sym, ap, ◌∙◌, subst, inl, inr, append_assoc}
use Rattle.std.proofs.lemmas.Bool.Decides.{eqb_tells}
use Rattle.std.proofs.lemmas.List.{append-nil}
use Rattle.std.proofs.lemmas.Option.{same_Some}
use Rattle.std.specs.Prelude.{cond}
use Rattle.handler_trait.specs.Handling.{Effect, Meaning, Recovery}
use Rattle.lists.specs.Each.{each_weaker}
use Rattle.lists.specs.Places.{slice_get_front, slice_get_seam}
use Rattle.net_semantics.specs.Runs.{outputs_in}
use Rattle.net_semantics.specs.Steps.{input_item}
use Rattle.net_semantics.specs.Worlds.{change_at, one_less}
use Rattle.net_semantics.proofs.Places.{change_at-elsewhere, change_at-there}
use Rattle.linearizability.specs.Linearizable.{HasInput, Seen}
use Rattle.node_histories.proofs.Growing.{has_input_left, seen_goes_on, view_goes_on}
use Rattle.node_histories.proofs.Lists.{contains_here, contains_later}
use Rattle.node_histories.proofs.Showing.{shows_itself}
use Rattle.node_histories.specs.Views.{AreAsked, AreGiven, HasOutput, HasView, inputs_in}
use Rattle.raft_types.specs.declared.client.RaftInput.{RaftInput}
use Rattle.raft_types.specs.declared.client.RaftOut.{RaftOut}
use Rattle.vst_base.specs.declared.step.Item.{Item}
use Rattle.vst_base.specs.declared.step.Item.TheVariants as item
use Rattle.act_network.specs.declared.step.ActStep.{ActStep}
use Rattle.act_network.specs.declared.step.ActStep.TheVariants as act
use Rattle.act_network.specs.Disks.{Disks, opens_new}
use Rattle.act_network.specs.ActWorlds.{ActWorld, Came, Cause, Fired, Flying, Input, Listed, Turn, first_act_world, input_of}
use Rattle.act_network.specs.Listing.{items_with, moved, whole}
use Rattle.act_network.specs.ActRuns.{acts_from, acts_run}
use Rattle.act_network.specs.ActSteps.{act_next, acted, acts_on, begun_with, changed_copies, copied, counting, counts, cut_in, cut_off, delivered, going, listing, lost, restarted, started_as, stopped, with_flying, with_listed, with_turn}
use Rattle.act_network.specs.Noting.{noted, noted_at, noted_from, noted_in, noted_next}
use Rattle.act_network.proofs.Items.{whole-append, whole-moved}
use Rattle.act_raft.proofs.Fewer.{given_by, last_input}

-- some turn's items
module _ {I O : Type 0} where
  -- outputs are no inputs
  outputs_ask : (n : ℕ) (os : List O) (view : List (Item I O)) → AreAsked (map (λ o. item.Output n o) os) view
  outputs_ask n [] view = tt
  outputs_ask n (o ∷ os) view = outputs_ask n os view

  items_ask : (n : ℕ) (input : Option I) (os : List O) (view : List (Item I O)) → AreAsked {O = O} (input_item n input) view → AreAsked (items_with n input os) view
  items_ask n None os view h = outputs_ask n os view
  items_ask n (Some i) os view h = (h.0, outputs_ask n os view)

  -- an output that is not sent is one of the whole
  in_outputs : (n : ℕ) (sent : List O) (o : O) (os : List O) (rest : List (Item I O)) → HasOutput (map (λ p. item.Output n p) (sent ++ o ∷ os) ++ rest) o
  in_outputs n [] o os rest = contains_here o (outputs_in (map (λ p. item.Output n p) os ++ rest))
  in_outputs n (p ∷ sent) o os rest = contains_later p (outputs_in (map (λ q. item.Output n q) (sent ++ o ∷ os) ++ rest)) o (in_outputs n sent o os rest)

  in_items : (n : ℕ) (input : Option I) (sent : List O) (o : O) (os : List O) (rest : List (Item I O)) → HasOutput (items_with n input (sent ++ o ∷ os) ++ rest) o
  in_items n None sent o os rest = in_outputs n sent o os rest
  in_items n (Some i) sent o os rest = in_outputs n sent o os rest

  after_outputs : (n : ℕ) (os : List O) (rest : List (Item I O)) (o : O) → HasOutput rest o → HasOutput (map (λ p. item.Output n p) os ++ rest) o
  after_outputs n [] rest o h = h
  after_outputs n (p ∷ os) rest o h = contains_later p (outputs_in (map (λ q. item.Output n q) os ++ rest)) o (after_outputs n os rest o h)

  after_items : (n : ℕ) (input : Option I) (os : List O) (rest : List (Item I O)) (o : O) → HasOutput rest o → HasOutput (items_with n input os ++ rest) o
  after_items n None os rest o h = after_outputs n os rest o h
  after_items n (Some i) os rest o h = after_outputs n os rest o h

  in_whole : (ls : List (Listed I O)) (place : ℕ) (l : Listed I O) (o : O) (os : List O) → slice_get ls place ≡ Some l → l.unsent ≡ o ∷ os → HasOutput (whole ls) o
  in_whole [] place l o os is unsent = cc
  in_whole (x ∷ ls) zero l o os is unsent =
      let same : x ≡ l = same_Some x l is in
      rw (same, unsent) (in_items l.node l.input l.sent o os (whole ls))
  in_whole (x ∷ ls) (suc place) l o os is unsent = after_items x.node x.input (x.sent ++ x.unsent) (whole ls) o (in_whole ls place l o os is unsent)

  asked_more : (xs view more : List (Item I O)) → AreAsked xs view → AreAsked xs (view ++ more)
  asked_more xs view more h = each_weaker (HasInput view) (HasInput (view ++ more)) (λ i g. has_input_left view more i g) (inputs_in xs) h

-- a turn at this place of the list, with these outputs to be sent
record IsListed {I O : Type 0} (ls : List (Listed I O)) (n place : ℕ) (outputs : List O) : Type 0 where
  listed : Listed I O
  is : slice_get ls place ≡ Some listed
  node_is : listed.node ≡ n
  unsent_is : listed.unsent ≡ outputs

module _ {C O A : Type 0} where
  -- before a turn counts, its input is noted; from then on, it is listed
  abbrev InTurn : List (Listed (RaftInput C) (RaftOut O)) → Seen C O → ℕ → Cause (RaftInput C) → List A → ℕ → List (RaftOut O) → Type 0
  InTurn ls notes n c [] place outputs = IsListed ls n place outputs
  InTurn ls notes n c (a ∷ more) place outputs = AreAsked {O = RaftOut O} (input_item n (input_of c)) notes

module _ {S C O M A : Type 0} where
  abbrev TurnIsNoted : List (Listed (RaftInput C) (RaftOut O)) → Seen C O → ℕ → Option (Turn S (RaftInput C) (RaftOut O) M A) → Type 0
  TurnIsNoted ls notes n None = Unit {0}
  TurnIsNoted ls notes n (Some t) = InTurn ls notes n t.cause t.acts t.place t.outputs

module _ {S C O M : Type 0} (A : Type 0) where
  -- of a turn that counts
  going_noted : (ls : List (Listed (RaftInput C) (RaftOut O))) (notes : Seen C O) (n : ℕ) (c : Cause (RaftInput C)) (e : Effect S (RaftOut O) M) (ss : List (ℕ × M)) (os : List (RaftOut O)) (place number : ℕ) →
      IsListed ls n place os → TurnIsNoted ls notes n (going {A = A} (record { cause = c; effect = e; acts = []; sends = ss; outputs = os; place = place; number = number }))
  going_noted ls notes n c e [] [] place number h = tt
  going_noted ls notes n c e [] (o ∷ os) place number h = h
  going_noted ls notes n c e (s ∷ ss) os place number h = h

module _ {S C O M A : Type 0} where
  -- where more turns are listed, and more is noted
  turn_on : (ls more : List (Listed (RaftInput C) (RaftOut O))) (notes rest : Seen C O) (n : ℕ) (t : Option (Turn S (RaftInput C) (RaftOut O) M A)) → TurnIsNoted ls notes n t →
      TurnIsNoted (ls ++ more) (notes ++ rest) n t
  turn_on ls more notes rest n None h = tt
  turn_on ls more notes rest n (Some t) h = by t.acts h
    where
      by : (acts : List A) → InTurn ls notes n t.cause acts t.place t.outputs → InTurn (ls ++ more) (notes ++ rest) n t.cause acts t.place t.outputs
      by [] g = record { listed = g.listed; is = slice_get_front ls more t.place g.listed g.is; node_is = g.node_is; unsent_is = g.unsent_is }
      by (a ∷ acts) g = asked_more (input_item n (input_of t.cause)) notes rest g

  -- where an output of another node's turn is sent
  turn_past : (ls : List (Listed (RaftInput C) (RaftOut O))) (notes : Seen C O) (n i place : ℕ) (os : List (RaftOut O)) (t : Option (Turn S (RaftInput C) (RaftOut O) M A)) →
      IsListed ls n place os → i ≢ n → TurnIsNoted ls notes i t → TurnIsNoted (change_at moved place ls) notes i t
  turn_past ls notes n i place os None mine ne h = tt
  turn_past ls notes n i place os (Some t) mine ne h = by t.acts h
    where
      other : IsListed ls i t.place t.outputs → t.place ≢ place
      other g same =
          let both : Some g.listed ≡ Some mine.listed = sym g.is ∙ (ap (λ (k : ℕ). slice_get ls k) same ∙ mine.is) in
          let one : g.listed ≡ mine.listed = same_Some g.listed mine.listed both in
          ne (sym g.node_is ∙ (ap (λ (l : Listed (RaftInput C) (RaftOut O)). l.node) one ∙ mine.node_is))

      by : (acts : List A) → InTurn ls notes i t.cause acts t.place t.outputs → InTurn (change_at moved place ls) notes i t.cause acts t.place t.outputs
      by [] g = record {
        listed = g.listed;
        is = change_at-elsewhere moved ls place t.place (other g) ∙ g.is;
        node_is = g.node_is;
        unsent_is = g.unsent_is;
      }
      by (a ∷ acts) g = g

module _ {S C O M D A X : Type 0} where
  record IsNoted (w : ActWorld S (RaftInput C) (RaftOut O) M D A X) (notes : Seen C O) : Type 0 where
    view : HasView (whole w.listed) notes
    turns : (n : ℕ) → TurnIsNoted w.listed notes n (w.turn n)

  module _ (w : ActWorld S (RaftInput C) (RaftOut O) M D A X) (notes : Seen C O) (h : IsNoted w notes) where
    -- more is noted that was listed, or is an input
    notes_on : (more : Seen C O) → AreGiven more (whole w.listed) → IsNoted w (notes ++ more)
    notes_on more given = record {
      view = view_goes_on C O (whole w.listed) notes more h.view given;
      turns = λ n. subst (λ ls. TurnIsNoted ls (notes ++ more) n (w.turn n)) (append-nil w.listed) (turn_on w.listed [] notes more n (w.turn n) (h.turns n));
    }

    -- another turn at one node
    turn_noted : (disk : D) (n : ℕ) (t : Option (Turn S (RaftInput C) (RaftOut O) M A)) → TurnIsNoted w.listed notes n t → IsNoted (with_turn w n disk t) notes
    turn_noted disk n t g = record { view = h.view; turns = λ i. elim (eqb_tells i n) [ inl e ↦ rw (e.0) (here i e.1) | inr e ↦ rw (e.0) (h.turns i) ] }
      where
        here : (i : ℕ) → i ≡ n → TurnIsNoted w.listed notes i t
        here i same = subst (λ (k : ℕ). TurnIsNoted w.listed notes k t) (sym same) g

    counts_noted : (n : ℕ) (c : Cause (RaftInput C)) (e : Effect S (RaftOut O) M) (disk : D) → AreAsked {O = RaftOut O} (input_item n (input_of c)) notes → IsNoted (counts w n c e disk) notes
    counts_noted n c e disk asked = record {
      view = subst (λ zs. HasView zs notes) (sym (whole-append w.listed (listing n c e)))
          (seen_goes_on C O (whole w.listed) (items_with n (input_of c) e.outputs) notes h.view (items_ask n (input_of c) e.outputs notes asked));
      turns = λ i. elim (eqb_tells i n) [ inl t ↦ rw (t.0) (here i t.1) | inr t ↦ rw (t.0) (past i) ];
    }
      where
        mine : IsListed (w.listed ++ listing n c e ∷ []) n (length w.listed) e.outputs
        mine = record { listed = listing n c e; is = slice_get_seam w.listed (listing n c e) []; node_is = refl; unsent_is = refl }

        here : (i : ℕ) → i ≡ n → TurnIsNoted (w.listed ++ listing n c e ∷ []) notes i (going (counting w c e))
        here i same = subst (λ (k : ℕ). TurnIsNoted (w.listed ++ listing n c e ∷ []) notes k (going (counting w c e))) (sym same)
            (going_noted A (w.listed ++ listing n c e ∷ []) notes n c e e.sends e.outputs (length w.listed) w.sent mine)

        past : (i : ℕ) → TurnIsNoted (w.listed ++ listing n c e ∷ []) notes i (w.turn i)
        past i = subst (λ zs. TurnIsNoted (w.listed ++ listing n c e ∷ []) zs i (w.turn i)) (append-nil notes)
            (turn_on w.listed (listing n c e ∷ []) notes [] i (w.turn i) (h.turns i))

    begun_noted : (n : ℕ) (c : Cause (RaftInput C)) (e : Effect S (RaftOut O) M) (acts : List A) → AreAsked {O = RaftOut O} (input_item n (input_of c)) notes → IsNoted (begun_with w n c e acts) notes
    begun_noted n c e [] asked = counts_noted n c e (w.disk n) asked
    begun_noted n c e (a ∷ more) asked =
        turn_noted (w.disk n) n (Some (record { cause = c; effect = e; acts = a ∷ more; sends = e.sends; outputs = e.outputs; place = 0; number = 0 })) asked

    stopped_noted : (n : ℕ) (left : X) → IsNoted (stopped w n left) notes
    stopped_noted n left = record { view = h.view; turns = λ i. elim (eqb_tells i n) [ inl e ↦ rw (e.0) tt | inr e ↦ rw (e.0) (h.turns i) ] }

    -- an output is sent
    output_noted : (n : ℕ) (c : Cause (RaftInput C)) (e : Effect S (RaftOut O) M) (o : RaftOut O) (os : List (RaftOut O)) (place number : ℕ) → IsListed w.listed n place (o ∷ os) →
        IsNoted (with_listed (with_turn w n (w.disk n) (going {M = M} (record { cause = c; effect = e; acts = []; sends = []; outputs = os; place = place; number = number }))) (change_at moved place w.listed))
        (notes ++ item.Output n o ∷ [])
    output_noted n c e o os place number mine = record {
      view = subst (λ zs. HasView zs (notes ++ item.Output n o ∷ [])) (sym (whole-moved place w.listed)) now.view;
      turns = λ i. elim (eqb_tells i n) [ inl t ↦ rw (t.0) (here i t.1) | inr t ↦ rw (t.0) (turn_past w.listed (notes ++ item.Output n o ∷ []) n i place (o ∷ os) (w.turn i) mine t.1 (now.turns i)) ];
    }
      where
        now : IsNoted w (notes ++ item.Output n o ∷ [])
        now = notes_on (item.Output n o ∷ []) (given_by o (whole w.listed) (in_whole w.listed place mine.listed o os mine.is mine.unsent_is), tt)

        rest : IsListed (change_at moved place w.listed) n place os
        rest = record {
          listed = moved mine.listed;
          is = change_at-there moved w.listed place mine.listed mine.is;
          node_is = mine.node_is;
          unsent_is = ap (λ zs. drop 1 zs) mine.unsent_is;
        }

        here : (i : ℕ) → i ≡ n → TurnIsNoted (change_at moved place w.listed) (notes ++ item.Output n o ∷ []) i (going {A = A} (record { cause = c; effect = e; acts = []; sends = []; outputs = os; place = place; number = number }))
        here i same = subst (λ (k : ℕ). TurnIsNoted (change_at moved place w.listed) (notes ++ item.Output n o ∷ []) k (going {A = A} (record { cause = c; effect = e; acts = []; sends = []; outputs = os; place = place; number = number }))) (sym same)
            (going_noted A (change_at moved place w.listed) (notes ++ item.Output n o ∷ []) n c e [] os place number rest)

module _ {S K C O M D A X : Type 0} (m : Meaning S (RaftInput C) (RaftOut O) M) (r : Recovery S K) (d : Disks K D A X) where
  module _ (w : ActWorld S (RaftInput C) (RaftOut O) M D A X) (notes : Seen C O) (h : IsNoted w notes) where
    nothing_more : {v : ActWorld S (RaftInput C) (RaftOut O) M D A X} → IsNoted v notes → IsNoted v (notes ++ [])
    nothing_more {v = v} g = subst (IsNoted v) (sym (append-nil notes)) g

    acts_noted : (n : ℕ) (t : Turn S (RaftInput C) (RaftOut O) M A) (acts : List A) (ss : List (ℕ × M)) (os : List (RaftOut O)) → InTurn w.listed notes n t.cause acts t.place os →
        t.outputs ≡ os → IsNoted (acts_on m r d w n t acts ss os) (notes ++ noted_next n acts ss os)
    acts_noted n t (a ∷ []) ss os g same = nothing_more (counts_noted w notes h n t.cause t.effect (d.learns (r.keep t.effect.state) (d.does a (w.disk n))) g)
    acts_noted n t (a ∷ (b ∷ more)) ss os g same =
        nothing_more (turn_noted w notes h (d.does a (w.disk n)) n
        (Some (record { cause = t.cause; effect = t.effect; acts = b ∷ more; sends = t.sends; outputs = t.outputs; place = t.place; number = t.number })) g)
    acts_noted n t [] (s ∷ ss) os g same =
        let u : Option (Turn S (RaftInput C) (RaftOut O) M A) = going (record { cause = t.cause; effect = t.effect; acts = []; sends = ss; outputs = os; place = t.place; number = suc t.number }) in
        let on = turn_noted w notes h (w.disk n) n u (going_noted A w.listed notes n t.cause t.effect ss os t.place (suc t.number) g) in
        let flown : IsNoted (acts_on m r d w n t [] (s ∷ ss) os) notes = record { view = on.view; turns = on.turns } in
        nothing_more flown
    acts_noted n t [] [] (o ∷ os) g same = output_noted w notes h n t.cause t.effect o os t.place t.number g
    acts_noted n t [] [] [] g same = nothing_more h

    acted_noted : (n : ℕ) (o : Option (Turn S (RaftInput C) (RaftOut O) M A)) → TurnIsNoted w.listed notes n o → IsNoted (acted m r d w n o) (notes ++ noted_in n o)
    acted_noted n None g = nothing_more h
    acted_noted n (Some t) g = acts_noted n t t.acts t.sends t.outputs g refl

    cut_noted : (n : ℕ) (left : X) (o : Option (Turn S (RaftInput C) (RaftOut O) M A)) → TurnIsNoted w.listed notes n o → IsNoted (cut_off m r d w n left o) notes
    cut_noted n left None g = stopped_noted w notes h n left
    cut_noted n left (Some t) g = by t.acts g
      where
        either : (b : Bool) → AreAsked {O = RaftOut O} (input_item n (input_of t.cause)) notes →
            IsNoted (cond b (stopped (counts w n t.cause t.effect (w.disk n)) n left) (stopped w n left)) notes
        either true asked = stopped_noted (counts w n t.cause t.effect (w.disk n)) notes (counts_noted w notes h n t.cause t.effect (w.disk n) asked) n left
        either false asked = stopped_noted w notes h n left

        by : (acts : List A) → InTurn w.listed notes n t.cause acts t.place t.outputs → IsNoted (cut_in m r d w n left t acts) notes
        by [] k = stopped_noted w notes h n left
        by (a ∷ more) k = either (opens_new d n (w.disk n) left) k

    restarted_noted : (n : ℕ) (o : Option X) → IsNoted (restarted m r d w n o) notes
    restarted_noted n None = h
    restarted_noted n (Some left) = by (d.opens n left)
      where
        by : (found : Option K) → IsNoted (started_as m r d w n left found) notes
        by None = h
        by (Some k) = record { view = h.view; turns = h.turns }

    flying_noted : (ps : List (Flying M)) (k : ℕ) (o : Option (Flying M)) → IsNoted (copied m r d w k o) notes × IsNoted (lost m r d w k o) notes
    flying_noted ps k None = (h, h)
    flying_noted ps k (Some p) = (record { view = h.view; turns = h.turns }, record { view = h.view; turns = h.turns })

    delivered_noted : (k : ℕ) (o : Option (Flying M)) → IsNoted (delivered m r d w k o) notes
    delivered_noted k None = h
    delivered_noted k (Some p) = begun_noted (with_flying w (change_at (changed_copies one_less) k w.packets) w.image) notes (record { view = h.view; turns = h.turns }) p.packet.destination (Came p.number) _ _ tt

    step_noted : (s : ActStep (RaftInput C) X) → IsNoted (act_next m r d w s) (notes ++ noted_at w s)
    step_noted (act.In n i) = begun_noted w (notes ++ item.Input n i ∷ []) (notes_on w notes h (item.Input n i ∷ []) tt) n (Input i) _ _ (last_input notes n i, tt)
    step_noted (act.Deliver k) = nothing_more (delivered_noted k (slice_get w.packets k))
    step_noted (act.Tick n) = nothing_more (begun_noted w notes h n Fired _ _ tt)
    step_noted (act.Act n) = acted_noted n (w.turn n) (h.turns n)
    step_noted (act.Dup k) = nothing_more (flying_noted w.packets k (slice_get w.packets k)).0
    step_noted (act.Lose k) = nothing_more (flying_noted w.packets k (slice_get w.packets k)).1
    step_noted (act.Stop n left) = nothing_more (cut_noted n left (w.turn n) (h.turns n))
    step_noted (act.Reboot n) = nothing_more (restarted_noted n (w.down n))

  run_noted : (w : ActWorld S (RaftInput C) (RaftOut O) M D A X) (notes : Seen C O) → IsNoted w notes → (ss : List (ActStep (RaftInput C) X)) →
      HasView (whole (acts_from m r d w ss).listed) (notes ++ noted_from m r d w ss)
  run_noted w notes h [] = subst (HasView (whole w.listed)) (sym (append-nil notes)) h.view
  run_noted w notes h (s ∷ ss) =
      subst (HasView (whole (acts_from m r d (act_next m r d w s) ss).listed)) (append_assoc notes (noted_at w s) (noted_from m r d (act_next m r d w s) ss))
      (run_noted (act_next m r d w s) (notes ++ noted_at w s) (step_noted w notes h s) ss)

  pub notes_are_a_view : (ss : List (ActStep (RaftInput C) X)) → HasView (whole (acts_run m r d ss).listed) (noted m r d ss)
  notes_are_a_view ss = run_noted (first_act_world m d) [] (record { view = shows_itself C O []; turns = λ n. tt }) ss
