-- What each kind of step makes of an `ActWorld`, from what its parts do.
use Rattle.std.proofs.Common.{◌≡◌, ◌≢◌, ℕ, suc, ◌+◌, ◌<◌, ◌≤◌, Bool, true, false, List, [], ◌∷◌, ◌++◌, length, drop, Option, Some, None, IfSome, slice_get, refl, ap, sym, subst, ◌∙◌, arith}
use Rattle.std.specs.Prelude.{if◌then◌else◌}
use Rattle.std.proofs.lemmas.Option.{same_Some}
use Rattle.handler_trait.specs.Facts.{RebootPromises}
use Rattle.handler_trait.specs.Handling.{AreSentBelow, Effect, Gathered, IsModest}
use Rattle.handler_trait.specs.declared.handlers.TheConstants.{MAX_SENDS}
use Rattle.vst_base.specs.declared.step.TheConstants.{MAX_STEPS}
use Rattle.net_semantics.specs.Shown.{IsSoundState}
use Rattle.net_semantics.specs.Worlds.{change_at}
use Rattle.net_semantics.proofs.Places.{change_at-there, length-change_at}
use Rattle.act_network.specs.declared.step.ActStep.TheVariants as act
use Rattle.act_network.specs.ActSteps as spec
use Rattle.act_network.specs.ActSteps.{sent_now}
use Rattle.act_network.specs.Listing.{moved}
use Rattle.act_network.specs.ActWorlds.{ActWorld, Cause, Turn, step_of}
use Rattle.act_network.specs.Disks.{Disks, opens_new}
use Rattle.act_world.specs.ActViews.{ActView, IsSoundAct, IsSoundNode, ShowsAct, ShowsFlight}
use Rattle.act_world.specs.Flights.{flight_sent}
use Rattle.act_world.specs.Moves.{Begins, Happens, SavesOn, StartsSo, TakesAct, lies_down, on_node, one_taken, saves_on, starts_from, stops_in, tells_on, turn_begins, turn_counts}
use Rattle.act_world.specs.Nodes.{IsListed, IsSoundTurn, ShowsSaving, ShowsTelling, ShowsTurn, started, stopped, with_disk, with_state, with_turn}
use Rattle.act_world.specs.Notes.{counted, output_sent, told as output-told}
use Rattle.act_world.specs.Refusals.{left_at, turn_at}
use Rattle.act_world.specs.Turns.{going, telling}
use Rattle.act_world.specs.Views.{SavingView, TellingView}
use Rattle.act_world.specs.declared.act_node.ActNode.{ActNode}
use Rattle.act_world.specs.declared.turn.Turn.TheVariants as turn
use Rattle.act_world.specs.declared.turn.Turn as code
use Rattle.act_world.proofs.Flying.{flights-more, sent-shown}
use Rattle.act_world.proofs.Ones.{OneAt, one-more, one-same}
use Rattle.act_world.proofs.Showing.{counts-shown, flying-shown, output-shown, starts-shown, stops-shown, turn-shown}
use Rattle.act_world.proofs.Sound.{counted-size, flights-later, flights-sent, going-sound, sound-after, state-later}
use Rattle.act_world.proofs.Standing.{down-so, going-shown, idle-so, saving-so, telling-so, up-so}

-- the node of which something is known
pub node-in-turn : {S D I A O M X : Type 0} (o : Option (ActNode S D I A O M X)) (t : code.Turn I A O M) → turn_at o ≡ Some t →
    (node : ActNode S D I A O M X) × (o ≡ Some node) × (node.turn ≡ Some t)
node-in-turn None t is = cc
node-in-turn (Some node) t is = (node, refl, is)

module _ {H S D I A O M X : Type 0} where
  pub shows-taken : (v : ActView H S D I A O M X) (w : ActWorld S I O M D A X) → ShowsAct v w → ShowsAct (one_taken v) w
  shows-taken v w sh = record { nodes = sh.nodes; flights = sh.flights; image = sh.image; listed = sh.listed; sent = sh.sent }

module _ {H S K D I A O M X : Type 0} (h : RebootPromises S K I O M) (d : Disks K D A X) where
  -- A turn begins at a node that is up, and in none.
  module _ (b : ActView H S D I A O M X) (n : ℕ) (node : ActNode S D I A O M X) (there : slice_get b.nodes n ≡ Some node) (left : node.left ≡ None) (c : Cause I) (e : Effect S O M) where
    abbrev mid : ActView H S D I A O M X
    mid = on_node b n (with_state e.state)

    abbrev begins : List A → ActView H S D I A O M X
    begins acts = turn_begins mid n (step_of n c) e.sends e.outputs acts

    abbrev one-in : (t : Option (code.Turn I A O M)) → OneAt n b.nodes (change_at (with_turn t) n (change_at (with_state e.state) n b.nodes)) (with_turn t (with_state e.state node))
    one-in t = one-more (with_turn t) n b.nodes (change_at (with_state e.state) n b.nodes) (with_state e.state node) (one-more (with_state e.state) n b.nodes b.nodes node (one-same n b.nodes node there))

    begin-shows : (w : ActWorld S I O M D A X) → ShowsAct b w → w.down n ≡ None → node.disk ≡ w.disk n → (acts : List A) → ShowsAct (begins acts) (spec.begun_with w n c e acts)
    begin-shows w sh down disk [] =
        let t = going {A = A} (telling e.sends e.outputs (length b.notes.listed) b.notes.sent) in
        counts-shown b (begins []) w sh n (with_turn t (with_state e.state node)) (one-in t) c e (w.disk n) refl disk left down refl refl refl
    begin-shows w sh down disk (a ∷ more) =
        let t = Some (turn.Saving (record { event = step_of n c; acts = a ∷ more; sends = e.sends; outputs = e.outputs })) in
        let u : Turn S I O M A = record { cause = c; effect = e; acts = a ∷ more; sends = e.sends; outputs = e.outputs; place = 0; number = 0 } in
        turn-shown b (begins (a ∷ more)) w sh n (with_turn t (with_state e.state node)) (one-in t) (w.disk n) (Some u) disk left down
        (record { event = refl; state = refl; sends = refl; outputs = refl; acts = refl }) refl refl

    module _ (was : IsSoundAct h.handlers b) (few : b.taken < MAX_STEPS) (state : IsSoundState (h.handlers.sound n) h.handlers.spent (b.taken + 1) e.state)
        (sends : length e.sends ≤ MAX_SENDS) (to_nodes : AreSentBelow h.handlers.meaning.nodes e.sends) where
      begin-sound : (acts : List A) → IsSoundAct h.handlers (one_taken (begins acts))
      begin-sound [] =
          let v = telling e.sends e.outputs (length b.notes.listed) b.notes.sent in
          let t = going {A = A} v in
          let size = counted-size b.notes n (step_of n c) (length e.sends) in
          sound-after h.handlers b (one_taken (begins [])) n (with_turn t (with_state e.state node)) (record {
            was = was;
            few = few;
            one = one-in t;
            sound = record {
              state = state;
              turn = going-sound I A h.handlers.meaning.nodes (b.notes.sent + length e.sends) (length (counted b.notes n (step_of n c) (length e.sends)).listed) v (omega arith) to_nodes
                  (omega (arith, size));
            };
            taken = refl;
            sent = omega arith;
            most = omega (arith, sends);
            listed = omega (arith, size);
            flights = flights-later h.handlers b.taken b.flights was.flights;
          })
      begin-sound (a ∷ more) =
          let t = Some (turn.Saving (record { event = step_of n c; acts = a ∷ more; sends = e.sends; outputs = e.outputs })) in
          sound-after h.handlers b (one_taken (begins (a ∷ more))) n (with_turn t (with_state e.state node)) (record {
            was = was;
            few = few;
            one = one-in t;
            sound = record { state = state; turn = record { acts = λ none. cc; few = sends; to_nodes = to_nodes } };
            taken = refl;
            sent = omega arith;
            most = omega arith;
            listed = omega arith;
            flights = flights-later h.handlers b.taken b.flights was.flights;
          })

  module _ (b after last : ActView H S D I A O M X) (n : ℕ) (c : Cause I) (event : S → Effect S O M) (gathered : Gathered O M)
      (was : IsSoundAct h.handlers b) (few : b.taken < MAX_STEPS) (up : left_at (slice_get b.nodes n) ≡ None) (idle : turn_at (slice_get b.nodes n) ≡ None)
      (modest : (s : S) → h.handlers.sound n s → IsModest h.handlers.meaning.nodes MAX_SENDS (h.handlers.sound n) h.handlers.spent s (event s))
      (hp : Happens event (h.handlers.sound n) n b after gathered) (bg : Begins d h.recovery.keep n (step_of n c) gathered after last) where
    abbrev e : Effect S O M
    e = event hp.node.state

    left-none : hp.node.left ≡ None
    left-none = subst (λ o. left_at o ≡ None) hp.there up

    turn-none : hp.node.turn ≡ None
    turn-none = subst (λ o. turn_at o ≡ None) hp.there idle

    same-node : bg.node ≡ with_state e.state hp.node
    same-node =
        let one = one-more (with_state e.state) n b.nodes b.nodes hp.node (one-same n b.nodes hp.node hp.there) in
        same_Some bg.node (with_state e.state hp.node) (sym bg.there ∙ (ap (λ x. slice_get x.nodes n) hp.after_is ∙ one.here))

    abbrev acts : List A
    acts = d.acts hp.node.disk (h.recovery.keep e.state)

    last-is : last ≡ begins b n hp.node hp.there left-none c e acts
    last-is =
        bg.after_is
        ∙ (ap (λ x. turn_begins x n (step_of n c) gathered.sends gathered.outputs (d.acts bg.node.disk (h.recovery.keep bg.node.state))) hp.after_is
        ∙ (ap (λ ss. turn_begins (on_node b n (with_state e.state)) n (step_of n c) ss gathered.outputs (d.acts bg.node.disk (h.recovery.keep bg.node.state))) hp.sends
        ∙ (ap (λ os. turn_begins (on_node b n (with_state e.state)) n (step_of n c) e.sends os (d.acts bg.node.disk (h.recovery.keep bg.node.state))) hp.outputs
        ∙ ap (λ y. turn_begins (on_node b n (with_state e.state)) n (step_of n c) e.sends e.outputs (d.acts y.disk (h.recovery.keep y.state))) same-node)))

    pub begun-leads : (w : ActWorld S I O M D A X) → ShowsAct b w → ShowsAct (one_taken last) (spec.begun h.handlers.meaning h.recovery d w n c (event (w.state n)))
    begun-leads w sh =
        let facts = up-so w.listed n hp.node (w.state n) (w.disk n) (w.turn n) hp.node.left (w.down n) (sh.nodes n hp.node hp.there) left-none in
        let state = (idle-so w.listed n hp.node.state (w.state n) hp.node.turn (w.turn n) (facts.2) turn-none).1 in
        let shown = begin-shows b n hp.node hp.there left-none c e w sh (facts.0) (facts.1) acts in
        let here = subst (λ disk. ShowsAct (begins b n hp.node hp.there left-none c e acts) (spec.begun_with w n c e (d.acts disk (h.recovery.keep e.state)))) (facts.1) shown in
        shows-taken last _ (subst (λ x. ShowsAct x (spec.begun h.handlers.meaning h.recovery d w n c (event (w.state n)))) (sym last-is)
        (subst (λ s. ShowsAct (begins b n hp.node hp.there left-none c e acts) (spec.begun h.handlers.meaning h.recovery d w n c (event s))) state here))

    pub begun-sound : IsSoundAct h.handlers (one_taken last)
    begun-sound =
        let stood = (was.each n hp.node hp.there).state in
        let least = modest hp.node.state stood.keeps in
        let cheap = least.cheap in let little = stood.little in
        subst (λ x. IsSoundAct h.handlers (one_taken x)) (sym last-is)
        (begin-sound b n hp.node hp.there left-none c e was few (record { keeps = hp.keeps; little = omega (arith, cheap, little) }) least.few least.to_nodes acts)

  -- A turn goes on at a node that is up. The code takes it out first.
  module _ (v : ActView H S D I A O M X) (n : ℕ) (was : IsSoundAct h.handlers v) (few : v.taken < MAX_STEPS) (below : n < h.handlers.meaning.nodes)
      (node : ActNode S D I A O M X) (there : slice_get v.nodes n ≡ Some node) (left : node.left ≡ None) where
    abbrev out : ActView H S D I A O M X
    out = on_node v n (with_turn None)

    abbrev one-out : OneAt n v.nodes (change_at (with_turn None) n v.nodes) (with_turn None node)
    one-out = one-more (with_turn None) n v.nodes v.nodes node (one-same n v.nodes node there)

    abbrev Stands : ActWorld S I O M D A X → Type 0
    Stands w = (w.down n ≡ None) × (node.disk ≡ w.disk n) × ShowsTurn w.listed n node.state (w.state n) node.turn (w.turn n)

    stands : (w : ActWorld S I O M D A X) → ShowsAct v w → Stands w
    stands w sh = up-so w.listed n node (w.state n) (w.disk n) (w.turn n) node.left (w.down n) (sh.nodes n node there) left

    stood : IsSoundNode h.handlers n v.taken v.notes.sent (length v.notes.listed) node
    stood = was.each n node there

    state-on : IsSoundState (h.handlers.sound n) h.handlers.spent (v.taken + 1) node.state
    state-on = state-later h.handlers v.taken n node.state stood.state

    -- a turn that has not counted
    module _ (t : SavingView I A O M) (is : node.turn ≡ Some (turn.Saving t)) (a : A) where
      turn-sound : IsSoundTurn h.handlers.meaning.nodes v.notes.sent (length v.notes.listed) (Some (turn.Saving t))
      turn-sound = subst (IsSoundTurn h.handlers.meaning.nodes v.notes.sent (length v.notes.listed)) is stood.turn

      abbrev last-disk : D → D
      last-disk disk = d.learns (h.recovery.keep node.state) (d.does a disk)

      abbrev saved : List A → ActView H S D I A O M X
      saved more = saves_on d (h.recovery.keep node.state) out n t a more

      abbrev one-saved : (f : D → D) (o : Option (code.Turn I A O M)) →
          OneAt n v.nodes (change_at (with_turn o) n (change_at (with_disk f) n (change_at (with_turn None) n v.nodes))) (with_turn o (with_disk f (with_turn None node)))
      one-saved f o =
          one-more (with_turn o) n v.nodes (change_at (with_disk f) n (change_at (with_turn None) n v.nodes)) (with_disk f (with_turn None node))
          (one-more (with_disk f) n v.nodes (change_at (with_turn None) n v.nodes) (with_turn None node) one-out)

      saved-shows : (w : ActWorld S I O M D A X) → ShowsAct v w → Stands w → (u : Turn S I O M A) → ShowsSaving n node.state t u → (more : List A) →
          ShowsAct (saved more) (spec.acts_on h.handlers.meaning h.recovery d w n u (a ∷ more) u.sends u.outputs)
      saved-shows w sh st u su [] =
          let o = going {A = A} (telling t.sends t.outputs (length v.notes.listed) v.notes.sent) in
          let disk : last-disk node.disk ≡ d.learns (h.recovery.keep u.effect.state) (d.does a (w.disk n)) =
          ap (λ s. d.learns (h.recovery.keep s) (d.does a node.disk)) su.state ∙ ap (λ x. d.learns (h.recovery.keep u.effect.state) (d.does a x)) (st.1) in
          counts-shown v (saved []) w sh n (with_turn o (with_disk last-disk (with_turn None node))) (one-saved last-disk o) u.cause u.effect
          (d.learns (h.recovery.keep u.effect.state) (d.does a (w.disk n))) su.state disk left (st.0)
          (ap (λ ss. going {A = A} (telling ss t.outputs (length v.notes.listed) v.notes.sent)) su.sends
          ∙ ap (λ os. going {A = A} (telling u.effect.sends os (length v.notes.listed) v.notes.sent)) su.outputs) refl
          (ap (λ ev. counted v.notes n ev (length t.sends)) su.event ∙ ap (λ ss. counted v.notes n (step_of n u.cause) (length ss)) su.sends)
      saved-shows w sh st u su (b ∷ more) =
          let o = Some (turn.Saving (record { event = t.event; acts = b ∷ more; sends = t.sends; outputs = t.outputs })) in
          let x : Turn S I O M A = record { cause = u.cause; effect = u.effect; acts = b ∷ more; sends = u.sends; outputs = u.outputs; place = u.place; number = u.number } in
          turn-shown v (saved (b ∷ more)) w sh n (with_turn o (with_disk (d.does a) (with_turn None node))) (one-saved (d.does a) o) (d.does a (w.disk n)) (Some x)
          (ap (d.does a) (st.1)) left (st.0) (record { event = su.event; state = su.state; sends = su.sends; outputs = su.outputs; acts = refl }) refl refl

      saved-sound : (more : List A) → IsSoundAct h.handlers (one_taken (saved more))
      saved-sound [] =
          let x = telling t.sends t.outputs (length v.notes.listed) v.notes.sent in
          let o = going {A = A} x in
          let fewer = turn-sound.few in
          let size = counted-size v.notes n t.event (length t.sends) in
          sound-after h.handlers v (one_taken (saved [])) n (with_turn o (with_disk last-disk (with_turn None node))) (record {
            was = was;
            few = few;
            one = one-saved last-disk o;
            sound = record {
              state = state-on;
              turn = going-sound I A h.handlers.meaning.nodes (v.notes.sent + length t.sends) (length (counted v.notes n t.event (length t.sends)).listed) x (omega arith)
                  turn-sound.to_nodes (omega (arith, size));
            };
            taken = refl;
            sent = omega arith;
            most = omega (arith, fewer);
            listed = omega (arith, size);
            flights = flights-later h.handlers v.taken v.flights was.flights;
          })
      saved-sound (b ∷ more) =
          let o = Some (turn.Saving (record { event = t.event; acts = b ∷ more; sends = t.sends; outputs = t.outputs })) in
          sound-after h.handlers v (one_taken (saved (b ∷ more))) n (with_turn o (with_disk (d.does a) (with_turn None node))) (record {
            was = was;
            few = few;
            one = one-saved (d.does a) o;
            sound = record { state = state-on; turn = record { acts = λ none. cc; few = turn-sound.few; to_nodes = turn-sound.to_nodes } };
            taken = refl;
            sent = omega arith;
            most = omega arith;
            listed = omega arith;
            flights = flights-later h.handlers v.taken v.flights was.flights;
          })

      pub save-takes : (after : ActView H S D I A O M X) (sv : SavesOn d n out after h.recovery.keep t) → a ≡ sv.act → TakesAct h d (act.Act n) v (one_taken after)
      save-takes after sv same =
          let node-is : sv.node ≡ with_turn None node = same_Some sv.node (with_turn None node) (sym sv.there ∙ one-out.here) in
          let after-is : after ≡ saved sv.more =
          sv.after_is ∙ (ap (λ y. saves_on d (h.recovery.keep y.state) out n t sv.act sv.more) node-is
          ∙ ap (λ y. saves_on d (h.recovery.keep node.state) out n t y sv.more) (sym same)) in
          record {
            leads = λ w sh.
                (let st = stands w sh in
                let u = saving-so w.listed n node.state (w.state n) node.turn (w.turn n) t (st.2) is in
                let acts-are : u.0.acts ≡ a ∷ sv.more = sym u.2.acts ∙ (sv.acts ∙ ap (λ y. y ∷ sv.more) (sym same)) in
                shows-taken after _ (subst (λ x. ShowsAct x (spec.act_next h.handlers.meaning h.recovery d w (act.Act n))) (sym after-is)
                (subst (λ o. ShowsAct (saved sv.more) (spec.acted h.handlers.meaning h.recovery d w n o)) (sym u.1)
                (subst (λ xs. ShowsAct (saved sv.more) (spec.acts_on h.handlers.meaning h.recovery d w n u.0 xs u.0.sends u.0.outputs)) (sym acts-are)
                (saved-shows w sh st u.0 u.2 sv.more)))));
            counts = ap (λ x. x.taken + 1) after-is ∙ taken-same sv.more;
            keeps = subst (λ x. IsSoundAct h.handlers (one_taken x)) (sym after-is) (saved-sound sv.more);
          }
        where
          taken-same : (more : List A) → (saved more).taken + 1 ≡ v.taken + 1
          taken-same [] = refl
          taken-same (b ∷ more) = refl

    -- a turn that counts
    module _ (t : TellingView O M) (is : node.turn ≡ Some (turn.Telling t)) where
      told-sound : IsSoundTurn {I = I} {A = A} h.handlers.meaning.nodes v.notes.sent (length v.notes.listed) (Some (turn.Telling t))
      told-sound = subst (IsSoundTurn h.handlers.meaning.nodes v.notes.sent (length v.notes.listed)) is stood.turn

      abbrev told : List (ℕ × M) → List O → ActView H S D I A O M X
      told ss os = tells_on out n t ss os

      abbrev one-told : (o : Option (code.Turn I A O M)) → OneAt n v.nodes (change_at (with_turn o) n (change_at (with_turn None) n v.nodes)) (with_turn o (with_turn None node))
      one-told o = one-more (with_turn o) n v.nodes (change_at (with_turn None) n v.nodes) (with_turn None node) one-out

      -- its turn in the world
      module _ (w : ActWorld S I O M D A X) (sh : ShowsAct v w) (u : Turn S I O M A) (state : node.state ≡ w.state n) (su : ShowsTelling w.listed n t u) (st : Stands w) where
        told-shows : (ss : List (ℕ × M)) (os : List O) → t.sends ≡ ss → t.outputs ≡ os → ShowsAct (told ss os) (spec.acts_on h.handlers.meaning h.recovery d w n u [] ss os)
        told-shows (s ∷ ss) os sends outputs =
            let x = telling ss os t.place (t.number + 1) in
            let y : Turn S I O M A = record { cause = u.cause; effect = u.effect; acts = []; sends = ss; outputs = os; place = u.place; number = suc u.number } in
            let o = going {A = A} x in
            let sx : ShowsTelling w.listed n x y = record {
              saved = refl;
              sends = refl;
              outputs = refl;
              place = su.place;
              number = (let e = su.number in omega (arith, e));
              listed_is = subst (λ ys. IsListed w.listed n u.place ys) (sym su.outputs ∙ outputs) su.listed_is;
            } in
            let first = on_node out n (with_turn o) in
            let shown = turn-shown v first w sh n (with_turn o (with_turn None node)) (one-told o) (w.disk n) (spec.going y) (st.1) left (st.0)
            (going-shown w.listed n node.state (w.state n) state x y sx) refl refl in
            let number-is : flight_sent n t.number s ≡ flight_sent n u.number s = ap (λ k. flight_sent n k s) su.number in
            flying-shown first (told (s ∷ ss) os) (spec.with_turn w n (w.disk n) (spec.going y)) shown (w.packets ++ sent_now n u.number s ∷ []) w.image refl
            (subst (λ f. (k : ℕ) → ShowsFlight (slice_get (v.flights ++ f ∷ []) k) (slice_get (w.packets ++ sent_now n u.number s ∷ []) k)) (sym number-is)
            (flights-more v.flights w.packets (flight_sent n u.number s) (sent_now n u.number s) sh.flights (sent-shown n u.number s)))
            sh.image refl refl
        told-shows [] (o ∷ os) sends outputs =
            let x : TellingView O M = telling [] os t.place t.number in
            let y : Turn S I O M A = record { cause = u.cause; effect = u.effect; acts = []; sends = []; outputs = os; place = u.place; number = u.number } in
            let g = going {A = A} x in
            let listed-is : IsListed w.listed n u.place (o ∷ os) = subst (λ ys. IsListed w.listed n u.place ys) (sym su.outputs ∙ outputs) su.listed_is in
            let sx : ShowsTelling (change_at moved u.place w.listed) n x y = record {
              saved = refl;
              sends = refl;
              outputs = refl;
              place = su.place;
              number = su.number;
              listed_is = record {
                entry = moved listed-is.entry;
                there = change_at-there moved w.listed u.place listed-is.entry listed-is.there;
                node = listed-is.node;
                unsent = ap (drop 1) listed-is.unsent;
              };
            } in
            output-shown v (told [] (o ∷ os)) w sh n (with_turn g (with_turn None node)) (one-told g) u.place o os (spec.going y) (st.1) left (st.0) listed-is
            (going-shown (change_at moved u.place w.listed) n node.state (w.state n) state x y sx) refl
            (ap (λ p. output_sent v.notes p o) su.place)
        told-shows [] [] sends outputs = absurd (told-sound.more sends outputs)

      told-keeps : (ss : List (ℕ × M)) (os : List O) → t.sends ≡ ss → t.outputs ≡ os → IsSoundAct h.handlers (one_taken (told ss os))
      told-keeps (s ∷ ss) os sends outputs =
          let x = telling ss os t.place (t.number + 1) in
          let o = going {A = A} x in
          let to = subst (AreSentBelow h.handlers.meaning.nodes) sends told-sound.to_nodes in
          let numbers = told-sound.numbers in let size = ap length sends in
          sound-after h.handlers v (one_taken (told (s ∷ ss) os)) n (with_turn o (with_turn None node)) (record {
            was = was;
            few = few;
            one = one-told o;
            sound = record {
              state = state-on;
              turn = going-sound I A h.handlers.meaning.nodes v.notes.sent (length v.notes.listed) x (omega (arith, numbers, size)) (to.1) told-sound.place;
            };
            taken = refl;
            sent = omega arith;
            most = omega arith;
            listed = omega arith;
            flights = flights-sent h.handlers v.taken n t.number s v.flights below (to.0) was.flights;
          })
      told-keeps [] (o ∷ os) sends outputs =
          let x : TellingView O M = telling [] os t.place t.number in
          let g = going {A = A} x in
          let numbers = told-sound.numbers in
          let same = length-change_at (output-told o) v.notes.listed t.place in
          let place = told-sound.place in
          sound-after h.handlers v (one_taken (told [] (o ∷ os))) n (with_turn g (with_turn None node)) (record {
            was = was;
            few = few;
            one = one-told g;
            sound = record {
              state = state-on;
              turn = going-sound I A h.handlers.meaning.nodes v.notes.sent (length (output_sent v.notes t.place o).listed) x (omega (arith, numbers)) tt (omega (arith, place, same));
            };
            taken = refl;
            sent = omega arith;
            most = omega arith;
            listed = omega (arith, same);
            flights = flights-later h.handlers v.taken v.flights was.flights;
          })
      told-keeps [] [] sends outputs = absurd (told-sound.more sends outputs)

      told-taken : (ss : List (ℕ × M)) (os : List O) → (told ss os).taken + 1 ≡ v.taken + 1
      told-taken (s ∷ ss) os = refl
      told-taken [] (o ∷ os) = refl
      told-taken [] [] = refl

      pub tell-takes : (after : ActView H S D I A O M X) → after ≡ told t.sends t.outputs → TakesAct h d (act.Act n) v (one_taken after)
      tell-takes after after-is = record {
        leads = λ w sh.
            (let st = stands w sh in
            let u = telling-so w.listed n node.state (w.state n) node.turn (w.turn n) t (st.2) is in
            let su = u.3 in
            shows-taken after _ (subst (λ x. ShowsAct x (spec.act_next h.handlers.meaning h.recovery d w (act.Act n))) (sym after-is)
            (subst (λ o. ShowsAct (told t.sends t.outputs) (spec.acted h.handlers.meaning h.recovery d w n o)) (sym u.1)
            (subst (λ xs. ShowsAct (told t.sends t.outputs) (spec.acts_on h.handlers.meaning h.recovery d w n u.0 xs u.0.sends u.0.outputs)) (sym su.saved)
            (subst (λ ss. ShowsAct (told t.sends t.outputs) (spec.acts_on h.handlers.meaning h.recovery d w n u.0 [] ss u.0.outputs)) su.sends
            (subst (λ os. ShowsAct (told t.sends t.outputs) (spec.acts_on h.handlers.meaning h.recovery d w n u.0 [] t.sends os)) su.outputs
            (told-shows w sh u.0 (u.2) su st t.sends t.outputs refl refl)))))));
        counts = ap (λ x. x.taken + 1) after-is ∙ told-taken t.sends t.outputs;
        keeps = subst (λ x. IsSoundAct h.handlers (one_taken x)) (sym after-is) (told-keeps t.sends t.outputs refl refl);
      }

    -- A node stops.
    module _ (x : X) where
      abbrev one-down : OneAt n v.nodes (change_at (stopped x) n (change_at (with_turn None) n v.nodes)) (stopped x (with_turn None node))
      one-down = one-more (stopped x) n v.nodes (change_at (with_turn None) n v.nodes) (with_turn None node) one-out

      abbrev down-view : ActView H S D I A O M X
      down-view = lies_down out n x

      down-shows : (w : ActWorld S I O M D A X) → ShowsAct v w → ShowsAct down-view (spec.stopped w n x)
      down-shows w sh = stops-shown v down-view w sh n (stopped x (with_turn None node)) one-down x refl refl refl refl

      down-sound : IsSoundAct h.handlers (one_taken down-view)
      down-sound = sound-after h.handlers v (one_taken down-view) n (stopped x (with_turn None node)) (record {
        was = was;
        few = few;
        one = one-down;
        sound = record { state = state-on; turn = tt };
        taken = refl;
        sent = omega arith;
        most = omega arith;
        listed = omega arith;
        flights = flights-later h.handlers v.taken v.flights was.flights;
      })

      -- in a turn that counts at the stop
      module _ (t : SavingView I A O M) (is : node.turn ≡ Some (turn.Saving t)) where
        abbrev counted-view : ActView H S D I A O M X
        counted-view = turn_counts out n t.event t.sends t.outputs

        abbrev going-on : Option (code.Turn I A O M)
        going-on = going (telling t.sends t.outputs (length v.notes.listed) v.notes.sent)

        abbrev one-counted : OneAt n v.nodes counted-view.nodes (with_turn going-on (with_turn None node))
        one-counted = one-more (with_turn going-on) n v.nodes (change_at (with_turn None) n v.nodes) (with_turn None node) one-out

        counted-shows : (w : ActWorld S I O M D A X) → ShowsAct v w → Stands w → (u : Turn S I O M A) → ShowsSaving n node.state t u →
            ShowsAct (lies_down counted-view n x) (spec.stopped (spec.counts w n u.cause u.effect (w.disk n)) n x)
        counted-shows w sh st u su =
            let first = counts-shown v counted-view w sh n (with_turn going-on (with_turn None node)) one-counted u.cause u.effect (w.disk n) su.state (st.1) left (st.0)
            (ap (λ ss. going {A = A} (telling ss t.outputs (length v.notes.listed) v.notes.sent)) su.sends
            ∙ ap (λ os. going {A = A} (telling u.effect.sends os (length v.notes.listed) v.notes.sent)) su.outputs) refl
            (ap (λ ev. counted v.notes n ev (length t.sends)) su.event ∙ ap (λ ss. counted v.notes n (step_of n u.cause) (length ss)) su.sends) in
            stops-shown counted-view (lies_down counted-view n x) (spec.counts w n u.cause u.effect (w.disk n)) first n
            (stopped x (with_turn going-on (with_turn None node)))
            (one-more (stopped x) n counted-view.nodes counted-view.nodes (with_turn going-on (with_turn None node)) (one-same n counted-view.nodes (with_turn going-on (with_turn None node)) one-counted.here))
            x refl refl refl refl

        counted-sound : IsSoundAct h.handlers (one_taken (lies_down counted-view n x))
        counted-sound =
            let ts = subst (IsSoundTurn h.handlers.meaning.nodes v.notes.sent (length v.notes.listed)) is stood.turn in
            let fewer = ts.few in
            let size = counted-size v.notes n t.event (length t.sends) in
            sound-after h.handlers v (one_taken (lies_down counted-view n x)) n (stopped x (with_turn going-on (with_turn None node))) (record {
              was = was;
              few = few;
              one = one-more (stopped x) n v.nodes counted-view.nodes (with_turn going-on (with_turn None node)) one-counted;
              sound = record { state = state-on; turn = tt };
              taken = refl;
              sent = omega arith;
              most = omega (arith, fewer);
              listed = omega (arith, size);
              flights = flights-later h.handlers v.taken v.flights was.flights;
            })

      abbrev cut : D → Option (code.Turn I A O M) → ActView H S D I A O M X
      cut disk o = stops_in d out n x disk o

      -- by whether the areas open as another state
      cut-shows-by : (w : ActWorld S I O M D A X) → ShowsAct v w → Stands w → (t : SavingView I A O M) → node.turn ≡ Some (turn.Saving t) →
          (u : Turn S I O M A) → ShowsSaving n node.state t u → (new : Bool) →
          ShowsAct (if new then lies_down (turn_counts out n t.event t.sends t.outputs) n x else down-view)
          (if new then spec.stopped (spec.counts w n u.cause u.effect (w.disk n)) n x else spec.stopped w n x)
      cut-shows-by w sh st t is u su true = counted-shows t is w sh st u su
      cut-shows-by w sh st t is u su false = down-shows w sh

      cut-in : (w : ActWorld S I O M D A X) → ShowsAct v w → Stands w → (t : SavingView I A O M) → node.turn ≡ Some (turn.Saving t) →
          (u : Turn S I O M A) → ShowsSaving n node.state t u → (acts : List A) → acts ≢ [] →
          ShowsAct (cut (w.disk n) (Some (turn.Saving t))) (spec.cut_in h.handlers.meaning h.recovery d w n x u acts)
      cut-in w sh st t is u su [] some = absurd (some refl)
      cut-in w sh st t is u su (a ∷ more) some = cut-shows-by w sh st t is u su (opens_new d n (w.disk n) x)

      cut-shows : (w : ActWorld S I O M D A X) → ShowsAct v w → Stands w → (o : Option (code.Turn I A O M)) → node.turn ≡ o →
          ShowsAct (cut (w.disk n) o) (spec.cut_off h.handlers.meaning h.recovery d w n x (w.turn n))
      cut-shows w sh st None is =
          let none = idle-so w.listed n node.state (w.state n) node.turn (w.turn n) (st.2) is in
          subst (λ o. ShowsAct down-view (spec.cut_off h.handlers.meaning h.recovery d w n x o)) (sym none.0) (down-shows w sh)
      cut-shows w sh st (Some (turn.Saving t)) is =
          let u = saving-so w.listed n node.state (w.state n) node.turn (w.turn n) t (st.2) is in
          let ts = subst (IsSoundTurn h.handlers.meaning.nodes v.notes.sent (length v.notes.listed)) is stood.turn in
          subst (λ o. ShowsAct (cut (w.disk n) (Some (turn.Saving t))) (spec.cut_off h.handlers.meaning h.recovery d w n x o)) (sym u.1)
          (cut-in w sh st t is u.0 u.2 u.0.acts (λ none. ts.acts (u.2.acts ∙ none)))
      cut-shows w sh st (Some (turn.Telling t)) is =
          let u = telling-so w.listed n node.state (w.state n) node.turn (w.turn n) t (st.2) is in
          subst (λ o. ShowsAct down-view (spec.cut_off h.handlers.meaning h.recovery d w n x o)) (sym u.1)
          (subst (λ acts. ShowsAct down-view (spec.cut_in h.handlers.meaning h.recovery d w n x u.0 acts)) (sym u.3.saved) (down-shows w sh))

      cut-sound-by : (t : SavingView I A O M) → node.turn ≡ Some (turn.Saving t) → (new : Bool) →
          IsSoundAct h.handlers (one_taken (if new then lies_down (turn_counts out n t.event t.sends t.outputs) n x else down-view))
      cut-sound-by t is true = counted-sound t is
      cut-sound-by t is false = down-sound

      cut-sound : (disk : D) (o : Option (code.Turn I A O M)) → node.turn ≡ o → IsSoundAct h.handlers (one_taken (cut disk o))
      cut-sound disk None is = down-sound
      cut-sound disk (Some (turn.Saving t)) is = cut-sound-by t is (opens_new d n disk x)
      cut-sound disk (Some (turn.Telling t)) is = down-sound

      cut-taken-by : (t : SavingView I A O M) (new : Bool) → (if new then lies_down (turn_counts out n t.event t.sends t.outputs) n x else down-view).taken + 1 ≡ v.taken + 1
      cut-taken-by t true = refl
      cut-taken-by t false = refl

      cut-taken : (disk : D) (o : Option (code.Turn I A O M)) → (cut disk o).taken + 1 ≡ v.taken + 1
      cut-taken disk None = refl
      cut-taken disk (Some (turn.Saving t)) = cut-taken-by t (opens_new d n disk x)
      cut-taken disk (Some (turn.Telling t)) = refl

      pub stop-takes : (after : ActView H S D I A O M X) → after ≡ cut node.disk node.turn → TakesAct h d (act.Stop n x) v (one_taken after)
      stop-takes after after-is = record {
        leads = λ w sh.
            (let st = stands w sh in
            shows-taken after _ (subst (λ y. ShowsAct y (spec.act_next h.handlers.meaning h.recovery d w (act.Stop n x))) (sym after-is)
            (subst (λ disk. ShowsAct (cut disk node.turn) (spec.cut_off h.handlers.meaning h.recovery d w n x (w.turn n))) (sym st.1)
            (cut-shows w sh st node.turn refl))));
        counts = ap (λ y. y.taken + 1) after-is ∙ cut-taken node.disk node.turn;
        keeps = subst (λ y. IsSoundAct h.handlers (one_taken y)) (sym after-is) (cut-sound node.disk node.turn refl);
      }

  -- A node starts again.
  module _ (v : ActView H S D I A O M X) (n : ℕ) (was : IsSoundAct h.handlers v) (few : v.taken < MAX_STEPS)
      (fresh : (k : K) → h.fits k → h.handlers.spent (h.recovery.reboot n k) ≡ 0) (after : ActView H S D I A O M X)
      (so : StartsSo d n v after h.recovery h.fits (h.handlers.sound n)) where
    abbrev begun : Option K → ActView H S D I A O M X
    begun o = starts_from h.recovery d v n so.left o

    began-shows : (w : ActWorld S I O M D A X) → ShowsAct v w → so.node.turn ≡ None → w.turn n ≡ None → (o : Option K) →
        ShowsAct (begun o) (spec.started_as h.handlers.meaning h.recovery d w n so.left o)
    began-shows w sh none idle None = sh
    began-shows w sh none idle (Some k) =
        let s = h.recovery.reboot n k in let disk = d.reopened n so.left in
        starts-shown v (begun (Some k)) w sh n (started s disk so.node) (one-more (started s disk) n v.nodes v.nodes so.node (one-same n v.nodes so.node so.there))
        s disk refl refl refl none idle refl refl

    turn-kept : (node : ActNode S D I A O M X) → slice_get v.nodes n ≡ Some node → IsSoundTurn h.handlers.meaning.nodes v.notes.sent (length v.notes.listed) node.turn
    turn-kept node is = (was.each n node is).turn

    began-sound : (o : Option K) → IfSome o (λ k. h.fits k × h.handlers.sound n (h.recovery.reboot n k)) → IsSoundAct h.handlers (one_taken (begun o))
    began-sound None keeps = sound-after h.handlers v (one_taken v) n so.node (record {
      was = was;
      few = few;
      one = one-same n v.nodes so.node so.there;
      sound = record { state = state-later h.handlers v.taken n so.node.state (was.each n so.node so.there).state; turn = turn-kept so.node so.there };
      taken = refl;
      sent = omega arith;
      most = omega arith;
      listed = omega arith;
      flights = flights-later h.handlers v.taken v.flights was.flights;
    })
    began-sound (Some k) keeps =
        let s = h.recovery.reboot n k in let disk = d.reopened n so.left in let nothing = fresh k (keeps.0) in
        sound-after h.handlers v (one_taken (begun (Some k))) n (started s disk so.node) (record {
          was = was;
          few = few;
          one = one-more (started s disk) n v.nodes v.nodes so.node (one-same n v.nodes so.node so.there);
          sound = record { state = record { keeps = keeps.1; little = omega (arith, nothing) }; turn = turn-kept so.node so.there };
          taken = refl;
          sent = omega arith;
          most = omega arith;
          listed = omega arith;
          flights = flights-later h.handlers v.taken v.flights was.flights;
        })

    began-taken : (o : Option K) → (begun o).taken + 1 ≡ v.taken + 1
    began-taken None = refl
    began-taken (Some k) = refl

    pub start-takes : TakesAct h d (act.Reboot n) v (one_taken after)
    start-takes = record {
      leads = λ w sh.
          (let facts = down-so w.listed n so.node (w.state n) (w.disk n) (w.turn n) so.node.left (w.down n) so.left (sh.nodes n so.node so.there) so.left_is in
          shows-taken after _ (subst (λ y. ShowsAct y (spec.act_next h.handlers.meaning h.recovery d w (act.Reboot n))) (sym so.after_is)
          (subst (λ o. ShowsAct (begun (d.opens n so.left)) (spec.restarted h.handlers.meaning h.recovery d w n o)) (sym facts.0)
          (began-shows w sh (facts.1) (facts.2) (d.opens n so.left)))));
      counts = ap (λ y. y.taken + 1) so.after_is ∙ began-taken (d.opens n so.left);
      keeps = subst (λ y. IsSoundAct h.handlers (one_taken y)) (sym so.after_is) (began-sound (d.opens n so.left) so.keeps);
    }
