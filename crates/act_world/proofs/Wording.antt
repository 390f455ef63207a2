-- What the code does of a stop of which a word says what is left, as contracts see it.
use Rattle.std.proofs.Common.{◌≡◌, ℕ, zero, suc, ◌+◌, ◌<◌, Bool, true, false, List, [], ◌∷◌, ◌++◌, length, Option, Some, None, Result, Ok, Err, slice_get, refl, ap, sym, subst, ◌∙◌, inl, inr}
use Rattle.std.specs.Prelude.{IsErrAnd, not, if◌then◌else◌}
use Rattle.std.proofs.lemmas.Bool.{cases_eq}
use Rattle.std.proofs.lemmas.Option.{same_Some}
use Rattle.std.proofs.lemmas.Result.{on_ok_weaker}
use Rattle.handler_trait.specs.Facts.{Promises, RebootPromises}
use Rattle.net_semantics.proofs.Places.{change_at-there, length-change_at}
use Rattle.net_semantics.specs.Steps.{IsAnswer}
use Rattle.net_semantics.specs.Worlds.{change_at}
use Rattle.net_semantics.specs.declared.fault.StepFault.{StepFault}
use Rattle.net_semantics.specs.declared.fault.StepFault.TheVariants as fault
use Rattle.vst_base.specs.declared.step.Step.{Step}
use Rattle.vst_base.specs.declared.step.StepRefusal.{StepRefusal}
use Rattle.vst_base.specs.declared.step.TheConstants.{MAX_STEPS}
use Rattle.act_network.specs.ActRefusals.{act_refusal}
use Rattle.act_network.specs.ActSteps.{act_next}
use Rattle.act_network.specs.ActWorlds.{ActWorld, Listed, Turn}
use Rattle.act_network.specs.Disks.{Disks, is_new, opens_new}
use Rattle.act_network.specs.Words.{left_by}
use Rattle.act_network.specs.declared.step.ActStep.{ActStep}
use Rattle.act_network.specs.declared.step.ActStep.TheVariants as act
use Rattle.act_world.specs.ActViews.{ActView, IsSoundAct, IsSoundNode, ShowsAct}
use Rattle.act_world.specs.ByWords.{AnswersWord, LeavesSo, TakesWord}
use Rattle.act_world.specs.Moves.{AnswersAct, StopsSo, TakesAct, lies_down, on_node, one_taken, stops_in, turn_counts, with_notes}
use Rattle.act_world.specs.Nodes.{ShowsSo, stopped, with_disk, with_turn}
use Rattle.act_world.specs.Notes.{counted, noted}
use Rattle.act_world.specs.Turns.{going, telling}
use Rattle.act_world.specs.Views.{SavingView}
use Rattle.act_world.specs.declared.act_node.ActNode.{ActNode}
use Rattle.act_world.specs.declared.turn.Turn.TheVariants as turn
use Rattle.act_world.specs.declared.turn.Turn as code
use Rattle.vst_base.specs.declared.step.Step.TheVariants as step
use Rattle.act_world.proofs.Ones.{OneAt, one-more, one-same, puts-same}
use Rattle.act_world.proofs.Standing.{nodes-on, stays-same, up-so}
use Rattle.act_world.proofs.Stepping.{stop-takes}

-- two changes of one element, in either order
change_at-swap : {P : Type 0} (f g : P → P) (k : ℕ) (xs : List P) → ((x : P) → f (g x) ≡ g (f x)) → change_at f k (change_at g k xs) ≡ change_at g k (change_at f k xs)
change_at-swap f g k [] same = refl
change_at-swap f g zero (x ∷ xs) same = ap (λ y. y ∷ xs) (same x)
change_at-swap f g (suc k) (x ∷ xs) same = ap (λ ys. x ∷ ys) (change_at-swap f g k xs same)

-- where it is down, it stands for the same
module _ {S D I A O M X : Type 0} (n : ℕ) (k : D → D) where
  so-any : (listed : List (Listed I O)) (node : ActNode S D I A O M X) (s : S) (disk : D) (t : Option (Turn S I O M A)) (x : X) (left down : Option X) → left ≡ Some x →
      ShowsSo listed n node s disk t left down → ShowsSo listed n (with_disk k node) s disk t left down
  so-any listed node s disk t x None None is h = cc
  so-any listed node s disk t x None (Some y) is h = h
  so-any listed node s disk t x (Some z) None is h = h
  so-any listed node s disk t x (Some z) (Some y) is h = h

-- A node has another disk.
module _ {H S D I A O M X : Type 0} (n : ℕ) (k : D → D) where
  abbrev pub moved : ActView H S D I A O M X → ActView H S D I A O M X
  moved v = on_node v n (with_disk k)

  node-moved : (f : ActNode S D I A O M X → ActNode S D I A O M X) → ((x : ActNode S D I A O M X) → f (with_disk k x) ≡ with_disk k (f x)) → (v : ActView H S D I A O M X) →
      on_node (moved v) n f ≡ moved (on_node v n f)
  node-moved f same v =
      ap (λ nodes. let u : ActView H S D I A O M X = record { handlers = v.handlers; nodes = nodes; flights = v.flights; notes = v.notes; taken = v.taken } in u)
      (change_at-swap f (with_disk k) n v.nodes same)

  lies-moved : (v : ActView H S D I A O M X) (x : X) → lies_down (moved v) n x ≡ moved (lies_down v n x)
  lies-moved v x = ap (λ y. with_notes y (noted v.notes (step.Crash n))) (node-moved (stopped x) (λ z. refl) v)

  counts-moved : (v : ActView H S D I A O M X) (ev : Step I) (ss : List (ℕ × M)) (os : List O) → turn_counts (moved v) n ev ss os ≡ moved (turn_counts v n ev ss os)
  counts-moved v ev ss os =
      ap (λ y. with_notes y (counted v.notes n ev (length ss)))
      (node-moved (with_turn (going (telling ss os (length v.notes.listed) v.notes.sent))) (λ z. refl) v)

  out-moved : (v : ActView H S D I A O M X) → on_node (moved v) n (with_turn None) ≡ moved (on_node v n (with_turn None))
  out-moved v = node-moved (with_turn None) (λ z. refl) v

  lies-out : (v : ActView H S D I A O M X) (x : X) → lies_down (on_node (moved v) n (with_turn None)) n x ≡ moved (lies_down (on_node v n (with_turn None)) n x)
  lies-out v x = ap (λ y. lies_down y n x) (out-moved v) ∙ lies-moved (on_node v n (with_turn None)) x

  counted-out : (v : ActView H S D I A O M X) (x : X) (t : SavingView I A O M) →
      lies_down (turn_counts (on_node (moved v) n (with_turn None)) n t.event t.sends t.outputs) n x ≡ moved (lies_down (turn_counts (on_node v n (with_turn None)) n t.event t.sends t.outputs) n x)
  counted-out v x t =
      let out = on_node v n (with_turn None) in
      ap (λ y. lies_down (turn_counts y n t.event t.sends t.outputs) n x) (out-moved v)
      ∙ (ap (λ y. lies_down y n x) (counts-moved out t.event t.sends t.outputs) ∙ lies-moved (turn_counts out n t.event t.sends t.outputs) x)

  by-new : (v : ActView H S D I A O M X) (x : X) (t : SavingView I A O M) (new : Bool) →
      (if new then lies_down (turn_counts (on_node (moved v) n (with_turn None)) n t.event t.sends t.outputs) n x else lies_down (on_node (moved v) n (with_turn None)) n x)
      ≡ moved (if new then lies_down (turn_counts (on_node v n (with_turn None)) n t.event t.sends t.outputs) n x else lies_down (on_node v n (with_turn None)) n x)
  by-new v x t true = counted-out v x t
  by-new v x t false = lies-out v x

  -- it stops as it would with the disk from before, which tells the held state from the same others
  stops-moved : {K : Type 0} (d : Disks K D A X) (v : ActView H S D I A O M X) (x : X) (disk disk2 : D) → opens_new d n disk2 x ≡ opens_new d n disk x → (o : Option (code.Turn I A O M)) →
      stops_in d (on_node (moved v) n (with_turn None)) n x disk2 o ≡ moved (stops_in d (on_node v n (with_turn None)) n x disk o)
  stops-moved d v x disk disk2 same None = lies-out v x
  stops-moved d v x disk disk2 same (Some (turn.Saving t)) =
      ap (λ new. if new then lies_down (turn_counts (on_node (moved v) n (with_turn None)) n t.event t.sends t.outputs) n x else lies_down (on_node (moved v) n (with_turn None)) n x) same
      ∙ by-new v x t (opens_new d n disk x)
  stops-moved d v x disk disk2 same (Some (turn.Telling t)) = lies-out v x

  pub any-shows : (v : ActView H S D I A O M X) (node : ActNode S D I A O M X) → slice_get v.nodes n ≡ Some node → (x : X) → node.left ≡ Some x →
      (w : ActWorld S I O M D A X) → ShowsAct v w → ShowsAct (moved v) w
  any-shows v node there x is w sh = record {
    nodes = nodes-on v.nodes (change_at (with_disk k) n v.nodes) w.listed w.listed w.state w.state w.disk w.disk w.turn w.turn w.down w.down n (with_disk k node) (w.state n) (w.disk n) (w.turn n) (w.down n) (record {
      one = one-more (with_disk k) n v.nodes v.nodes node (one-same n v.nodes node there);
      state_is = puts-same n w.state (w.state n) refl;
      disk_is = puts-same n w.disk (w.disk n) refl;
      turn_is = puts-same n w.turn (w.turn n) refl;
      down_is = puts-same n w.down (w.down n) refl;
      shows = so-any n k w.listed node (w.state n) (w.disk n) (w.turn n) x node.left (w.down n) is (sh.nodes n node there);
      stays = stays-same n w.listed;
    }) sh.nodes;
    flights = sh.flights;
    image = sh.image;
    listed = sh.listed;
    sent = sh.sent;
  }

  -- what is sound says nothing of disks
  pub any-sound : (p : Promises S I O M) (v : ActView H S D I A O M X) (node : ActNode S D I A O M X) → slice_get v.nodes n ≡ Some node → IsSoundAct p v → IsSoundAct p (moved v)
  any-sound p v node there was = record {
    nodes = length-change_at (with_disk k) v.nodes n ∙ was.nodes;
    each = each-one;
    flights = was.flights;
    few_sent = was.few_sent;
    few_steps = was.few_steps;
  }
    where
      one : OneAt n v.nodes (change_at (with_disk k) n v.nodes) (with_disk k node)
      one = one-more (with_disk k) n v.nodes v.nodes node (one-same n v.nodes node there)

      here : IsSoundNode p n v.taken v.notes.sent (length v.notes.listed) (with_disk k node)
      here = record { state = (was.each n node there).state; turn = (was.each n node there).turn }

      each-one : (j : ℕ) (x : ActNode S D I A O M X) → slice_get (change_at (with_disk k) n v.nodes) j ≡ Some x → IsSoundNode p j v.taken v.notes.sent (length v.notes.listed) x
      each-one j x is = elim (cases_eq j n) [
        | inl same ↦
            (let e : with_disk k node ≡ x = same_Some (with_disk k node) x (sym one.here ∙ (ap (slice_get (change_at (with_disk k) n v.nodes)) (sym same) ∙ is)) in
            subst (λ i. IsSoundNode p i v.taken v.notes.sent (length v.notes.listed) x) (sym same) (subst (λ y. IsSoundNode p n v.taken v.notes.sent (length v.notes.listed) y) e here))
        | inr ne ↦ was.each j x (sym (one.there j ne) ∙ is)
      ]

opens-same : {K D A X : Type 0} (d : Disks K D A X) (disk disk2 : D) → ((k : K) → d.is_held disk2 k ≡ d.is_held disk k) → (o : Option K) → is_new d disk2 o ≡ is_new d disk o
opens-same d disk disk2 knows None = refl
opens-same d disk disk2 knows (Some k) = ap not (knows k)

-- a node that has stopped is down
module _ {H S D I A O M X : Type 0} (n : ℕ) (x : X) where
  abbrev IsDown : ActView H S D I A O M X → Type 0
  IsDown v = (node : ActNode S D I A O M X) × (slice_get v.nodes n ≡ Some node) × (node.left ≡ Some x)

  lies-there : (v : ActView H S D I A O M X) (node : ActNode S D I A O M X) → slice_get v.nodes n ≡ Some node → IsDown (lies_down v n x)
  lies-there v node there = (stopped x node, change_at-there (stopped x) v.nodes n node there, refl)

  down-by : (v : ActView H S D I A O M X) (node : ActNode S D I A O M X) → slice_get v.nodes n ≡ Some node → (t : SavingView I A O M) (new : Bool) →
      IsDown (if new then lies_down (turn_counts v n t.event t.sends t.outputs) n x else lies_down v n x)
  down-by v node there t true =
      let on : Option (code.Turn I A O M) = going (telling t.sends t.outputs (length v.notes.listed) v.notes.sent) in
      lies-there (turn_counts v n t.event t.sends t.outputs) (with_turn on node) (change_at-there (with_turn on) v.nodes n node there)
  down-by v node there t false = lies-there v node there

  stops-there : {K : Type 0} (d : Disks K D A X) (v : ActView H S D I A O M X) (node : ActNode S D I A O M X) → slice_get v.nodes n ≡ Some node → (disk : D) (o : Option (code.Turn I A O M)) →
      IsDown (stops_in d v n x disk o)
  stops-there d v node there disk None = lies-there v node there
  stops-there d v node there disk (Some (turn.Saving t)) = down-by v node there t (opens_new d n disk x)
  stops-there d v node there disk (Some (turn.Telling t)) = lies-there v node there

module _ {H S K D I A O M X W : Type 0} (h : RebootPromises S K I O M) (d : Disks K D A X) (by_word : D → W → X) (word : W) where
  -- A node stops, of whose disk a word left this.
  module _ (v mid after : ActView H S D I A O M X) (n : ℕ) (was : IsSoundAct h.handlers v) (few : v.taken < MAX_STEPS) (below : n < h.handlers.meaning.nodes) (x : X)
      (so : LeavesSo d n v mid (λ disk. by_word disk word) x) where
    pub mid-sound : IsSoundAct h.handlers mid
    mid-sound = subst (λ y. IsSoundAct h.handlers y) (sym so.after_is) (any-sound n (λ _. so.disk) h.handlers v so.node so.there was)

    abbrev done : ActView H S D I A O M X
    done = stops_in d (on_node v n (with_turn None)) n x so.node.disk so.node.turn

    -- the node at the stop
    stop-is : (stop : StopsSo d n mid after x) → after ≡ moved n (λ _. so.disk) done
    stop-is stop =
        let there : slice_get (moved n (λ _. so.disk) v).nodes n ≡ Some stop.node = subst (λ y. slice_get y.nodes n ≡ Some stop.node) so.after_is stop.there in
        let same : with_disk (λ _. so.disk) so.node ≡ stop.node = same_Some (with_disk (λ _. so.disk) so.node) stop.node (sym (change_at-there (with_disk (λ _. so.disk)) v.nodes n so.node so.there) ∙ there) in
        stop.after_is
        ∙ (ap (λ y. stops_in d (on_node y n (with_turn None)) n x stop.node.disk stop.node.turn) so.after_is
        ∙ (ap (λ z. stops_in d (on_node (moved n (λ _. so.disk) v) n (with_turn None)) n x z.disk z.turn) (sym same)
        ∙ stops-moved n (λ _. so.disk) d v x so.node.disk so.disk (opens-same d so.node.disk so.disk so.knows (d.opens n x)) so.node.turn))

    module _ (stop : StopsSo d n mid after x) (up : so.node.left ≡ None) where
      abbrev takes : TakesAct h d (act.Stop n x) v (one_taken done)
      takes = stop-takes h d v n was few below so.node so.there up x done refl

      out-there : slice_get (on_node v n (with_turn None)).nodes n ≡ Some (with_turn None so.node)
      out-there = change_at-there (with_turn None) v.nodes n so.node so.there

      word-leads : (w : ActWorld S I O M D A X) → ShowsAct v w → ShowsAct (one_taken (moved n (λ _. so.disk) done)) (act_next h.handlers.meaning h.recovery d w (act.Stop n (by_word (w.disk n) word)))
      word-leads w sh =
          let stands = up-so w.listed n so.node (w.state n) (w.disk n) (w.turn n) so.node.left (w.down n) (sh.nodes n so.node so.there) up in
          let left-is : x ≡ by_word (w.disk n) word = so.left_is ∙ ap (λ disk. by_word disk word) (stands.1) in
          let down = stops-there n x d (on_node v n (with_turn None)) (with_turn None so.node) out-there so.node.disk so.node.turn in
          any-shows n (λ _. so.disk) (one_taken done) (down.0) (down.1) x (down.2) (act_next h.handlers.meaning h.recovery d w (act.Stop n (by_word (w.disk n) word)))
          (subst (λ y. ShowsAct (one_taken done) (act_next h.handlers.meaning h.recovery d w (act.Stop n y))) left-is (takes.leads w sh))

      pub word-takes : TakesWord d by_word h (act.Stop n word) v (one_taken after)
      word-takes = subst (λ y. TakesWord d by_word h (act.Stop n word) v (one_taken y)) (sym (stop-is stop)) (record {
        leads = word-leads;
        counts = takes.counts;
        keeps =
            let down = stops-there n x d (on_node v n (with_turn None)) (with_turn None so.node) out-there so.node.disk so.node.turn in
            any-sound n (λ _. so.disk) h.handlers (one_taken done) (down.0) (down.1) takes.keeps;
      })

  -- what a step answers
  module _ (s : ActStep I W) (v after : ActView H S D I A O M X) where
    abbrev pub FirstBy : Option StepRefusal → Type 0
    FirstBy why = (w : ActWorld S I O M D A X) → ShowsAct v w → act_refusal h.handlers.meaning w (left_by by_word w s) ≡ why

    pub word-taken : {T : Type 0} (y : T) → FirstBy None → TakesWord d by_word h s v after → after.handlers ≡ v.handlers → AnswersWord d by_word {R = T} h s v after (Ok y)
    word-taken y tells takes same = record { refused = tells; unchanged = tt; taken = takes; same_handlers = same }

    pub word-refused : {T : Type 0} (why : StepRefusal) (answer : Result T StepFault) → IsErrAnd answer (λ y. y ≡ fault.Refused why) → FirstBy (Some why) → after ≡ v →
        AnswersWord d by_word {R = T} h s v after answer
    word-refused why (Ok y) is tells same = absurd is
    word-refused {T = T} why (Err y) is tells same = subst (λ z. AnswersWord d by_word {R = T} h s v after (Err z)) (sym is) (record {
      refused = tells;
      unchanged = λ ne. same;
      taken = tt;
      same_handlers = ap (λ z. z.handlers) same;
    })

    pub word-memory : {T : Type 0} (answer : Result T StepFault) → IsErrAnd answer (λ y. y ≡ fault.Memory) → FirstBy None → after.handlers ≡ v.handlers →
        AnswersWord d by_word {R = T} h s v after answer
    word-memory (Ok y) is tells same = absurd is
    word-memory {T = T} (Err y) is tells same = subst (λ z. AnswersWord d by_word {R = T} h s v after (Err z)) (sym is) (record {
      refused = tells;
      unchanged = λ ne. absurd (ne refl);
      taken = tt;
      same_handlers = same;
    })

module _ {H S K D I A O M X W : Type 0} (h : RebootPromises S K I O M) (d : Disks K D A X) (by_word : D → W → X) where
  -- a step of which no word says anything
  pub as-word : {T : Type 0} (step s : ActStep I W) (s2 : ActStep I X) → step ≡ s → ((w : ActWorld S I O M D A X) → left_by by_word w s ≡ s2) → (v after : ActView H S D I A O M X) (answer : Result T StepFault) →
      AnswersAct h d s2 v after answer → AnswersWord d by_word {R = T} h step v after answer
  as-word {T = T} step s s2 is same v after answer a = subst (λ y. AnswersWord d by_word {R = T} h y v after answer) (sym is) (record {
    refused = λ w sh. subst (λ y. IsAnswer answer (act_refusal h.handlers.meaning w y)) (sym (same w)) (a.refused w sh);
    unchanged = a.unchanged;
    taken = on_ok_weaker answer (λ t. record {
      leads = λ w sh. subst (λ y. ShowsAct after (act_next h.handlers.meaning h.recovery d w y)) (sym (same w)) (t.leads w sh);
      counts = t.counts;
      keeps = t.keeps;
    }) a.taken;
    same_handlers = a.same_handlers;
  })
