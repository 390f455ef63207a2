-- What the code does of turns that go on, of stops and of starts, as contracts see it.
use Rattle.std.proofs.Common.{◌≡◌, ◌≢◌, ℕ, ◌+◌, ◌<◌, ◌^◌, Bool, true, false, List, [], ◌∷◌, length, Option, Some, None, IfSome, slice_get, refl, ap, sym, subst, ◌∙◌, arith}
use Rattle.std.specs.Prelude.{if◌then◌else◌}
use Rattle.std.proofs.lemmas.Option.{same_Some}
use Rattle.lists.specs.Options.{of_some, some_holds}
use Rattle.lists.specs.Places.{slice_get_there}
use Rattle.handler_trait.specs.Facts.{Promises}
use Rattle.net_semantics.proofs.Places.{change_at-there, length-change_at}
use Rattle.vst_base.specs.declared.step.Step.{Step}
use Rattle.vst_base.specs.declared.step.TheConstants.{MAX_STEPS}
use Rattle.act_network.specs.Disks.{Disks, opens_new}
use Rattle.act_world.specs.ActViews.{ActView, IsSoundAct}
use Rattle.act_world.specs.Moves.{CutsSo, SavesOn, StopsSo, cut_in, cut_off, lies_down, on_node, one_sent, saves_on, stops_in, tells_on, turn_counts, with_notes}
use Rattle.act_world.specs.Nodes.{IsSoundSaving, IsSoundTelling, IsSoundTurn, with_disk, with_turn}
use Rattle.act_world.specs.Notes.{output_sent}
use Rattle.act_world.specs.Refusals.{turn_at}
use Rattle.act_world.specs.Turns.{ActsNext, PutsNext, SendsNext, going, saving, telling, uncounted}
use Rattle.act_world.specs.Views.{SavingView, TellingView}
use Rattle.act_world.specs.declared.act_node.ActNode.{ActNode}
use Rattle.act_world.specs.declared.turn.Turn.{Turn}
use Rattle.act_world.specs.declared.turn.Turn.TheVariants as turn

module _ {H S D I A O M X : Type 0} where
  -- what is known of the node there
  pub made-there : (v after : ActView H S D I A O M X) (n : ℕ) (f : ActNode S D I A O M X → ActNode S D I A O M X → ActNode S D I A O M X) → n < length v.nodes →
      IfSome (slice_get v.nodes n) (λ at. after ≡ on_node v n (f at)) → (node : ActNode S D I A O M X) × (slice_get v.nodes n ≡ Some node) × (after ≡ on_node v n (f node))
  made-there v after n f lt all = let t = slice_get_there v.nodes n lt in (t.0, t.1, of_some (λ at. after ≡ on_node v n (f at)) (slice_get v.nodes n) t.0 t.1 all)

  pub counts-as : (a b after : ActView H S D I A O M X) (n : ℕ) (e1 e2 : Step I) (s1 s2 : List (ℕ × M)) (o1 o2 : List O) → after ≡ turn_counts a n e1 s1 o1 →
      a ≡ b → e1 ≡ e2 → s1 ≡ s2 → o1 ≡ o2 → after ≡ turn_counts b n e2 s2 o2
  counts-as a b after n e1 e2 s1 s2 o1 o2 is views events sends outputs =
      is ∙ (ap (λ x. turn_counts x n e1 s1 o1) views
      ∙ (ap (λ x. turn_counts b n x s1 o1) events ∙ (ap (λ x. turn_counts b n e2 x o1) sends ∙ ap (λ x. turn_counts b n e2 s2 x) outputs)))

  -- the nodes of a view of which one changed
  pub on-below : (v after : ActView H S D I A O M X) (n : ℕ) (f : ActNode S D I A O M X → ActNode S D I A O M X) → after ≡ on_node v n f → n < length v.nodes →
      n < length after.nodes
  on-below v after n f is lt = let a = ap (λ x. length x.nodes) is in let b = length-change_at f v.nodes n in omega (arith, a, b, lt)

  -- after the last act of a turn on the areas
  pub last-made : {K : Type 0} (d : Disks K D A X) (keep : S → K) (n : ℕ) (v mid : ActView H S D I A O M X) (a : A) → n < length v.nodes →
      IfSome (slice_get v.nodes n) (λ at. mid ≡ on_node v n (with_disk (λ disk. d.learns (keep at.state) (d.does a disk)))) → (n < length mid.nodes) × (mid.notes ≡ v.notes)
  last-made d keep n v mid a lt made =
      let m = made-there v mid n (λ at. with_disk (λ disk. d.learns (keep at.state) (d.does a disk))) lt made in
      (on-below v mid n (with_disk (λ disk. d.learns (keep m.0.state) (d.does a disk))) (m.2) lt, ap (λ x. x.notes) (m.2))

  -- the last act of a turn on the areas is done
  pub saved-last : {K : Type 0} (d : Disks K D A X) (keep : S → K) (n : ℕ) (v mid after : ActView H S D I A O M X) (t u : SavingView I A O M) (a : A) → n < length v.nodes →
      ActsNext t u a → u.acts ≡ [] →
      IfSome (slice_get v.nodes n) (λ at. mid ≡ on_node v n (with_disk (λ disk. d.learns (keep at.state) (d.does a disk)))) →
      (event : Step I) (sends : List (ℕ × M)) (outputs : List O) → event ≡ u.event → sends ≡ u.sends → outputs ≡ u.outputs → after ≡ turn_counts mid n event sends outputs →
      SavesOn d n v after keep t
  saved-last d keep n v mid after t u a lt next none made event sends outputs e s o is =
      let m = made-there v mid n (λ at. with_disk (λ disk. d.learns (keep at.state) (d.does a disk))) lt made in
      record {
        node = m.0;
        there = m.1;
        act = a;
        more = [];
        acts = next.acts ∙ ap (λ xs. a ∷ xs) none;
        after_is = counts-as mid (on_node v n (with_disk (λ disk. d.learns (keep m.0.state) (d.does a disk)))) after n event t.event sends t.sends outputs t.outputs is
            (m.2) (e ∙ next.event) (s ∙ next.sends) (o ∙ next.outputs);
      }

  saves-more : {K : Type 0} (d : Disks K D A X) (kept : K) (n : ℕ) (v : ActView H S D I A O M X) (t : SavingView I A O M) (a : A) (more : List A) → more ≢ [] →
      on_node (on_node v n (with_disk (d.does a))) n (with_turn (Some (turn.Saving (saving t.event more t.sends t.outputs)))) ≡ saves_on d kept v n t a more
  saves-more d kept n v t a [] some = absurd (some refl)
  saves-more d kept n v t a (b ∷ more) some = refl

  -- an act of a turn on the areas is done, and not the last
  pub saved-on : {K : Type 0} (d : Disks K D A X) (keep : S → K) (n : ℕ) (v mid after : ActView H S D I A O M X) (t u : SavingView I A O M) (a : A) → n < length v.nodes →
      ActsNext t u a → u.acts ≢ [] → mid ≡ on_node v n (with_disk (d.does a)) → after ≡ on_node mid n (with_turn (Some (turn.Saving u))) → SavesOn d n v after keep t
  saved-on d keep n v mid after t u a lt next some made is =
      let there = slice_get_there v.nodes n lt in
      let same : u ≡ saving t.event u.acts t.sends t.outputs =
      ap (λ e. saving e u.acts u.sends u.outputs) next.event ∙ (ap (λ s. saving t.event u.acts s u.outputs) next.sends ∙ ap (λ o. saving t.event u.acts t.sends o) next.outputs) in
      record {
        node = there.0;
        there = there.1;
        act = a;
        more = u.acts;
        acts = next.acts;
        after_is = is ∙ (ap (λ x. on_node x n (with_turn (Some (turn.Saving u)))) made
            ∙ (ap (λ y. on_node (on_node v n (with_disk (d.does a))) n (with_turn (Some (turn.Saving y)))) same ∙ saves-more d (keep there.0.state) n v t a u.acts some));
      }

  -- the next packet of a turn that counts is sent
  pub sent-on : (n : ℕ) (v mid after : ActView H S D I A O M X) (t u : TellingView O M) (s : ℕ × M) (number : ℕ) → SendsNext t u s → number ≡ t.number →
      mid ≡ one_sent v n number s → after ≡ on_node mid n (with_turn (going u)) → after ≡ tells_on v n t t.sends t.outputs
  sent-on n v mid after t u s number next number-is sent is =
      let same : u ≡ telling u.sends t.outputs t.place (t.number + 1) =
      ap (λ o. telling u.sends o u.place u.number) next.outputs ∙ (ap (λ p. telling u.sends t.outputs p u.number) next.place ∙ ap (λ k. telling u.sends t.outputs t.place k) next.number) in
      is ∙ (ap (λ x. on_node x n (with_turn (going u))) sent
      ∙ (ap (λ k. on_node (one_sent v n k s) n (with_turn (going u))) number-is
      ∙ (ap (λ y. on_node (one_sent v n t.number s) n (with_turn (going y))) same ∙ ap (λ xs. tells_on v n t xs t.outputs) (sym next.sends))))

  -- its next output is sent
  pub put-on : (n : ℕ) (v mid after : ActView H S D I A O M X) (t u : TellingView O M) (o : O) (place : ℕ) → t.sends ≡ [] → PutsNext t u o → place ≡ u.place →
      mid ≡ with_notes v (output_sent v.notes place o) → after ≡ on_node mid n (with_turn (going u)) → after ≡ tells_on v n t t.sends t.outputs
  put-on n v mid after t u o place none next place-is put is =
      let same : u ≡ telling [] u.outputs t.place t.number =
      ap (λ s. telling s u.outputs u.place u.number) (next.sends ∙ none) ∙ (ap (λ p. telling [] u.outputs p u.number) next.place ∙ ap (λ k. telling [] u.outputs t.place k) next.number) in
      is ∙ (ap (λ x. on_node x n (with_turn (going u))) put
      ∙ (ap (λ p. on_node (with_notes v (output_sent v.notes p o)) n (with_turn (going u))) (place-is ∙ next.place)
      ∙ (ap (λ y. on_node (with_notes v (output_sent v.notes t.place o)) n (with_turn (going y))) same
      ∙ (ap (λ xs. tells_on v n t [] xs) (sym next.outputs) ∙ ap (λ ss. tells_on v n t ss t.outputs) (sym none)))))

  -- the turn of a node is cut
  module _ {K : Type 0} (d : Disks K D A X) (n : ℕ) (v : ActView H S D I A O M X) (left : X) where
    abbrev out : ActView H S D I A O M X
    out = on_node v n (with_turn None)

    pub cuts-some : (after : ActView H S D I A O M X) (t : SavingView I A O M) → n < length v.nodes → Some t ≡ uncounted (turn_at (slice_get v.nodes n)) →
        IfSome (slice_get out.nodes n) (λ at. after ≡ cut_in d out n left at.disk t) → CutsSo d n v after left
    cuts-some after t lt is cut =
        let at = slice_get_there v.nodes n lt in
        let turn-is : Some t ≡ uncounted at.0.turn = is ∙ ap (λ o. uncounted (turn_at o)) at.1 in
        record {
          node = at.0;
          there = at.1;
          after_is = of_some (λ y. after ≡ cut_in d out n left y.disk t) (slice_get out.nodes n) (with_turn None at.0) (change_at-there (with_turn None) v.nodes n at.0 at.1) cut
              ∙ ap (cut_off d out n left at.0.disk) turn-is;
        }

    pub cuts-none : (after : ActView H S D I A O M X) → n < length v.nodes → None ≡ uncounted (turn_at (slice_get v.nodes n)) → after ≡ out → CutsSo d n v after left
    cuts-none after lt is same =
        let at = slice_get_there v.nodes n lt in
        let turn-is : None ≡ uncounted at.0.turn = is ∙ ap (λ o. uncounted (turn_at o)) at.1 in
        record { node = at.0; there = at.1; after_is = same ∙ ap (cut_off d out n left at.0.disk) turn-is }

    if-length : (a b : ActView H S D I A O M X) (new : Bool) → length a.nodes ≡ length b.nodes → length (if new then a else b).nodes ≡ length b.nodes
    if-length a b true same = same
    if-length a b false same = refl

    cut-length : (disk : D) (o : Option (SavingView I A O M)) → length (cut_off d out n left disk o).nodes ≡ length v.nodes
    cut-length disk None = length-change_at (with_turn None) v.nodes n
    cut-length disk (Some t) =
        let t2 = going (telling t.sends t.outputs (length v.notes.listed) v.notes.sent) in
        if-length (turn_counts out n t.event t.sends t.outputs) out (opens_new d n disk left) (length-change_at (with_turn t2) out.nodes n) ∙ length-change_at (with_turn None) v.nodes n

    pub cut-below : (mid : ActView H S D I A O M X) → CutsSo d n v mid left → n < length v.nodes → n < length mid.nodes
    cut-below mid cut lt = let a = ap (λ x. length x.nodes) cut.after_is in let b = cut-length cut.node.disk (uncounted cut.node.turn) in omega (arith, a, b, lt)

    lies-if : (a b : ActView H S D I A O M X) (new : Bool) → lies_down (if new then a else b) n left ≡ (if new then lies_down a n left else lies_down b n left)
    lies-if a b true = refl
    lies-if a b false = refl

    lies-cut : (disk : D) (o : Option (Turn I A O M)) → lies_down (cut_off d out n left disk (uncounted o)) n left ≡ stops_in d out n left disk o
    lies-cut disk None = refl
    lies-cut disk (Some (turn.Saving t)) = lies-if (turn_counts out n t.event t.sends t.outputs) out (opens_new d n disk left)
    lies-cut disk (Some (turn.Telling t)) = refl

    -- then it is down
    pub stops-as : (mid after : ActView H S D I A O M X) → CutsSo d n v mid left → after ≡ lies_down mid n left → StopsSo d n v after left
    stops-as mid after cut lies = record {
      node = cut.node;
      there = cut.there;
      after_is = lies ∙ (ap (λ x. lies_down x n left) cut.after_is ∙ lies-cut cut.node.disk cut.node.turn);
    }

-- what is known of a node's turn, where the world is sound
module _ {H S D I A O M X : Type 0} (p : Promises S I O M) (v : ActView H S D I A O M X) (was : IsSoundAct p v) (n : ℕ) (node : ActNode S D I A O M X) (there : slice_get v.nodes n ≡ Some node) where
  pub saving-sound : (t : SavingView I A O M) → node.turn ≡ Some (turn.Saving t) → IsSoundSaving p.meaning.nodes t
  saving-sound t is = subst (IsSoundTurn p.meaning.nodes v.notes.sent (length v.notes.listed)) is (was.each n node there).turn

  pub telling-sound : (t : TellingView O M) → node.turn ≡ Some (turn.Telling t) → IsSoundTelling p.meaning.nodes v.notes.sent (length v.notes.listed) t
  telling-sound t is = subst (IsSoundTurn p.meaning.nodes v.notes.sent (length v.notes.listed)) is (was.each n node there).turn

  pub saving-fits : v.taken < MAX_STEPS → (t : SavingView I A O M) → node.turn ≡ Some (turn.Saving t) → v.notes.sent + length t.sends < 2 ^ 32
  saving-fits few t is = let a = (saving-sound t is).few in let b = was.few_sent in omega (arith, a, b, few)

  pub telling-fits : v.taken < MAX_STEPS → (t : TellingView O M) → node.turn ≡ Some (turn.Telling t) → t.number + length t.sends < 2 ^ 32
  telling-fits few t is = let a = (telling-sound t is).numbers in let b = was.few_sent in omega (arith, a, b, few)

  -- the node without its turn
  pub out-state : IfSome (slice_get (on_node v n (with_turn None)).nodes n) (λ at. p.sound n at.state)
  out-state = some_holds (λ y. p.sound n y.state) (slice_get (on_node v n (with_turn None)).nodes n) (with_turn None node) (change_at-there (with_turn None) v.nodes n node there)
      (was.each n node there).state.keeps

-- the sends of a turn that has not counted have numbers that are left
module _ {H S D I A O M X : Type 0} (p : Promises S I O M) (v : ActView H S D I A O M X) (was : IsSoundAct p v) (n : ℕ) (few : v.taken < MAX_STEPS) (t : SavingView I A O M) where
  uncounted-is : (o : Option (Turn I A O M)) → Some t ≡ uncounted o → o ≡ Some (turn.Saving t)
  uncounted-is None is = cc
  uncounted-is (Some (turn.Saving x)) is = ap (λ y. Some (turn.Saving y)) (sym (same_Some t x is))
  uncounted-is (Some (turn.Telling x)) is = cc

  uncounted-at : (o : Option (ActNode S D I A O M X)) → slice_get v.nodes n ≡ o → Some t ≡ uncounted (turn_at o) → v.notes.sent + length t.sends < 2 ^ 32
  uncounted-at None there is = cc
  uncounted-at (Some node) there is = saving-fits p v was n node there few t (uncounted-is node.turn is)

  pub uncounted-fits : Some t ≡ uncounted (turn_at (slice_get v.nodes n)) → v.notes.sent + length t.sends < 2 ^ 32
  uncounted-fits is = uncounted-at (slice_get v.nodes n) refl is
