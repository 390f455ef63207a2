-- What the code does of a packet that comes, of a node that stops and of one that starts, as contracts see it.
use Rattle.std.proofs.Common.{◌≡◌, ℕ, ◌<◌, Bool, true, false, List, [], get_or, length, set, Option, Some, None, IfSome, slice_get, refl, ap, sym, subst, ◌∙◌, Result, Ok, Err}
use Rattle.std.specs.Prelude.{IsSome, OnOk, not, if◌then◌else◌}
use Rattle.std.proofs.lemmas.Bool.{false≢true}
use Rattle.lists.specs.Options.{if_some_weaker, of_some}
use Rattle.handler_trait.specs.Handling.{Does, Effect, Gathered, Recovery}
use Rattle.net_semantics.proofs.Places.{set-change_at}
use Rattle.net_semantics.specs.Held.{held_less}
use Rattle.net_semantics.specs.Worlds.{change_at}
use Rattle.vst_base.specs.declared.step.Step.{Step}
use Rattle.act_network.specs.Disks.{Disks, is_new, opens_new}
use Rattle.act_world.specs.ActViews.{ActView}
use Rattle.act_world.specs.Flights.{flight_copies, with_packet}
use Rattle.act_world.specs.Moves.{Delivers, StartsSo, cut_in, on_node, starts_from, turn_counts, with_flights, with_notes}
use Rattle.act_world.specs.Nodes.{with_state}
use Rattle.act_world.specs.Notes.{noted}
use Rattle.act_world.specs.Refusals.{left_at}
use Rattle.act_world.specs.Views.{FlightView, NotesView, SavingView}
use Rattle.act_world.specs.declared.act_node.ActNode.{ActNode}
use Rattle.act_world.proofs.Coding.{flight-below, flight-there, happens-at, node-set, seen}

pub on_ok_two : {T E P Q R : Type 0} (r : Result T E) → (P → Q → R) → OnOk r P → OnOk r Q → OnOk r R
on_ok_two (Ok x) f a b = f a b
on_ok_two (Err e) f a b = tt

-- a node changes, and what it does is noted
module _ {H S D I A O M X : Type 0} (hs : H) (items : List (ActNode S D I A O M X)) (fl : List (FlightView M)) (nt : NotesView I O) (tk : ℕ) (v : ActView H S D I A O M X)
    (is : seen hs items fl nt tk items ≡ v) (n i : ℕ) (node : ActNode S D I A O M X) (same : i ≡ n) (below : n < length items) (read : node ≡ get_or items i node) where
  pub noted-set : (f : ActNode S D I A O M X → ActNode S D I A O M X) (y : ActNode S D I A O M X) → y ≡ f node → (notes : NotesView I O) (s t : Step I) → notes ≡ noted nt s → s ≡ t →
      seen hs items fl notes tk (set items i y) ≡ with_notes (on_node v n f) (noted v.notes t)
  noted-set f y e notes s t noted-is same-step =
      ap (λ x. with_notes x notes) (node-set hs items fl nt tk v is n i node same below read f y e)
      ∙ ap (with_notes (on_node v n f)) (noted-is ∙ (ap (noted nt) same-step ∙ ap (λ x. noted x.notes t) is))

-- a copy of a packet comes to its destination
module _ {H S D I A O M X : Type 0} (hs : H) (items : List (ActNode S D I A O M X)) (fl : List (FlightView M)) (nt : NotesView I O) (tk : ℕ) (v : ActView H S D I A O M X)
    (is : seen hs items fl nt tk items ≡ v) (k : ℕ) (copy : 0 < flight_copies (slice_get v.flights k)) (f : FlightView M) (read : f ≡ get_or fl k f) where
  less-set : (y : FlightView M) → y ≡ with_packet held_less f → set fl k y ≡ change_at (with_packet held_less) k v.flights
  less-set y e =
      set-change_at (with_packet held_less) fl k f y (flight-below hs items fl nt tk v is k k f refl copy) (e ∙ ap (with_packet held_less) read)
      ∙ ap (λ x. change_at (with_packet held_less) k x.flights) is

  pub delivers-at : (message : ℕ → S → ℕ → M → Effect S O M) (sound : ℕ → S → Type 0) (content : M) → f.packet.content ≡ Some content →
      (n i : ℕ) (node : ActNode S D I A O M X) → n ≡ f.packet.destination → i ≡ n → n < length items → node ≡ get_or items i node →
      (from : ℕ) → from ≡ f.packet.source → (s : S) (before after : Gathered O M) → before.outputs ≡ [] → before.sends ≡ [] →
      Does (message n node.state from content) s before after → sound n s → (y : FlightView M) → y ≡ with_packet held_less f →
      Delivers message sound k v (record { handlers = hs; nodes = set items i (with_state s node); flights = set fl k y; notes = nt; taken = tk }) after
  delivers-at message sound content content-is n i node to at lt got from source s before after outs sends does keeps y less =
      let dest = f.packet.destination in
      let v2 = with_flights v (change_at (with_packet held_less) k v.flights) in
      let is2 : seen hs items (set fl k y) nt tk items ≡ v2 = ap (λ x. with_flights x (set fl k y)) is ∙ ap (with_flights v) (less-set y less) in
      let does2 : Does (message dest node.state f.packet.source content) s before after =
      subst (λ j. Does (message dest node.state j content) s before after) source (subst (λ j. Does (message j node.state from content) s before after) to does) in
      record {
        flight = f;
        there = flight-there hs items fl nt tk v is k k f refl copy read;
        content = content;
        content_is = content-is;
        happens = happens-at hs items (set fl k y) nt tk v2 is2 dest i node (at ∙ to) (subst (λ j. j < length items) to lt) got
            (λ x. message dest x f.packet.source content) (sound dest) s before after outs sends does2 (subst (λ j. sound j s) to keeps);
      }

module _ {S K D I A O M X : Type 0} (d : Disks K D A X) (n : ℕ) where
  -- whether areas open as another state
  pub opens-some : (node : ActNode S D I A O M X) (left : X) (found : Option K) (kept : K) (held : Bool) → found ≡ d.opens n left → found ≡ Some kept → held ≡ d.is_held node.disk kept →
      not held ≡ opens_new d n node.disk left
  opens-some node left found kept held told is held-is = ap not held-is ∙ sym (ap (is_new d node.disk) (sym told ∙ is))

  pub opens-none : (node : ActNode S D I A O M X) (left : X) (found : Option K) → found ≡ d.opens n left → found ≡ None → false ≡ opens_new d n node.disk left
  opens-none node left found told is = sym (ap (is_new d node.disk) (sym told ∙ is))

module _ {H S K D I A O M X : Type 0} (d : Disks K D A X) (n : ℕ) where
  -- a turn that a stop cuts counts, or does not
  pub cut-counts : (v after : ActView H S D I A O M X) (left : X) (t : SavingView I A O M) (new : Bool) → new ≡ true →
      IfSome (slice_get v.nodes n) (λ at. new ≡ opens_new d n at.disk left) → after ≡ turn_counts v n t.event t.sends t.outputs →
      IfSome (slice_get v.nodes n) (λ at. after ≡ cut_in d v n left at.disk t)
  cut-counts v after left t new held told is =
      if_some_weaker (slice_get v.nodes n) (λ at so. is ∙ ap (λ (b : Bool). if b then turn_counts v n t.event t.sends t.outputs else v) (sym held ∙ so)) told

  pub cut-never : (v : ActView H S D I A O M X) (left : X) (t : SavingView I A O M) (new : Bool) → new ≡ false →
      IfSome (slice_get v.nodes n) (λ at. new ≡ opens_new d n at.disk left) → IfSome (slice_get v.nodes n) (λ at. v ≡ cut_in d v n left at.disk t)
  cut-never v left t new held told =
      if_some_weaker (slice_get v.nodes n) (λ at so. ap (λ (b : Bool). if b then turn_counts v n t.event t.sends t.outputs else v) (sym held ∙ so)) told

some-there : {P : Type 0} (o : Option P) → IsSome o → (x : P) × (o ≡ Some x)
some-there None is = absurd (false≢true is)
some-there (Some x) is = (x, refl)

-- a node that is down
pub left-there : {S D I A O M X : Type 0} (o : Option (ActNode S D I A O M X)) → IsSome (left_at o) → (node : ActNode S D I A O M X) × (left : X) × (o ≡ Some node) × (node.left ≡ Some left)
left-there None down = absurd (false≢true down)
left-there (Some node) down = let l = some-there node.left down in (node, l.0, refl, l.1)

module _ {H S K D I A O M X : Type 0} (d : Disks K D A X) (n : ℕ) (r : Recovery S K) (fits : K → Type 0) (sound : S → Type 0) (v after : ActView H S D I A O M X)
    (down : IsSome (left_at (slice_get v.nodes n))) (found : Option K) (told : IfSome (left_at (slice_get v.nodes n)) (λ left. found ≡ d.opens n left)) where
  opens-as : (node : ActNode S D I A O M X) (left : X) → slice_get v.nodes n ≡ Some node → node.left ≡ Some left → found ≡ d.opens n left
  opens-as node left there is = of_some (λ x. found ≡ d.opens n x) (left_at (slice_get v.nodes n)) left (ap left_at there ∙ is) told

  -- a node starts from what it found
  pub starts-some : (k : K) → found ≡ Some k → fits k → sound (r.reboot n k) → IfSome (left_at (slice_get v.nodes n)) (λ left. after ≡ starts_from r d v n left (Some k)) →
      StartsSo d n v after r fits sound
  starts-some k is fit keeps starts =
      let at = left-there (slice_get v.nodes n) down in
      let opens : d.opens n at.1 ≡ Some k = sym (opens-as at.0 at.1 at.2 at.3) ∙ is in
      record {
        node = at.0;
        there = at.2;
        left = at.1;
        left_is = at.3;
        after_is = of_some (λ x. after ≡ starts_from r d v n x (Some k)) (left_at (slice_get v.nodes n)) at.1 (ap left_at (at.2) ∙ at.3) starts
            ∙ ap (starts_from r d v n at.1) (sym opens);
        keeps = rw opens (fit, keeps);
      }

  -- it finds none, and stays down
  pub starts-none : found ≡ None → after ≡ v → StartsSo d n v after r fits sound
  starts-none is same =
      let at = left-there (slice_get v.nodes n) down in
      let opens : d.opens n at.1 ≡ None = sym (opens-as at.0 at.1 at.2 at.3) ∙ is in
      record {
        node = at.0;
        there = at.2;
        left = at.1;
        left_is = at.3;
        after_is = same ∙ ap (starts_from r d v n at.1) (sym opens);
        keeps = rw opens tt;
      }
