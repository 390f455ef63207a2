-- What the code changes of a node, as contracts see it.
use Rattle.std.proofs.Common.{◌≡◌, ◌≢◌, ℕ, ◌<◌, ◌==◌, true, false, arith, eqb, List, [], ◌∷◌, ◌++◌, get_or, length, set, Option, Some, slice_get, refl, ap, sym, subst, ◌∙◌, ◌+◌, zero, suc}
use Rattle.std.proofs.lemmas.Bool.{false≢true, ne_eqb}
use Rattle.std.proofs.lemmas.Option.{slice_get_read}
use Rattle.handler_trait.specs.Handling.{Does, Effect, Gathered}
use Rattle.net_semantics.specs.PacketViews.{Shown}
use Rattle.net_semantics.specs.Worlds.{change_at}
use Rattle.act_world.specs.Flights.{flight_copies, with_packet}
use Rattle.net_semantics.proofs.Places.{set-change_at}
use Rattle.act_world.specs.ActViews.{ActView}
use Rattle.act_world.specs.Moves.{Happens, on_node, one_taken, packet_changes, turn_begins, turn_counts}
use Rattle.act_world.specs.Nodes.{with_state, with_turn}
use Rattle.act_world.specs.Turns.{going, saving, telling}
use Rattle.act_world.specs.Notes.{counted, noted}
use Rattle.act_world.specs.declared.turn.Turn.{Turn}
use Rattle.act_world.specs.declared.turn.Turn.TheVariants as turn
use Rattle.vst_base.specs.declared.step.Step.{Step}
use Rattle.act_world.specs.Views.{FlightView, NotesView}
use Rattle.act_world.specs.declared.act_node.ActNode.{ActNode}

module _ {H S D I A O M X : Type 0} (hs : H) (items : List (ActNode S D I A O M X)) (fl : List (FlightView M)) (nt : NotesView I O) (tk : ℕ) where
  abbrev pub seen : List (ActNode S D I A O M X) → ActView H S D I A O M X
  seen nodes = record { handlers = hs; nodes = nodes; flights = fl; notes = nt; taken = tk }

  module _ (v : ActView H S D I A O M X) (is : seen items ≡ v) (n i : ℕ) (node : ActNode S D I A O M X) (same : i ≡ n) (below : n < length items) (read : node ≡ get_or items i node) where
    read-there : slice_get items n ≡ Some node
    read-there = slice_get_read items (length items) n node refl below (subst (λ j. node ≡ get_or items j node) same read)

    pub node-there : slice_get v.nodes n ≡ Some node
    node-there = subst (λ x. slice_get x.nodes n ≡ Some node) is read-there

    pub node-set : (f : ActNode S D I A O M X → ActNode S D I A O M X) (y : ActNode S D I A O M X) → y ≡ f node → seen (set items i y) ≡ on_node v n f
    node-set f y e =
        let d : node ≡ get_or items n node = subst (λ j. node ≡ get_or items j node) same read in
        subst (λ x. seen (set items i y) ≡ on_node x n f) is
        (ap seen (subst (λ j. set items j y ≡ change_at f n items) (sym same) (set-change_at f items n node y below (e ∙ ap f d))))

    pub happens-at : (f : S → Effect S O M) (sound : S → Type 0) (s : S) (before after : Gathered O M) → before.outputs ≡ [] → before.sends ≡ [] →
        Does (f node.state) s before after → sound s → Happens f sound n v (seen (set items i (with_state s node))) after
    happens-at f sound s before after outs sends does keeps = record {
      node = node;
      there = node-there;
      after_is = node-set (with_state (f node.state).state) (with_state s node) (ap (λ x. with_state x node) does.state);
      outputs = does.outputs ∙ ap (λ xs. xs ++ (f node.state).outputs) outs;
      sends = does.sends ∙ ap (λ xs. xs ++ (f node.state).sends) sends;
      keeps = subst sound does.state keeps;
    }

-- a list that was told to be not empty
pub not-empty : {P : Type 0} (len : ℕ) (xs : List P) → len ≡ length xs → false ≡ (len == 0) → xs ≢ []
not-empty len xs size told none =
    let z : len ≡ 0 = size ∙ ap length none in
    let is : (len == 0) ≡ true = rw z refl in
    absurd (false≢true (told ∙ is))

-- a turn that has acts to do begins
pub saved-begins : {H S D I A O M X : Type 0} (v : ActView H S D I A O M X) (n : ℕ) (ev : Step I) (ss : List (ℕ × M)) (os : List O) (acts : List A) → acts ≢ [] →
    on_node v n (with_turn (Some (turn.Saving (saving ev acts ss os)))) ≡ turn_begins v n ev ss os acts
saved-begins v n ev ss os [] some = absurd (some refl)
saved-begins v n ev ss os (a ∷ more) some = refl

pub is-empty : {P : Type 0} (len : ℕ) (xs : List P) → len ≡ length xs → true ≡ (len == 0) → xs ≡ []
is-empty len [] size told = refl
is-empty len (x ∷ xs) size told = let f : eqb len 0 ≡ false = ne_eqb len 0 (λ z. omega (arith, z, size)) in absurd (false≢true (sym f ∙ sym told))

-- what the code does where a turn counts
pub counts-is : {H S D I A O M X : Type 0} (hs : H) (items : List (ActNode S D I A O M X)) (fl : List (FlightView M)) (nt : NotesView I O) (tk : ℕ) (v : ActView H S D I A O M X) →
    seen hs items fl nt tk items ≡ v → (n : ℕ) (ev : Step I) (ss : List (ℕ × M)) (os : List O) (notes : NotesView I O) (t : Option (Turn I A O M)) (after : ActView H S D I A O M X) (len num k : ℕ) →
    after ≡ on_node (seen hs items fl notes tk items) n (with_turn t) → notes ≡ counted nt n ev k → k ≡ length ss → t ≡ going (telling ss os len num) →
    len ≡ length nt.listed → num ≡ nt.sent → after ≡ turn_counts v n ev ss os
counts-is hs items fl nt tk v is n ev ss os notes t after len num k a b c e f g =
    let turn-is : t ≡ going (telling ss os (length nt.listed) nt.sent) =
    e ∙ (ap (λ l. going (telling ss os l num)) f ∙ ap (λ j. going (telling ss os (length nt.listed) j)) g) in
    let notes-are : notes ≡ counted nt n ev (length ss) = b ∙ ap (λ j. counted nt n ev j) c in
    subst (λ x. after ≡ turn_counts x n ev ss os) is
    (a ∙ (ap (λ y. on_node (seen hs items fl y tk items) n (with_turn t)) notes-are
    ∙ ap (λ u. on_node (seen hs items fl (counted nt n ev (length ss)) tk items) n (with_turn u)) turn-is))

pub sent-below : {M : Type 0} (fs : List (FlightView M)) (k : ℕ) → 0 < flight_copies (slice_get fs k) → k < length fs
sent-below [] k copy = absurd (omega (arith, copy))
sent-below (f ∷ fs) zero copy = omega arith
sent-below (f ∷ fs) (suc k) copy = let lt = sent-below fs k copy in omega (arith, lt)

-- a packet that the code reads, and changes
module _ {H S D I A O M X : Type 0} (hs : H) (nodes : List (ActNode S D I A O M X)) (fl : List (FlightView M)) (nt : NotesView I O) (tk : ℕ) (v : ActView H S D I A O M X)
    (is : seen hs nodes fl nt tk nodes ≡ v) (k i : ℕ) (f : FlightView M) (same : i ≡ k) (copy : 0 < flight_copies (slice_get v.flights k)) where
  pub flight-below : i < length fl
  flight-below =
      let lt = sent-below fl k (subst (λ x. 0 < flight_copies (slice_get x.flights k)) (sym is) copy) in omega (arith, lt, same)

  module _ (read : f ≡ get_or fl i f) where
    flight-read : slice_get fl k ≡ Some f
    flight-read = let lt = flight-below in slice_get_read fl (length fl) k f refl (omega (arith, lt, same)) (subst (λ j. f ≡ get_or fl j f) same read)

    pub flight-there : slice_get v.flights k ≡ Some f
    flight-there = subst (λ x. slice_get x.flights k ≡ Some f) is flight-read

    pub flight-set : (g : Shown M → Shown M) (y : FlightView M) (s : Step I) (notes : NotesView I O) → y ≡ with_packet g f → notes ≡ noted nt s →
        seen hs nodes (set fl i y) notes (tk + 1) nodes ≡ one_taken (packet_changes g k s v)
    flight-set g y s notes e n =
        let lt = flight-below in
        let d : f ≡ get_or fl k f = subst (λ j. f ≡ get_or fl j f) same read in
        let set-is : set fl i y ≡ change_at (with_packet g) k fl =
        subst (λ j. set fl j y ≡ change_at (with_packet g) k fl) (sym same) (set-change_at (with_packet g) fl k f y (omega (arith, lt, same)) (e ∙ ap (with_packet g) d)) in
        subst (λ x. seen hs nodes (set fl i y) notes (tk + 1) nodes ≡ one_taken (packet_changes g k s x)) is
        (ap (λ ys. seen hs nodes ys notes (tk + 1) nodes) set-is ∙ ap (λ z. seen hs nodes (change_at (with_packet g) k fl) z (tk + 1) nodes) n)
