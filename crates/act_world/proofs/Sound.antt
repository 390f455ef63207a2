-- What holds of an `ActWorld` after each step.
use Rattle.std.proofs.Common.{◌≡◌, ℕ, zero, suc, ◌+◌, ◌<◌, ◌≤◌, List, [], ◌∷◌, ◌++◌, length, Option, Some, None, IfSome, slice_get, refl, ap, sym, subst, ◌∙◌, arith, inl, inr, length-append}
use Rattle.std.proofs.lemmas.Bool.{cases_eq}
use Rattle.std.proofs.lemmas.Option.{IfSome_then, same_Some}
use Rattle.handler_trait.specs.Facts.{Promises}
use Rattle.handler_trait.specs.Handling.{AreSentBelow}
use Rattle.handler_trait.specs.declared.handlers.TheConstants.{MAX_SENDS}
use Rattle.vst_base.specs.declared.step.Step.{Step}
use Rattle.vst_base.specs.declared.step.TheConstants.{MAX_STEPS}
use Rattle.net_semantics.specs.Held.{held_less, held_more}
use Rattle.net_semantics.specs.PacketViews.{Shown}
use Rattle.net_semantics.specs.Shown.{IsSoundPacket, IsSoundState}
use Rattle.net_semantics.specs.Worlds.{change_at}
use Rattle.net_semantics.proofs.Places.{each-append, each-change_at}
use Rattle.net_semantics.proofs.Taken.{less_sound}
use Rattle.act_world.specs.ActViews.{ActView, IsSoundAct, IsSoundNode}
use Rattle.act_world.specs.Flights.{flight_copies, flight_sent, with_packet}
use Rattle.act_world.specs.Nodes.{IsSoundTurn}
use Rattle.act_world.specs.Turns.{going, going_on}
use Rattle.act_world.specs.Notes.{counted, input_in}
use Rattle.act_world.specs.Views.{FlightView, NotesView, TellingView}
use Rattle.act_world.specs.declared.act_node.ActNode.{ActNode}
use Rattle.act_world.specs.declared.turn.Turn.{Turn}
use Rattle.act_world.specs.declared.turn.Turn.TheVariants as turn
use Rattle.act_world.proofs.Ones.{OneAt}

turn-later : {I A O M : Type 0} (nodes sent sent2 listed listed2 : ℕ) (o : Option (Turn I A O M)) → sent ≤ sent2 → listed ≤ listed2 →
    IsSoundTurn nodes sent listed o → IsSoundTurn nodes sent2 listed2 o
turn-later nodes sent sent2 listed listed2 None a b h = tt
turn-later nodes sent sent2 listed listed2 (Some (turn.Saving v)) a b h = h
turn-later nodes sent sent2 listed listed2 (Some (turn.Telling v)) a b h = record {
  numbers = let x = h.numbers in omega (arith, a, x);
  to_nodes = h.to_nodes;
  place = let x = h.place in omega (arith, b, x);
  more = h.more;
}

-- one turn more is listed
pub counted-size : {I O : Type 0} (v : NotesView I O) (n : ℕ) (event : Step I) (sends : ℕ) → length (counted v n event sends).listed ≡ length v.listed + 1
counted-size v n event sends = length-append v.listed (record { node = n; input = input_in event; sent = [] } ∷ [])

-- a turn that counts goes on soundly
module _ (I A : Type 0) {O M : Type 0} (nodes sent listed : ℕ) (v : TellingView O M) (numbers : v.number + length v.sends ≤ sent) (to_nodes : AreSentBelow nodes v.sends) (place : v.place < listed) where
  going-by : (ss : List (ℕ × M)) (os : List O) → v.sends ≡ ss → v.outputs ≡ os → IsSoundTurn {I = I} {A = A} nodes sent listed (going_on v ss os)
  going-by [] [] s o = tt
  going-by [] (x ∷ os) s o = record { numbers = numbers; to_nodes = to_nodes; place = place; more = λ none some. cc }
  going-by (x ∷ ss) os s o = record { numbers = numbers; to_nodes = to_nodes; place = place; more = λ none some. cc }

  pub going-sound : IsSoundTurn {I = I} {A = A} nodes sent listed (going v)
  going-sound = going-by v.sends v.outputs refl refl

module _ {S I O M : Type 0} (h : Promises S I O M) where
  -- packets stay sound
  packet-later : (taken : ℕ) (p : Shown M) → IsSoundPacket h.meaning.nodes taken p → IsSoundPacket h.meaning.nodes (taken + 1) p
  packet-later taken p s = record { source = s.source; destination = s.destination; copies = let x = s.copies in omega (arith, x); content = s.content; gone = s.gone }

  abbrev pub SoundFlights : ℕ → List (FlightView M) → Type 0
  SoundFlights taken fs = (k : ℕ) → IfSome (slice_get fs k) (λ f. IsSoundPacket h.meaning.nodes taken f.packet)

  pub flights-later : (taken : ℕ) (fs : List (FlightView M)) → SoundFlights taken fs → SoundFlights (taken + 1) fs
  flights-later taken fs all k = IfSome_then (slice_get fs k) (all k) (λ f s. packet-later taken f.packet s)

  pub flights-less : (taken k : ℕ) (fs : List (FlightView M)) → SoundFlights taken fs → SoundFlights taken (change_at (with_packet held_less) k fs)
  flights-less taken k fs all =
      each-change_at (λ f. IsSoundPacket h.meaning.nodes taken f.packet) (with_packet held_less) fs k all
      (IfSome_then (slice_get fs k) (all k) (λ f s. less_sound h.meaning.nodes taken f.packet s))

  more-here : (taken : ℕ) (o : Option (FlightView M)) → 0 < flight_copies o → IfSome o (λ f. IsSoundPacket h.meaning.nodes taken f.packet) →
      IfSome o (λ f. IsSoundPacket h.meaning.nodes (taken + 1) (held_more f.packet))
  more-here taken None copy s = tt
  more-here taken (Some f) copy s = record {
    source = s.source;
    destination = s.destination;
    copies = let x = s.copies in omega (arith, x);
    content = λ l. s.content copy;
    gone = λ e. absurd (omega (arith, e));
  }

  pub flights-more : (taken k : ℕ) (fs : List (FlightView M)) → 0 < flight_copies (slice_get fs k) → SoundFlights taken fs →
      SoundFlights (taken + 1) (change_at (with_packet held_more) k fs)
  flights-more taken k fs copy all =
      each-change_at (λ f. IsSoundPacket h.meaning.nodes (taken + 1) f.packet) (with_packet held_more) fs k (flights-later taken fs all)
      (more-here taken (slice_get fs k) copy (all k))

  one-flight : (taken n number : ℕ) (s : ℕ × M) → n < h.meaning.nodes → s.0 < h.meaning.nodes → SoundFlights (taken + 1) (flight_sent n number s ∷ [])
  one-flight taken n number s below to zero = record { source = below; destination = to; copies = omega arith; content = λ _. refl; gone = λ e. absurd (omega (arith, e)) }
  one-flight taken n number s below to (suc k) = tt

  pub flights-sent : (taken n number : ℕ) (s : ℕ × M) (fs : List (FlightView M)) → n < h.meaning.nodes → s.0 < h.meaning.nodes → SoundFlights taken fs →
      SoundFlights (taken + 1) (fs ++ flight_sent n number s ∷ [])
  flights-sent taken n number s fs below to all =
      each-append (λ f. IsSoundPacket h.meaning.nodes (taken + 1) f.packet) fs (flight_sent n number s ∷ []) (flights-later taken fs all)
      (one-flight taken n number s below to)

  -- a node as it was is sound one step later
  pub state-later : (taken : ℕ) (n : ℕ) (s : S) → IsSoundState (h.sound n) h.spent taken s → IsSoundState (h.sound n) h.spent (taken + 1) s
  state-later taken n s is = record { keeps = is.keeps; little = let x = is.little in omega (arith, x) }

module _ {S D I A O M X : Type 0} (h : Promises S I O M) where
  node-later : (n taken taken2 sent sent2 listed listed2 : ℕ) (node : ActNode S D I A O M X) → taken ≤ taken2 → sent ≤ sent2 → listed ≤ listed2 →
      IsSoundNode h n taken sent listed node → IsSoundNode h n taken2 sent2 listed2 node
  node-later n taken taken2 sent sent2 listed listed2 node a b c s = record {
    state = record { keeps = s.state.keeps; little = let x = s.state.little in omega (arith, a, x) };
    turn = turn-later h.meaning.nodes sent sent2 listed listed2 node.turn b c s.turn;
  }

module _ {H S D I A O M X : Type 0} (h : Promises S I O M) where
  -- after a step that changes one node at most
  pub record Changes (v after : ActView H S D I A O M X) (n : ℕ) (node : ActNode S D I A O M X) : Type 0 where
    pub was : IsSoundAct h v
    pub few : v.taken < MAX_STEPS
    pub one : OneAt n v.nodes after.nodes node
    pub sound : IsSoundNode h n after.taken after.notes.sent (length after.notes.listed) node
    pub taken : after.taken ≡ v.taken + 1
    pub sent : v.notes.sent ≤ after.notes.sent
    pub most : after.notes.sent ≤ v.notes.sent + MAX_SENDS
    pub listed : length v.notes.listed ≤ length after.notes.listed
    pub flights : SoundFlights h (v.taken + 1) after.flights

  pub sound-after : (v after : ActView H S D I A O M X) (n : ℕ) (node : ActNode S D I A O M X) → Changes v after n node → IsSoundAct h after
  sound-after v after n node c = record {
    nodes = c.one.len ∙ c.was.nodes;
    each = each-one;
    flights = subst (λ t. SoundFlights h t after.flights) (sym c.taken) c.flights;
    few_sent = let a = c.most in let b = c.was.few_sent in let t = c.taken in omega (arith, a, b, t);
    few_steps = let a = c.few in let t = c.taken in omega (arith, a, t);
  }
    where
      each-one : (j : ℕ) (x : ActNode S D I A O M X) → slice_get after.nodes j ≡ Some x → IsSoundNode h j after.taken after.notes.sent (length after.notes.listed) x
      each-one j x is = elim (cases_eq j n) [
        | inl same ↦
            (let e : node ≡ x = same_Some node x (sym c.one.here ∙ (ap (slice_get after.nodes) (sym same) ∙ is)) in
            subst (λ i. IsSoundNode h i after.taken after.notes.sent (length after.notes.listed) x) (sym same)
            (subst (λ y. IsSoundNode h n after.taken after.notes.sent (length after.notes.listed) y) e c.sound))
        | inr ne ↦
            node-later h j v.taken after.taken v.notes.sent after.notes.sent (length v.notes.listed) (length after.notes.listed) x
            (let t = c.taken in omega (arith, t)) c.sent c.listed (c.was.each j x (sym (c.one.there j ne) ∙ is))
      ]

  -- after a step that changes no node
  pub sound-packets : (v after : ActView H S D I A O M X) → IsSoundAct h v → v.taken < MAX_STEPS → after.nodes ≡ v.nodes → after.taken ≡ v.taken + 1 →
      after.notes.sent ≡ v.notes.sent → after.notes.listed ≡ v.notes.listed → SoundFlights h (v.taken + 1) after.flights → IsSoundAct h after
  sound-packets v after was few nodes taken sent listed flights = record {
    nodes = ap length nodes ∙ was.nodes;
    each = λ j x is.
        node-later h j v.taken after.taken v.notes.sent after.notes.sent (length v.notes.listed) (length after.notes.listed) x (omega (arith, taken)) (omega (arith, sent))
        (let l = ap length listed in omega (arith, l)) (was.each j x (ap (λ xs. slice_get xs j) (sym nodes) ∙ is));
    flights = subst (λ t. SoundFlights h t after.flights) (sym taken) flights;
    few_sent = let b = was.few_sent in omega (arith, sent, taken, b);
    few_steps = omega (arith, few, taken);
  }

  -- with a copy less of a packet the world is still sound
  pub sound-less : (v : ActView H S D I A O M X) (k : ℕ) → IsSoundAct h v →
      IsSoundAct h (record { handlers = v.handlers; nodes = v.nodes; flights = change_at (with_packet held_less) k v.flights; notes = v.notes; taken = v.taken })
  sound-less v k was = record {
    nodes = was.nodes;
    each = was.each;
    flights = flights-less h v.taken k v.flights was.flights;
    few_sent = was.few_sent;
    few_steps = was.few_steps;
  }
