-- Which packet a step gives to the handlers within, by the numbers of packets.
use Rattle.std.specs.Prelude.{◌≡◌, ◌≢◌, ℕ, ◌+◌, nat_eq, nat_lt, Bool, true, false, List, [], ◌∷◌, ◌++◌, Option, Some, None, option_map, slice_get, if◌then◌else◌}
use Rattle.std.specs.Bool.{then_some}
use Rattle.std.proofs.Common.{ap, arith, refl, subst, sym, ◌∙◌}
use Rattle.std.proofs.lemmas.Option.{cond_some, none-some, same_Some}
use Rattle.handler_trait.specs.Handling.{Meaning, Recovery}
use Rattle.net_semantics.specs.Runs.{IsAllowed, no_recovery, run}
use Rattle.observer_parts.specs.PartLaws.{allowed-before}
use Rattle.net_semantics.specs.Steps.{fails, refusals}
use Rattle.net_semantics.specs.Worlds.{Packet, World, ends, ends_of, first_world}
use Rattle.vst_base.specs.declared.net.Net.{Net}
use Rattle.vst_base.specs.declared.seq.SeqMsg.{SeqMsg}
use Rattle.vst_base.specs.declared.step.Step.{Step}
use Rattle.vst_base.specs.declared.step.Step.TheVariants as step
use Rattle.vst_base.specs.declared.step.StepRefusal.TheVariants as refusal
use Rattle.fifo_xform.specs.Fifo.{FifoState, fifo}
use Rattle.fifo_xform.specs.Image.{given_by_arrival, given_by_tick, gives_packet, sent_with}
use Rattle.fifo_xform.specs.Peers.{peer_of, ready, ready_number}
use Rattle.fifo_observer.specs.Channels.{ends_in, number_of, packet_with}
use Rattle.fifo_observer.proofs.Numbers.{number-is, turn-with}
use Rattle.fifo_observer.proofs.Worlds.{AreNumbered, are-numbered, holds-at, none-applies}

-- the node that was found
pub node-is : (b : Bool) (n node : ℕ) → Some node ≡ (if b then Some n else None) → node ≡ n
node-is b n node e = sym (cond_some b n node (sym e)).1

chosen : {A : Type 0} (b : Bool) (x : A) → then_some b x ≡ (if b then Some x else None)
chosen true x = refl
chosen false x = refl

-- what is known of handlers `does` that do what `fifo m` does
module _ {S I O M : Type 0} (m : Meaning S I O M) (does : Meaning (FifoState S M) I O (SeqMsg M)) (same_meaning : does ≡ fifo m) (r : Recovery (FifoState S M) (FifoState S M)) (net : Net) (ss : List (Step I)) where
  abbrev FifoWorld : Type 0
  FifoWorld = World (FifoState S M) (FifoState S M) (SeqMsg M)

  abbrev world : FifoWorld
  world = run (fifo m) r ss

  same-world : run does r ss ≡ world
  same-world = ap (λ x. run x r ss) same_meaning

  numbered : (s : Step I) → r ≡ no_recovery → IsAllowed net (fifo m) r (ss ++ s ∷ []) → AreNumbered m world
  numbered s same allowed =
      subst (λ x. IsAllowed net (fifo m) x (ss ++ s ∷ []) → AreNumbered m (run (fifo m) x ss)) (sym same)
      (λ so. are-numbered m net ss (allowed-before net (fifo m) no_recovery ss s (first_world (fifo m)) so).0) allowed

  -- packet k comes, whose ends and number are these, and the state of its destination expects it or not
  pub arrival-gives : (k source destination there number : ℕ) (state : FifoState S M) (b : Bool) → r ≡ no_recovery → IsAllowed net (fifo m) r (ss ++ step.Deliver k ∷ [])
      → Some (source, destination) ≡ ends (run does r ss) k → Some number ≡ number_of (ends_in world.packets) k → there ≡ destination → state ≡ (run does r ss).state there
      → b ≡ nat_eq number (peer_of state.peers source).expected → then_some b k ≡ gives_packet {I = I} m.nodes world (step.Deliver k)
  arrival-gives k source destination there number state b same allowed ends_are number_is there_is state_is tells =
      by-packet (slice_get world.packets k) refl (sym (ends_are ∙ ap (λ (w : FifoWorld). ends w k) same-world)) where
        by-packet : (o : Option (Packet (SeqMsg M))) → slice_get world.packets k ≡ o → ends_of o ≡ Some (source, destination) → then_some b k ≡ given_by_arrival world k o
        by-packet None at is = absurd (none-some (source, destination) is)
        by-packet (Some p) at is =
            let both : ◌≡◌ {A = ℕ × ℕ} (p.source, p.destination) (source, destination) = same_Some (p.source, p.destination) (source, destination) is in
            let turns = (numbered (step.Deliver k) same allowed).turns p.source p.destination in
            let number_so : number ≡ p.content.number = same_Some number p.content.number (number_is ∙ number-is world.packets _ k p turns at) in
            let place : there ≡ p.destination = there_is ∙ ap (λ (x : ℕ × ℕ). x.1) (sym both) in
            let state_so : state ≡ world.state p.destination = state_is ∙ (λ i. (same-world i).state (place i)) in
            chosen b k ∙ ap (λ x. if x then Some k else None) (tells ∙ (λ i. nat_eq (number_so i) (peer_of (state_so i).peers (sym both i).0).expected))

  -- a timer fires at a node that exists
  pub ticks-at_node : (n nodes : ℕ) → nodes ≡ m.nodes → IsAllowed net (fifo m) r (ss ++ step.Tick n ∷ []) → None ≢ (if nat_lt n nodes then Some n else None)
  ticks-at_node n nodes nodes_are allowed none =
      let refused = (allowed-before net (fifo m) r ss (step.Tick n) (first_world (fifo m)) allowed).1 in
      let below : nat_lt n m.nodes ≡ true = holds-at (λ x. nat_lt x m.nodes) n (none-applies (refusals net (fifo m) world (step.Tick n)) 1 (refusal.NoSuchNode, fails (Some n) (λ x. nat_lt x m.nodes)) refused refl) in
      none-some n (none ∙ ap (λ b. if b then Some n else None) (ap (nat_lt n) nodes_are ∙ below))

  -- a timer fires at a node, where a content is ready that has this source and number
  pub tick-gives : (n node nodes source number : ℕ) (state : FifoState S M) (given : Option ℕ) → r ≡ no_recovery → IsAllowed net (fifo m) r (ss ++ step.Tick n ∷ [])
      → node ≡ n → nodes ≡ m.nodes → state ≡ (run does r ss).state node → Some (source, number) ≡ ready_number nodes state.peers
      → given ≡ packet_with (source, node) number (ends_in world.packets) → given ≡ gives_packet {I = I} m.nodes world (step.Tick n)
  tick-gives n node nodes source number state given same allowed node_is nodes_are state_is ready_is found =
      by-ready (ready m.nodes (world.state n).peers) (ready_is ∙ (λ i. ready_number (nodes_are i) (state_so i).peers)) where
        state_so : state ≡ world.state n
        state_so = state_is ∙ (λ i. (same-world i).state (node_is i))

        by-ready : (o : Option (ℕ × M)) → ◌≡◌ {A = Option (ℕ × ℕ)} (Some (source, number)) (option_map (λ x. (x.0, (peer_of (world.state n).peers x.0).expected)) o) → given ≡ given_by_tick world n o
        by-ready None is = absurd (none-some (source, number) (sym is))
        by-ready (Some held) is =
            let both : ◌≡◌ {A = ℕ × ℕ} (source, number) (held.0, (peer_of (world.state n).peers held.0).expected) = same_Some (source, number) (held.0, (peer_of (world.state n).peers held.0).expected) is in
            let expected : ℕ = (peer_of (world.state n).peers held.0).expected in
            let turns = (numbered (step.Tick n) same allowed).turns held.0 n in
            let zero_more : 0 + expected ≡ expected = omega arith in
            let of_held : packet_with (source, node) number (ends_in world.packets) ≡ packet_with (held.0, n) expected (ends_in world.packets) = λ i. packet_with ((both i).0, node_is i) (both i).1 (ends_in world.packets) in
            found ∙ (of_held ∙ (sym (turn-with held.0 n world.packets _ 0 expected turns) ∙ ap (λ x. sent_with held.0 n x world.packets) zero_more))
