-- What happens at a node in a step that the network allows.
use Rattle.std.proofs.Common.{◌≡◌, ℕ, zero, suc, ◌<◌, Bool, true, false, not, List, [], ◌∷◌, ◌++◌, Option, Some, None, ltb, cond, slice_get, inl, inr, refl, sym}
use Rattle.std.proofs.lemmas.Bool.{false≢true, ltb-true, not-false}
use Rattle.net_semantics.specs.StepLaws.{delivered_there, ends_delivered}
use Rattle.net_semantics.specs.Steps.{Event, acts_at, delivered, delivery, event_in, fails, input_is_taken, input_item, node_named, node_started, packet_named, refusal_in}
use Rattle.net_semantics.specs.Worlds.{Packet, copies}
use Rattle.vst_base.specs.Nets.{has_kind, kind_in, AtNode, Fate, OfPacket, Starts, StepView, Stops, view_of}
use Rattle.vst_base.specs.declared.step.StepRefusal.TheVariants as refusal
use Rattle.vst_base.specs.Firsts.{first_of}
use Rattle.vst_base.specs.Machines.{MachineMeaning}
use Rattle.vst_base.specs.declared.entry.Entry.{Entry}
use Rattle.vst_base.specs.declared.net.Net.TheVariants as net
use Rattle.vst_base.specs.declared.step.Item.TheVariants as item
use Rattle.vst_base.specs.declared.step.Step.{Step}
use Rattle.raft_free.specs.Events.{In}
use Rattle.raft_free.specs.Nodes as free
use Rattle.raft_clients.specs.Executed.{request_of}
use Rattle.raft_types.specs.declared.client.RaftInput.{RaftInput}
use Rattle.raft_types.specs.declared.client.RaftOut.{RaftOut}
use Rattle.raft_types.specs.declared.msg.RaftMsg.{RaftMsg}
use Rattle.raft_xform.specs.Nodes.{RaftView}
use Rattle.raft_xform.specs.Raft.{raft, raft_recovery}
use Rattle.raft_xform.specs.Sound.{IsSoundNode}
use Rattle.raft_xform.proofs.Keeping.{keeps_input, keeps_message, keeps_tick}
use Rattle.raft_safety.specs.Runs.{RaftWorld}
use Rattle.linearizability.specs.Linearizable.{HasInput, Seen}
use Rattle.raft_safety.specs.Mirrors.{Mirrors}
use Rattle.raft_safety.proofs.Refining.{Refined, input_refined, message_refined, tick_refined}
use Rattle.raft_safety.proofs.Sending.{AreGood, IsGood, good_input, good_message, good_tick}

-- what always holds of a cluster: its nodes are sound, one that is down has kept what it was, and each packet goes to
-- another node, with a message in range
pub record Stands {S C O : Type 0} (m : MachineMeaning S C O) (n : ℕ) (w : RaftWorld S C O) : Type 0 where
  pub sound : (i : ℕ) → i < n → IsSoundNode n i (w.state i)
  pub kept : (i : ℕ) → w.kept i ≡ cond (w.is_up i) None (Some ((raft_recovery m).keep (w.state i)))
  pub sources : (p : Packet (RaftMsg C)) → In p w.packets → p.source < n
  pub good : (p : Packet (RaftMsg C)) → In p w.packets → IsGood n p.source p.destination p.content

-- clients put the request in, if there is one
abbrev pub WasAsked : {C O : Type 0} → Seen C O → Option (RaftInput C) → Type 0
WasAsked seen None = Unit {0}
WasAsked seen (Some r) = HasInput seen r

-- clients put in what the entry asks for
abbrev pub WasPutIn : {C O : Type 0} → Seen C O → Entry C → Type 0
WasPutIn seen e = WasAsked seen (request_of e)

-- of an event at a node that is up: the node's turn, from what clients had seen before
pub record Turn {S C O : Type 0} (m : MachineMeaning S C O) (n : ℕ) (w : RaftWorld S C O) (v : free.FreeWorld C) (seen : Seen C O)
    (e : Event (RaftView S C O) (RaftInput C) (RaftOut O) (RaftMsg C)) : Type 0 where
  pub below : e.node < n
  pub is_up : w.is_up e.node ≡ true
  pub refined : Refined m n e.node (WasPutIn (seen ++ input_item e.node e.input)) v.sent (w.state e.node) e.effect
  pub sound : IsSoundNode n e.node e.effect.state
  pub good : AreGood n e.node e.effect.sends

-- where none of the refusals applies, on a network that keeps no order
none_applies : (a b c d e f : Bool) →
    first_of ((refusal.NotThisNet, a) ∷ (refusal.NoSuchNode, b) ∷ (refusal.NoInputHere, c) ∷ (refusal.NodeDown, d) ∷ (refusal.NodeUp, e) ∷ (refusal.NoCopy, f) ∷ (refusal.NotFirst, false) ∷ []) ≡ None →
    (b ≡ false) × (d ≡ false) × (e ≡ false)
none_applies true b c d e f h = absurd (cc (h))
none_applies false true c d e f h = absurd (cc (h))
none_applies false false true d e f h = absurd (cc (h))
none_applies false false false true e f h = absurd (cc (h))
none_applies false false false false true f h = absurd (cc (h))
none_applies false false false false false f h = (refl, refl, refl)

module _ {S C O : Type 0} (m : MachineMeaning S C O) (n : ℕ) (w : RaftWorld S C O) where
  -- the network takes what a step is of, and the step
  abbrev pub IsTakenIn : StepView (RaftInput C) → Type 0
  IsTakenIn s = refusal_in net.Fail (raft n m) w s ≡ None

  abbrev pub IsTaken : Step (RaftInput C) → Type 0
  IsTaken s = IsTakenIn (view_of s)

  passes : (s : StepView (RaftInput C)) → IsTakenIn s →
      (fails (node_named s) (λ i. ltb i n) ≡ false) × (fails (acts_at w s) w.is_up ≡ false) × (fails (node_started s) (λ i. not (w.is_up i)) ≡ false)
  passes s e =
      none_applies (not (has_kind net.Fail (kind_in s))) (fails (node_named s) (λ i. ltb i n)) (not (input_is_taken (raft n m).takes_input s)) (fails (acts_at w s) w.is_up)
      (fails (node_started s) (λ i. not (w.is_up i))) (fails (packet_named s) (λ k. ltb 0 (copies w k))) e

  at_up_node : (i : ℕ) → not (ltb i n) ≡ false → not (w.is_up i) ≡ false → (i < n) × (w.is_up i ≡ true)
  at_up_node i a b = (ltb-true i n (not-false _ a), not-false _ b)

  taken_at_node : (i : ℕ) (q : Option (RaftInput C)) → IsTakenIn (AtNode i q) → (i < n) × (w.is_up i ≡ true)
  taken_at_node i q e = let p = passes (AtNode i q) e in at_up_node i p.0 p.1

  pub taken_crash : (i : ℕ) → IsTakenIn (Stops i) → (i < n) × (w.is_up i ≡ true)
  taken_crash i e = let p = passes (Stops i) e in at_up_node i p.0 p.1

  pub taken_reboot : (i : ℕ) → IsTakenIn (Starts i) → (i < n) × (w.is_up i ≡ false)
  taken_reboot i e = let p = passes (Starts i) e in (ltb-true i n (not-false _ p.0), off (w.is_up i) p.2)
    where
      off : (b : Bool) → not (not b) ≡ false → b ≡ false
      off true e = absurd (false≢true (sym e))
      off false e = refl

  taken_packet : (k : ℕ) (fate : Fate) → IsTakenIn (OfPacket k fate) → (p : Packet (RaftMsg C)) → delivered fate (slice_get w.packets k) ≡ Some p → w.is_up p.destination ≡ true
  taken_packet k fate e p is = let q = passes (OfPacket k fate) e in not-false _ (rw (ends_delivered fate (slice_get w.packets k), is) at q.1)

  pub in_packets : (ps : List (Packet (RaftMsg C))) (k : ℕ) (p : Packet (RaftMsg C)) → slice_get ps k ≡ Some p → In p ps
  in_packets [] k p e = absurd (cc (e))
  in_packets (x ∷ ps) zero p e = inl (cc (e))
  in_packets (x ∷ ps) (suc k) p e = inr (in_packets ps k p e)

  last_input : (seen : Seen C O) (i : ℕ) (q : RaftInput C) → HasInput (seen ++ input_item i (Some q)) q
  last_input [] i q = inl refl
  last_input (item.Input j r ∷ seen) i q = inr (last_input seen i q)
  last_input (item.Output j o ∷ seen) i q = last_input seen i q

  -- the event of a step, if there is one
  pub turn : (v : free.FreeWorld C) (seen : Seen C O) → Mirrors w v → Stands m n w → (s : StepView (RaftInput C)) → IsTakenIn s →
      (e : Event (RaftView S C O) (RaftInput C) (RaftOut O) (RaftMsg C)) → event_in (raft n m) w s ≡ Some e → Turn m n w v seen e
  turn v seen mirrors stands (AtNode i (Some q)) taken e is = rw (← same) (record {
    below = t.0;
    is_up = t.1;
    refined = input_refined m n i (WasPutIn (seen ++ input_item i (Some q))) (λ _. tt) (w.state i) q k.peers after.peers k.applied (last_input seen i q) v.sent;
    sound = after;
    good = (good_input m n i (w.state i) q).good after;
  })
    where
      same : record { node = i; input = Some q; effect = (raft n m).input i (w.state i) q } ≡ e
      same = cc (is)

      t : (i < n) × (w.is_up i ≡ true)
      t = taken_at_node i (Some q) taken

      k : IsSoundNode n i (w.state i)
      k = stands.sound i t.0

      after : IsSoundNode n i ((raft n m).input i (w.state i) q).state
      after = (keeps_input k m q).sound
  turn v seen mirrors stands (AtNode i None) taken e is = rw (← same) (record {
    below = t.0;
    is_up = t.1;
    refined = tick_refined m n i (WasPutIn (seen ++ input_item i None)) (λ _. tt) (w.state i) k.peers after.peers k.applied v.sent;
    sound = after;
    good = (good_tick m n i (w.state i)).good after;
  })
    where
      same : record { node = i; input = None; effect = (raft n m).timeout i (w.state i) } ≡ e
      same = cc (is)

      t : (i < n) × (w.is_up i ≡ true)
      t = taken_at_node i None taken

      k : IsSoundNode n i (w.state i)
      k = stands.sound i t.0

      after : IsSoundNode n i ((raft n m).timeout i (w.state i)).state
      after = (keeps_tick k m).sound
  turn v seen mirrors stands (OfPacket k fate) taken e is = by_packet (delivered fate (slice_get w.packets k)) refl is
    where
      by_packet : (o : Option (Packet (RaftMsg C))) → delivered fate (slice_get w.packets k) ≡ o → delivery (raft n m) w o ≡ Some e → Turn m n w v seen e
      by_packet None at it = absurd (cc (it))
      by_packet (Some p) at it = rw (← same) (record {
        below = g.below;
        is_up = taken_packet k fate taken p at;
        refined = message_refined m n p.destination (WasPutIn (seen ++ input_item p.destination None)) (λ _. tt) (w.state p.destination) p.source p.content from (λ f. g.other (sym f))
            before.peers before.applied after.peers v.sent (mirrors.sent p here);
        sound = after;
        good = (good_message m n p.destination (w.state p.destination) p.source p.content from (λ f. g.other (sym f))).good after;
      })
        where
          same : record { node = p.destination; input = None; effect = (raft n m).message p.destination (w.state p.destination) p.source p.content } ≡ e
          same = cc (it)

          here : In p w.packets
          here = in_packets w.packets k p (delivered_there fate (slice_get w.packets k) p at)

          g : IsGood n p.source p.destination p.content
          g = stands.good p here

          from : p.source < n
          from = stands.sources p here

          before : IsSoundNode n p.destination (w.state p.destination)
          before = stands.sound p.destination g.below

          after : IsSoundNode n p.destination ((raft n m).message p.destination (w.state p.destination) p.source p.content).state
          after = (keeps_message before m p.source from p.content g.range).sound
  turn v seen mirrors stands (Stops i) taken e is = absurd (cc (is))
  turn v seen mirrors stands (Starts i) taken e is = absurd (cc (is))
