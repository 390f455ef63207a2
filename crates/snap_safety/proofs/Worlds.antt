-- Worlds of a network, and the steps that it takes.
use Rattle.std.proofs.Common.{◌≡◌, ℕ, zero, suc, ◌<◌, Bool, true, false, not, List, [], ◌∷◌, ◌++◌, Option, Some, None, ltb, slice_get, inl, inr, refl, sym}
use Rattle.std.proofs.lemmas.Bool.{false≢true, ltb-true, not-false}
use Rattle.net_semantics.specs.StepLaws.{copied_content, copied_destination, copied_source, ends_delivered}
use Rattle.net_semantics.specs.Steps.{acts_at, copied, delivered, fails, input_is_taken, input_item, node_named, node_started, packet_named, refusal_in}
use Rattle.net_semantics.specs.Worlds.{Packet, change_at, copies, sent_by}
use Rattle.vst_base.specs.Firsts.{first_of}
use Rattle.vst_base.specs.Machines.{MachineMeaning}
use Rattle.vst_base.specs.Nets.{AtNode, Fate, OfPacket, Starts, StepView, Stops, has_kind, kind_in}
use Rattle.vst_base.specs.declared.net.Net.TheVariants as net
use Rattle.vst_base.specs.declared.step.Item.TheVariants as item
use Rattle.vst_base.specs.declared.step.StepRefusal.TheVariants as refusal
use Rattle.raft_free.specs.Events.{In}
use Rattle.raft_types.specs.declared.client.RaftInput.{RaftInput}
use Rattle.linearizability.specs.Linearizable.{HasInput, Seen}
use Rattle.raft_safety.proofs.Mirroring.{Copies, IsLike, IsSent}
use Rattle.raft_snapshots.specs.Snapshots.{SnapMsg, Way, snap_raft}
use Rattle.snap_safety.specs.Runs.{SnapWorld}

like_more : {M : Type 0} (x : Packet M) (ps : List (Packet M)) (p : Packet M) → IsLike ps p → IsLike (x ∷ ps) p
like_more x ps p l = record { was = l.was; there = inr l.there; source = l.source; destination = l.destination; content = l.content }

pub like_same : {M : Type 0} (ps : List (Packet M)) (p : Packet M) → In p ps → IsLike ps p
like_same ps p h = record { was = p; there = h; source = refl; destination = refl; content = refl }

pub like_changed : {M : Type 0} (f : Packet M → Packet M) → Copies f → (k : ℕ) (ps : List (Packet M)) (p : Packet M) → In p (change_at f k ps) → IsLike ps p
like_changed f c k [] p h = absurd h
like_changed f c zero (x ∷ ps) p (inl e) = rw e (record { was = x; there = inl refl; source = c.source x; destination = c.destination x; content = c.content x })
like_changed f c zero (x ∷ ps) p (inr h) = like_same (x ∷ ps) p (inr h)
like_changed f c (suc k) (x ∷ ps) p (inl e) = like_same (x ∷ ps) p (inl e)
like_changed f c (suc k) (x ∷ ps) p (inr h) = like_more x ps p (like_changed f c k ps p h)

-- a copy in flight goes or comes
pub as_before : {M : Type 0} (fate : Fate) (k : ℕ) (ps : List (Packet M)) (p : Packet M) → In p (change_at (copied fate) k ps) → IsLike ps p
as_before fate k ps p h =
    like_changed (copied fate) (record { source = λ p. copied_source p fate; destination = λ p. copied_destination p fate; content = λ p. copied_content p fate }) k ps p h

pub sent_is : {M : Type 0} (i : ℕ) (sends : List (ℕ × M)) (p : Packet M) → In p (sent_by i sends) → IsSent i sends p
sent_is i [] p h = absurd h
sent_is i (x ∷ sends) p (inl e) = record { send = x; one = inl refl; is = e }
sent_is i (x ∷ sends) p (inr h) = let s = sent_is i sends p h in record { send = s.send; one = inr s.one; is = s.is }

-- where none of the refusals applies, on a network that keeps no order
none_applies : (a b c d e f : Bool) →
    first_of ((refusal.NotThisNet, a) ∷ (refusal.NoSuchNode, b) ∷ (refusal.NoInputHere, c) ∷ (refusal.NodeDown, d) ∷ (refusal.NodeUp, e) ∷ (refusal.NoCopy, f) ∷ (refusal.NotFirst, false) ∷ []) ≡ None →
    (b ≡ false) × (d ≡ false) × (e ≡ false)
none_applies true b c d e f h = absurd (cc (h))
none_applies false true c d e f h = absurd (cc (h))
none_applies false false true d e f h = absurd (cc (h))
none_applies false false false true e f h = absurd (cc (h))
none_applies false false false false true f h = absurd (cc (h))
none_applies false false false false false f h = (refl, refl, refl)

module _ {S C O : Type 0} (way : Way S C O) (m : MachineMeaning S C O) (n : ℕ) (w : SnapWorld S C O) where
  -- the network takes what a step is of
  abbrev pub IsTakenIn : StepView (RaftInput C) → Type 0
  IsTakenIn s = refusal_in net.Fail (snap_raft way n m) w s ≡ None

  passes : (s : StepView (RaftInput C)) → IsTakenIn s →
      (fails (node_named s) (λ i. ltb i n) ≡ false) × (fails (acts_at w s) w.is_up ≡ false) × (fails (node_started s) (λ i. not (w.is_up i)) ≡ false)
  passes s e =
      none_applies (not (has_kind net.Fail (kind_in s))) (fails (node_named s) (λ i. ltb i n)) (not (input_is_taken (snap_raft way n m).takes_input s)) (fails (acts_at w s) w.is_up)
      (fails (node_started s) (λ i. not (w.is_up i))) (fails (packet_named s) (λ k. ltb 0 (copies w k))) e

  at_up_node : (i : ℕ) → not (ltb i n) ≡ false → not (w.is_up i) ≡ false → (i < n) × (w.is_up i ≡ true)
  at_up_node i a b = (ltb-true i n (not-false _ a), not-false _ b)

  pub taken_at_node : (i : ℕ) (q : Option (RaftInput C)) → IsTakenIn (AtNode i q) → (i < n) × (w.is_up i ≡ true)
  taken_at_node i q e = let p = passes (AtNode i q) e in at_up_node i p.0 p.1

  pub taken_crash : (i : ℕ) → IsTakenIn (Stops i) → (i < n) × (w.is_up i ≡ true)
  taken_crash i e = let p = passes (Stops i) e in at_up_node i p.0 p.1

  pub taken_reboot : (i : ℕ) → IsTakenIn (Starts i) → (i < n) × (w.is_up i ≡ false)
  taken_reboot i e = let p = passes (Starts i) e in (ltb-true i n (not-false _ p.0), off (w.is_up i) p.2)
    where
      off : (b : Bool) → not (not b) ≡ false → b ≡ false
      off true e = absurd (false≢true (sym e))
      off false e = refl

  pub taken_packet : (k : ℕ) (fate : Fate) → IsTakenIn (OfPacket k fate) → (p : Packet (SnapMsg C)) → delivered fate (slice_get w.packets k) ≡ Some p → w.is_up p.destination ≡ true
  taken_packet k fate e p is = let q = passes (OfPacket k fate) e in not-false _ (rw (ends_delivered fate (slice_get w.packets k), is) at q.1)

  pub last_input : (seen : Seen C O) (i : ℕ) (q : RaftInput C) → HasInput (seen ++ input_item i (Some q)) q
  last_input [] i q = inl refl
  last_input (item.Input j r ∷ seen) i q = inr (last_input seen i q)
  last_input (item.Output j o ∷ seen) i q = last_input seen i q
