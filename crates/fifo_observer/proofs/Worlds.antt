-- In each world of a run the packets of each channel have the numbers from 0 on, up to the next one of its source.
use Rattle.std.specs.Prelude.{◌≡◌, ◌≢◌, ℕ, zero, suc, not, ◌==◌, Bool, true, false, cond, List, [], ◌∷◌, ◌++◌, Option, Some, None, slice_get}
use Rattle.std.proofs.Common.{ap, inl, inr, refl, subst, sym, ◌∙◌}
use Rattle.std.proofs.lemmas.Bool.{cases_eq}
use Rattle.std.proofs.lemmas.Option.{none-some, same_Some}
use Rattle.handler_trait.specs.Handling.{Meaning, Effect}
use Rattle.net_semantics.specs.Runs.{IsAllowed, first_refused_from, no_recovery, run, run_from}
use Rattle.net_semantics.specs.RunLaws.{place_and_why-none}
use Rattle.net_semantics.specs.Steps.{acts_at, after_event, copied, crashed, delivered, delivery, destination_of, effect_at, fails, next, next_in, rebooted, refusal_in, refusal_of, refusals_in, with_packets}
use Rattle.net_semantics.specs.StepLaws.{ends_delivered}
use Rattle.net_semantics.specs.Worlds.{Packet, World, change_at, ends_of, first_world, sent_by}
use Rattle.net_semantics.proofs.Places.{put-elsewhere, put-there}
use Rattle.vst_base.specs.Firsts.{first_of}
use Rattle.vst_base.specs.Nets.{Fate, StepView, AtNode, OfPacket, Starts, Stops, view_of}
use Rattle.vst_base.specs.declared.net.Net.{Net}
use Rattle.vst_base.specs.declared.seq.SeqMsg.{SeqMsg}
use Rattle.vst_base.specs.declared.step.Step.{Step}
use Rattle.vst_base.specs.declared.step.StepRefusal.TheVariants as refusal
use Rattle.fifo_xform.specs.Fifo.{FifoState, counted, fifo, gives, gives_nothing, numbered_by, on_message, on_timeout}
use Rattle.fifo_xform.specs.Peers.{Peers, holding, is_early, passing, peer_of, ready}
use Rattle.fifo_xform.proofs.PeerFacts.{next-holding, next-passing}
use Rattle.fifo_observer.proofs.Numbers.{InTurn, turn-copied, turn-sent, turn-unsent}

-- where no answer applies, each test fails
pub none-applies : {R : Type 0} (rs : List (R × Bool)) (k : ℕ) (r : R × Bool) → first_of rs ≡ None → slice_get rs k ≡ Some r → r.1 ≡ false
none-applies [] k r e at = absurd (none-some r at)
none-applies {R = R} (x ∷ rs) k r e at = by-case x.1 refl e k at (λ rest j. none-applies rs j r rest) where
  by-case : (b : Bool) → x.1 ≡ b → cond b (Some x.0) (first_of rs) ≡ None → (k : ℕ) → slice_get (x ∷ rs) k ≡ Some r → (first_of rs ≡ None → (j : ℕ) → slice_get rs j ≡ Some r → r.1 ≡ false) → r.1 ≡ false
  by-case true is e k at rest = absurd (none-some x.0 (sym e))
  by-case false is e zero at rest = ap (λ (y : R × Bool). y.1) (sym (same_Some x r at)) ∙ is
  by-case false is e (suc k) at rest = rest e k at

pub holds-at : (test : ℕ → Bool) (n : ℕ) → fails (Some n) test ≡ false → test n ≡ true
holds-at test n e = by-case (test n) e where
  by-case : (b : Bool) → not b ≡ false → b ≡ true
  by-case true is = refl
  by-case false is = sym is

module _ {S I O M : Type 0} (m : Meaning S I O M) where
  abbrev FifoWorld : Type 0
  FifoWorld = World (FifoState S M) (FifoState S M) (SeqMsg M)

  abbrev next_of : FifoState S M → ℕ → ℕ
  next_of s d = (peer_of s.peers d).next

  -- a node that stopped has kept what it had of each number
  pub record Asleep (w : FifoWorld) (n : ℕ) (x : FifoState S M) : Type 0 where
    pub down : w.is_up n ≡ false
    pub same : (d : ℕ) → next_of x d ≡ next_of (w.state n) d

  -- the packets of each channel have its numbers in turn, and a node that stopped knows which comes next
  pub record AreNumbered (w : FifoWorld) : Type 0 where
    pub turns : (a d : ℕ) → InTurn a d w.packets (next_of (w.state a) d) 0
    pub asleep : (n : ℕ) (x : FifoState S M) → w.kept n ≡ Some x → Asleep w n x

  -- an event numbers its sends after those that its node numbered before
  record Numbers (s : FifoState S M) (e : Effect (FifoState S M) O (SeqMsg M)) : Type 0 where
    before : Peers M
    sends : List (ℕ × M)
    same : (d : ℕ) → (peer_of before d).next ≡ next_of s d
    peers : e.state.peers ≡ counted before sends
    sent : e.sends ≡ numbered_by before sends

  effect-numbers : (n : ℕ) (s : FifoState S M) (input : Option I) → Numbers s (effect_at (fifo m) n s input)
  effect-numbers n s (Some i) = record { before = s.peers; sends = (m.input n s.inner i).sends; same = λ d. refl; peers = refl; sent = refl }
  effect-numbers n s None = by-ready (ready m.nodes s.peers) where
    by-ready : (o : Option (ℕ × M)) → Numbers s (on_timeout m n s o)
    by-ready None = record { before = s.peers; sends = (m.timeout n s.inner).sends; same = λ d. refl; peers = refl; sent = refl }
    by-ready (Some held) =
        record { before = passing s.peers held.0; sends = (m.message n s.inner held.0 held.1).sends; same = λ d. next-passing s.peers held.0 d; peers = refl; sent = refl }

  message-numbers : (n : ℕ) (s : FifoState S M) (from : ℕ) (p : SeqMsg M) → Numbers s (on_message m n s from p)
  message-numbers n s from p = by-case (p.number == (peer_of s.peers from).expected) (is_early (peer_of s.peers from) p.number) where
    by-case : (b c : Bool) → Numbers s (cond b (gives m n s from p.inner) (gives_nothing s.inner (cond c (holding s.peers from p.number p.inner) s.peers)))
    by-case true c =
        record { before = passing s.peers from; sends = (m.message n s.inner from p.inner).sends; same = λ d. next-passing s.peers from d; peers = refl; sent = refl }
    by-case false true = record { before = holding s.peers from p.number p.inner; sends = []; same = λ d. next-holding s.peers from d p.number p.inner; peers = refl; sent = refl }
    by-case false false = record { before = s.peers; sends = []; same = λ d. refl; peers = refl; sent = refl }

  -- an event happens at a node that is up
  numbered-event : (w : FifoWorld) (n : ℕ) (input : Option I) (e : Effect (FifoState S M) O (SeqMsg M)) → AreNumbered w → w.is_up n ≡ true → Numbers (w.state n) e
      → AreNumbered (after_event w (Some (record { node = n; input = input; effect = e })))
  numbered-event w n input e h up is = record {
    turns = λ a d. elim (cases_eq a n) [
      | inl same ↦
          let had : InTurn n d w.packets (peer_of is.before d).next 0 = subst (λ x. InTurn n d w.packets x 0) (sym (is.same d)) (h.turns n d) in
          let sent : InTurn n d (w.packets ++ sent_by n e.sends) (peer_of (counted is.before is.sends) d).next 0 = rw is.sent (turn-sent n d is.sends is.before w.packets had) in
          rw (same, put-there w.state n e.state n refl, is.peers) sent
      | inr ne ↦ rw (put-elsewhere w.state n e.state a ne) (turn-unsent a d n ne e.sends w.packets (next_of (w.state a) d) (h.turns a d))
    ];
    asleep = λ k x kept.
        let was = h.asleep k x kept in
        let other : k ≢ n = λ same. absurd (true-not-false (sym up ∙ ap w.is_up (sym same) ∙ was.down)) in
        record { down = was.down; same = λ d. was.same d ∙ ap (λ s. next_of s d) (sym (put-elsewhere w.state n e.state k other)) };
  } where
    true-not-false : true ≡ false → ⊥
    true-not-false is = cc

  numbered-copies : (w : FifoWorld) (fate : Fate) (k : ℕ) → AreNumbered w → AreNumbered (with_packets w (change_at (copied fate) k w.packets))
  numbered-copies w fate k h = record {
    turns = λ a d. turn-copied a d fate k w.packets (next_of (w.state a) d) 0 (h.turns a d);
    asleep = λ n x kept. let was = h.asleep n x kept in record { down = was.down; same = was.same };
  }

  -- a packet comes, if it is one that is delivered
  numbered-delivery : (w : FifoWorld) (fate : Fate) (k : ℕ) (o : Option (Packet (SeqMsg M))) → AreNumbered w → fails (destination_of (ends_of o)) w.is_up ≡ false
      → AreNumbered (after_event (with_packets w (change_at (copied fate) k w.packets)) (delivery {I = I} (fifo m) w o))
  numbered-delivery w fate k None h up = numbered-copies w fate k h
  numbered-delivery w fate k (Some p) h up =
      numbered-event (with_packets w (change_at (copied fate) k w.packets)) p.destination None (on_message m p.destination (w.state p.destination) p.source p.content)
      (numbered-copies w fate k h) (holds-at w.is_up p.destination up) (message-numbers p.destination (w.state p.destination) p.source p.content)

  numbered-stop : (w : FifoWorld) (n : ℕ) → AreNumbered w → AreNumbered (crashed no_recovery w n)
  numbered-stop w n h = record {
    turns = h.turns;
    asleep = λ k x kept. elim (cases_eq k n) [
      | inl same ↦
          let is : w.state n ≡ x = same_Some (w.state n) x (sym (put-there w.kept n (Some (w.state n)) k same) ∙ kept) in
          record { down = put-there w.is_up n false k same; same = λ d. ap (λ s. next_of s d) (sym is ∙ ap w.state (sym same)) }
      | inr ne ↦
          let was = h.asleep k x (sym (put-elsewhere w.kept n (Some (w.state n)) k ne) ∙ kept) in
          record { down = put-elsewhere w.is_up n false k ne ∙ was.down; same = was.same }
    ];
  }

  numbered-start : (w : FifoWorld) (n : ℕ) (o : Option (FifoState S M)) → AreNumbered w → w.kept n ≡ o → AreNumbered (rebooted no_recovery w n o)
  numbered-start w n None h is = h
  numbered-start w n (Some x) h is = record {
    turns = λ a d. elim (cases_eq a n) [
      | inl same ↦ rw (same, put-there w.state n x n refl, (h.asleep n x is).same d) (h.turns n d)
      | inr ne ↦ rw (put-elsewhere w.state n x a ne) (h.turns a d)
    ];
    asleep = λ k y kept. elim (cases_eq k n) [
      | inl same ↦ absurd (none-some y (sym (put-there w.kept n None k same) ∙ kept))
      | inr ne ↦
          let was = h.asleep k y (sym (put-elsewhere w.kept n None k ne) ∙ kept) in
          record { down = put-elsewhere w.is_up n true k ne ∙ was.down; same = λ d. was.same d ∙ ap (λ s. next_of s d) (sym (put-elsewhere w.state n x k ne)) }
    ];
  }

  -- where a step is not refused, its node is up
  acts-up : (net : Net) (w : FifoWorld) (v : StepView I) → refusal_in net (fifo m) w v ≡ None → fails (acts_at w v) w.is_up ≡ false
  acts-up net w v e = none-applies (refusals_in net (fifo m) w v) 3 (refusal.NodeDown, fails (acts_at w v) w.is_up) e refl

  numbered-next : (net : Net) (w : FifoWorld) (v : StepView I) → AreNumbered w → refusal_in net (fifo m) w v ≡ None → AreNumbered (next_in (fifo m) no_recovery w v)
  numbered-next net w (AtNode n input) h e = numbered-event w n input (effect_at (fifo m) n (w.state n) input) h (holds-at w.is_up n (acts-up net w (AtNode n input) e)) (effect-numbers n (w.state n) input)
  numbered-next net w (OfPacket k fate) h e =
      numbered-delivery w fate k (delivered fate (slice_get w.packets k)) h
      (ap (λ o. fails (destination_of o) w.is_up) (sym (ends_delivered fate (slice_get w.packets k))) ∙ acts-up net w (OfPacket k fate) e)
  numbered-next net w (Stops n) h e = numbered-stop w n h
  numbered-next net w (Starts n) h e = numbered-start w n (w.kept n) h refl

  numbered-run : (net : Net) (ss : List (Step I)) (w : FifoWorld) → AreNumbered w → first_refused_from net (fifo m) no_recovery w ss ≡ None → AreNumbered (run_from (fifo m) no_recovery w ss)
  numbered-run net [] w h allowed = h
  numbered-run net (s ∷ ss) w h allowed =
      let both = place_and_why-none (refusal_of net (fifo m) w s) (first_refused_from net (fifo m) no_recovery (next (fifo m) no_recovery w s) ss) allowed in
      numbered-run net ss (next (fifo m) no_recovery w s) (numbered-next net w (view_of s) h both.0) both.1

  pub are-numbered : (net : Net) (ss : List (Step I)) → IsAllowed net (fifo m) no_recovery ss → AreNumbered (run (fifo m) no_recovery ss)
  are-numbered net ss allowed = numbered-run net ss (first_world (fifo m)) (record { turns = λ a d. refl; asleep = λ n x kept. absurd (none-some x kept) }) allowed
