-- In each world of a run the numbers of a node are in turn, up to its next one, and what it keeps has a number that was given.
use Rattle.std.specs.Prelude.{◌≡◌, ◌≢◌, ℕ, zero, suc, ◌<◌, not, nat_lt, Bool, true, false, cond, List, [], ◌∷◌, ◌++◌, Option, Some, None, slice_get}
use Rattle.std.proofs.Common.{ap, inl, inr, refl, subst, sym, ◌∙◌}
use Rattle.std.proofs.lemmas.Bool.{cases_eq, ltb-true}
use Rattle.std.proofs.lemmas.List.{map-append}
use Rattle.std.proofs.lemmas.Option.{none-some, same_Some}
use Rattle.handler_trait.specs.Handling.{Meaning, Effect, Recovery}
use Rattle.net_semantics.specs.Runs.{IsAllowed, first_refused_from, no_recovery, run, run_from}
use Rattle.net_semantics.specs.RunLaws.{place_and_why-none}
use Rattle.observer_parts.specs.PartLaws.{allowed-before}
use Rattle.net_semantics.specs.Steps.{acts_at, after_event, copied, crashed, delivered, delivery, destination_of, effect_at, fails, next, next_in, node_named, rebooted, refusal_in, refusal_of, with_packets}
use Rattle.net_semantics.specs.StepLaws.{ends_delivered}
use Rattle.net_semantics.specs.Worlds.{Packet, World, change_at, ends_of, first_world, put, sent_by}
use Rattle.net_semantics.proofs.Places.{put-elsewhere, put-there}
use Rattle.vst_base.specs.Nets.{Copied, Delivered, Fate, Lost, StepView, AtNode, OfPacket, Starts, Stops, view_of}
use Rattle.vst_base.specs.declared.net.Net.{Net}
use Rattle.vst_base.specs.declared.step.Step.{Step}
use Rattle.vst_base.specs.declared.step.Step.TheVariants as step
use Rattle.vst_base.specs.declared.retry.RetryMsg.{RetryMsg}
use Rattle.vst_base.specs.declared.retry.RetryMsg.TheVariants as msg
use Rattle.retry_xform.specs.Keeping.{AreBelow, Kept, Retrying}
use Rattle.retry_xform.specs.Retransmission.{retrying, takes_message}
use Rattle.retry_observer.specs.Places.{named, number_in, numbers_at, numbers_in, up_to}
use Rattle.retry_observer.proofs.Sending.{EndsBelow, Makes, again_last, made, made-acknowledged, made-again, made-dropped, named-ending, new_numbers, turns-elsewhere, turns-new}

-- where no answer applies, the first does not, nor does one after it
passed : {R : Type 0} (r : R) (b : Bool) (rest : Option R) → cond b (Some r) rest ≡ None → (b ≡ false) × (rest ≡ None)
passed r true rest e = absurd (none-some r (sym e))
passed r false rest e = (refl, e)

-- a step that is not refused names a node that exists, and happens at one that is up
pub tests-passed : {S K I O M : Type 0} (net : Net) (m : Meaning S I O M) (w : World S K M) (v : StepView I) → refusal_in net m w v ≡ None
    → (fails (node_named v) (λ n. nat_lt n m.nodes) ≡ false) × (fails (acts_at w v) w.is_up ≡ false)
tests-passed net m w v e =
    let kind = passed _ _ _ e in
    let node = passed _ _ _ kind.1 in
    let input = passed _ _ _ node.1 in
    (node.0, (passed _ _ _ input.1).0)

pub passes : (test : ℕ → Bool) (n : ℕ) → fails (Some n) test ≡ false → test n ≡ true
passes test n e = by-case (test n) e where
  by-case : (b : Bool) → not b ≡ false → b ≡ true
  by-case true is = refl
  by-case false is = sym is

module _ {M : Type 0} where
  -- a copy that goes or comes changes no number
  pub numbers-copied : (fate : Fate) (k : ℕ) (ps : List (Packet (RetryMsg M))) → numbers_in (change_at (copied fate) k ps) ≡ numbers_in ps
  numbers-copied fate k [] = refl
  numbers-copied Delivered zero (p ∷ ps) = refl
  numbers-copied Copied zero (p ∷ ps) = refl
  numbers-copied Lost zero (p ∷ ps) = refl
  numbers-copied fate (suc k) (p ∷ ps) = ap (λ bs. (p.source, number_in p.content) ∷ bs) (numbers-copied fate k ps)

  pub numbers-sent : (n : ℕ) (ps : List (Packet (RetryMsg M))) (sends : List (ℕ × RetryMsg M)) → numbers_in (ps ++ sent_by n sends) ≡ numbers_in ps ++ numbers_in (sent_by n sends)
  numbers-sent n ps sends = map-append (λ (p : Packet (RetryMsg M)). (p.source, number_in p.content)) ps (sent_by n sends)

  -- the last packet that a message makes a node send, where it is an acknowledgement
  abbrev pub ack_last : RetryMsg M → Option (Option ℕ)
  ack_last (msg.Data number inner) = Some None
  ack_last (msg.Ack number) = None

module _ {S I O M : Type 0} (m : Meaning S I O M) where
  abbrev RetryWorld : Type 0
  RetryWorld = World (Retrying S M) (Retrying S M) (RetryMsg M)

  -- a node that stopped has kept its state
  pub record Asleep (w : RetryWorld) (n : ℕ) (x : Retrying S M) : Type 0 where
    pub down : w.is_up n ≡ false
    pub same : x ≡ w.state n

  pub record AreNamed (w : RetryWorld) : Type 0 where
    pub turns : (n : ℕ) → numbers_at n (named (numbers_in w.packets)) ≡ up_to (w.state n).next
    pub below : (n : ℕ) → AreBelow (w.state n).next (w.state n).kept
    pub asleep : (n : ℕ) (x : Retrying S M) → w.kept n ≡ Some x → Asleep w n x

  -- an event happens at a node that is up
  named-event : (w : RetryWorld) (n : ℕ) (input : Option I) (e : Effect (Retrying S M) O (RetryMsg M)) (last : Option (Option ℕ)) → AreNamed w → w.is_up n ≡ true
      → EndsBelow (w.state n).next last → Makes n (w.state n) e last → AreNamed (after_event w (Some (record { node = n; input = input; effect = e })))
  named-event w n input e last h up ends is = record {
    turns = λ a. ap (numbers_at a) sent ∙ elim (cases_eq a n) [
      | inl same ↦
          ap (λ i. numbers_at i (named (bs ++ new_numbers n x is.count))) same
          ∙ (turns-new is.count bs n x (h.turns n) ∙ ap up_to (sym is.next ∙ ap (λ (s : Retrying S M). s.next) (sym (put-there w.state n e.state a same))))
      | inr ne ↦ turns-elsewhere a is.count bs n x ne (h.turns n) ∙ (h.turns a ∙ ap (λ (s : Retrying S M). up_to s.next) (sym (put-elsewhere w.state n e.state a ne)))
    ];
    below = λ a. elim (cases_eq a n) [
      | inl same ↦ subst (λ (s : Retrying S M). AreBelow s.next s.kept) (sym (put-there w.state n e.state a same)) is.below
      | inr ne ↦ subst (λ (s : Retrying S M). AreBelow s.next s.kept) (sym (put-elsewhere w.state n e.state a ne)) (h.below a)
    ];
    asleep = λ k y kept.
        let was = h.asleep k y kept in
        let other : k ≢ n = λ same. absurd (true-not-false (sym up ∙ ap w.is_up (sym same) ∙ was.down)) in
        record { down = was.down; same = was.same ∙ sym (put-elsewhere w.state n e.state k other) };
  } where
    true-not-false : true ≡ false → ⊥
    true-not-false is = cc

    bs : List (ℕ × Option ℕ)
    bs = numbers_in w.packets

    x : ℕ
    x = (w.state n).next

    sent : named (numbers_in (w.packets ++ sent_by n e.sends)) ≡ named (bs ++ new_numbers n x is.count)
    sent = ap named (numbers-sent n w.packets e.sends ∙ ap (λ l. bs ++ l) is.sends) ∙ named-ending bs n x last (new_numbers n x is.count) (h.turns n) ends

  named-copies : (w : RetryWorld) (fate : Fate) (k : ℕ) → AreNamed w → AreNamed (with_packets w (change_at (copied fate) k w.packets))
  named-copies w fate k h = record {
    turns = λ n. ap (λ bs. numbers_at n (named bs)) (numbers-copied fate k w.packets) ∙ h.turns n;
    below = h.below;
    asleep = λ n x kept. let was = h.asleep n x kept in record { down = was.down; same = was.same };
  }

  -- what is sent again has a number that was given
  pub again-below : (x : ℕ) (ks : List (Kept M)) → AreBelow x ks → EndsBelow x (again_last (slice_get ks 0))
  again-below x [] below = tt
  again-below x (k ∷ ks) below = below.0

  pub ack-below : (x : ℕ) (c : RetryMsg M) → EndsBelow x (ack_last c)
  ack-below x (msg.Data number inner) = tt
  ack-below x (msg.Ack number) = tt

  pub message-makes : (n from : ℕ) (s : Retrying S M) (c : RetryMsg M) → AreBelow s.next s.kept → Makes n s (takes_message m n s from c) (ack_last c)
  message-makes n from s (msg.Data number inner) below = made-acknowledged n s below from number (m.message n s.inner from inner)
  message-makes n from s (msg.Ack number) below = made-dropped n s below from number

  named-at : (w : RetryWorld) (n : ℕ) (input : Option I) → AreNamed w → w.is_up n ≡ true → AreNamed (after_event w (Some (record { node = n; input = input; effect = effect_at (retrying m) n (w.state n) input })))
  named-at w n (Some i) h up = named-event w n (Some i) _ None h up tt (made n (w.state n) (h.below n) (m.input n (w.state n).inner i))
  named-at w n None h up =
      named-event w n None _ (again_last (slice_get (w.state n).kept 0)) h up (again-below (w.state n).next (w.state n).kept (h.below n))
      (made-again n (w.state n) (h.below n) (w.state n).kept (m.timeout n (w.state n).inner))

  -- a packet comes, if it is one that is delivered
  named-delivery : (w : RetryWorld) (fate : Fate) (k : ℕ) (o : Option (Packet (RetryMsg M))) → AreNamed w → fails (destination_of (ends_of o)) w.is_up ≡ false
      → AreNamed (after_event (with_packets w (change_at (copied fate) k w.packets)) (delivery {I = I} (retrying m) w o))
  named-delivery w fate k None h up = named-copies w fate k h
  named-delivery w fate k (Some p) h up =
      let there = w.state p.destination in
      named-event (with_packets w (change_at (copied fate) k w.packets)) p.destination None (takes_message m p.destination there p.source p.content) (ack_last p.content)
      (named-copies w fate k h) (passes w.is_up p.destination up) (ack-below there.next p.content) (message-makes p.destination p.source there p.content (h.below p.destination))

  named-stop : (w : RetryWorld) (n : ℕ) → AreNamed w → AreNamed (crashed no_recovery w n)
  named-stop w n h = record {
    turns = h.turns;
    below = h.below;
    asleep = λ k x kept. elim (cases_eq k n) [
      | inl same ↦
          let is : w.state n ≡ x = same_Some (w.state n) x (sym (put-there w.kept n (Some (w.state n)) k same) ∙ kept) in
          record { down = put-there w.is_up n false k same; same = sym is ∙ ap w.state (sym same) }
      | inr ne ↦
          let was = h.asleep k x (sym (put-elsewhere w.kept n (Some (w.state n)) k ne) ∙ kept) in
          record { down = put-elsewhere w.is_up n false k ne ∙ was.down; same = was.same }
    ];
  }

  -- a node that starts again has the state in which it stopped
  named-start : (w : RetryWorld) (n : ℕ) (o : Option (Retrying S M)) → AreNamed w → w.kept n ≡ o → AreNamed (rebooted no_recovery w n o)
  named-start w n None h is = h
  named-start w n (Some x) h is = record {
    turns = λ a. h.turns a ∙ ap (λ (s : Retrying S M). up_to s.next) (sym (stays a));
    below = λ a. subst (λ (s : Retrying S M). AreBelow s.next s.kept) (sym (stays a)) (h.below a);
    asleep = λ k y kept. elim (cases_eq k n) [
      | inl same ↦ absurd (none-some y (sym (put-there w.kept n None k same) ∙ kept))
      | inr ne ↦
          let was = h.asleep k y (sym (put-elsewhere w.kept n None k ne) ∙ kept) in
          record { down = put-elsewhere w.is_up n true k ne ∙ was.down; same = was.same ∙ sym (stays k) }
    ];
  } where
    stays : (a : ℕ) → put w.state n x a ≡ w.state a
    stays a = elim (cases_eq a n) [
      | inl same ↦ put-there w.state n x a same ∙ ((h.asleep n x is).same ∙ ap w.state (sym same))
      | inr ne ↦ put-elsewhere w.state n x a ne
    ]

  named-next : (net : Net) (w : RetryWorld) (v : StepView I) → AreNamed w → refusal_in net (retrying m) w v ≡ None → AreNamed (next_in (retrying m) no_recovery w v)
  named-next net w (AtNode n input) h e = named-at w n input h (passes w.is_up n (tests-passed net (retrying m) w (AtNode n input) e).1)
  named-next net w (OfPacket k fate) h e =
      named-delivery w fate k (delivered fate (slice_get w.packets k)) h
      (ap (λ o. fails (destination_of o) w.is_up) (sym (ends_delivered fate (slice_get w.packets k))) ∙ (tests-passed net (retrying m) w (OfPacket k fate) e).1)
  named-next net w (Stops n) h e = named-stop w n h
  named-next net w (Starts n) h e = named-start w n (w.kept n) h refl

  named-run : (net : Net) (ss : List (Step I)) (w : RetryWorld) → AreNamed w → first_refused_from net (retrying m) no_recovery w ss ≡ None → AreNamed (run_from (retrying m) no_recovery w ss)
  named-run net [] w h allowed = h
  named-run net (s ∷ ss) w h allowed =
      let both = place_and_why-none (refusal_of net (retrying m) w s) (first_refused_from net (retrying m) no_recovery (next (retrying m) no_recovery w s) ss) allowed in
      named-run net ss (next (retrying m) no_recovery w s) (named-next net w (view_of s) h both.0) both.1

  pub are-named : (net : Net) (ss : List (Step I)) → IsAllowed net (retrying m) no_recovery ss → AreNamed (run (retrying m) no_recovery ss)
  are-named net ss allowed = named-run net ss (first_world (retrying m)) (record { turns = λ n. refl; below = λ n. tt; asleep = λ n x kept. absurd (none-some x kept) }) allowed

  -- a timer fires at a node that exists
  pub ticks-at_node : (r : Recovery (Retrying S M) (Retrying S M)) (net : Net) (ss : List (Step I)) (n : ℕ) → IsAllowed net (retrying m) r (ss ++ step.Tick n ∷ []) → n < m.nodes
  ticks-at_node r net ss n allowed =
      let refused = (allowed-before net (retrying m) r ss (step.Tick n) (first_world (retrying m)) allowed).1 in
      ltb-true n m.nodes (passes (λ x. nat_lt x m.nodes) n (tests-passed net (retrying m) (run (retrying m) r ss) (AtNode n None) refused).0)
