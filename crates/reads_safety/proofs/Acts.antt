-- What each step does to nodes and packets.
use Rattle.std.proofs.Common.{◌≡◌, ℕ, zero, suc, ◌+◌, ◌≤◌, ◌⊎◌, inl, inr, Bool, true, false, not, ◌&&◌, eqb, ltb, max, List, [], ◌∷◌, ◌++◌, get_or, set, Option, Some, None, cond, slice_get, refl, sym, ap, ◌∙◌, arith}
use Rattle.std.proofs.lemmas.Bool.{and_parts, eqb-true, false≢true}
use Rattle.std.proofs.lemmas.Bool.Decides.{eqb_tells}
use Rattle.net_semantics.specs.Steps.{acting, after_event, delivery, event_of, fails, is_first, node_of, packet_of, reboots, refusal_of, takes_input_of, with_packets}
use Rattle.vst_base.specs.Firsts.{first_of}
use Rattle.vst_base.specs.Nets.{has_kind, keeps_order, kind_of}
use Rattle.vst_base.specs.declared.step.StepRefusal.TheVariants as refusal
use Rattle.net_semantics.specs.Worlds.{Packet, change_at, copies, one_less, one_more}
use Rattle.vst_base.specs.declared.net.Net.TheVariants as net
use Rattle.vst_base.specs.declared.step.Step.{Step}
use Rattle.vst_base.specs.declared.step.Step.TheVariants as step
use Rattle.raft_free.specs.Events.{In}
use Rattle.raft_types.specs.Messages.{KeptView}
use Rattle.raft_types.specs.Terms.{term_of}
use Rattle.raft_types.specs.declared.client.RaftInput.{RaftInput}
use Rattle.raft_xform.specs.Electing.{tick}
use Rattle.raft_xform.specs.Nodes.{RaftEffect, is_leader}
use Rattle.raft_xform.specs.Raft as raft_rules
use Rattle.raft_xform.specs.Raft.{raft}
use Rattle.raft_xform.specs.Replicating.{on_input}
use Rattle.raft_safety.proofs.Mirroring.{IsLike}
use Rattle.raft_safety.proofs.Listing.{got_in}
use Rattle.raft_reads.specs.ReadRaft.{acknowledged, read_raft, waits, with_reads}
use Rattle.raft_types.specs.Rounds.{ReadMsg}
use Rattle.raft_reads.specs.Reads.{ReadView, Reads, Waiting, acked_by, has_committed_own, is_appended, with_ack, with_read}
use Rattle.raft_reads.specs.Clusters.{ReadCluster, ReadWorld, next_world}
use Rattle.raft_reads.specs.Erasing.{erased_packet, erased_step, erased_world}
use Rattle.raft_reads.proofs.Erasing.{get_map}
use Rattle.std.specs.Prelude.{option_map}
use Rattle.reads_safety.proofs.Shapes.{Shaped, shaped_input, shaped_message, shaped_tick}

pub like_same : {M : Type 0} (ps : List (Packet M)) (p : Packet M) → In p ps → IsLike ps p
like_same ps p h = record { was = p; there = h; source = refl; destination = refl; content = refl }

like_more : {M : Type 0} (x : Packet M) (ps : List (Packet M)) (p : Packet M) → IsLike ps p → IsLike (x ∷ ps) p
like_more x ps p l = record { was = l.was; there = inr l.there; source = l.source; destination = l.destination; content = l.content }

like_less : {M : Type 0} (k : ℕ) (ps : List (Packet M)) (p : Packet M) → In p (change_at one_less k ps) → IsLike ps p
like_less k [] p h = absurd h
like_less zero (x ∷ ps) p (inl e) = rw e (record { was = x; there = inl refl; source = refl; destination = refl; content = refl })
like_less zero (x ∷ ps) p (inr h) = like_same (x ∷ ps) p (inr h)
like_less (suc k) (x ∷ ps) p (inl e) = like_same (x ∷ ps) p (inl e)
like_less (suc k) (x ∷ ps) p (inr h) = like_more x ps p (like_less k ps p h)

like_dup : {M : Type 0} (k : ℕ) (ps : List (Packet M)) (p : Packet M) → In p (change_at one_more k ps) → IsLike ps p
like_dup k [] p h = absurd h
like_dup zero (x ∷ ps) p (inl e) = rw e (record { was = x; there = inl refl; source = refl; destination = refl; content = refl })
like_dup zero (x ∷ ps) p (inr h) = like_same (x ∷ ps) p (inr h)
like_dup (suc k) (x ∷ ps) p (inl e) = like_same (x ∷ ps) p (inl e)
like_dup (suc k) (x ∷ ps) p (inr h) = like_more x ps p (like_dup k ps p h)

-- the message that is answered, if the round that is given back is not 0
pub record IsAsked {C : Type 0} (packets : List (Packet (ReadMsg C))) (its_term its_round : ℕ) : Type 0 where
  pub packet : Packet (ReadMsg C)
  pub there : In packet packets
  pub term : term_of packet.content.raft ≡ its_term
  pub round : packet.content.round ≡ its_round

-- a node gave back as much in this term
pub record HasAcked {C : Type 0} (packets : List (Packet (ReadMsg C))) (its_term node given : ℕ) : Type 0 where
  pub packet : Packet (ReadMsg C)
  pub there : In packet packets
  pub answer : is_appended packet.content.raft ≡ true
  pub source : packet.source ≡ node
  pub term : term_of packet.content.raft ≡ its_term
  pub le : given ≤ packet.content.round

-- a read that has just come
pub record IsNew {S C O : Type 0} (c : ReadCluster S C O) (s : ReadView S C O) (e : ℕ) (st : Step (RaftInput C)) (x : Waiting C) : Type 0 where
  pub step : st ≡ step.In e x.input
  pub waits : waits c.is_read s x.input ≡ true
  pub round : x.round ≡ suc s.reads.round
  pub read_index : x.read_index ≡ s.raft.commit

-- how many of these have a request that passes the test
abbrev pub count_waiting : {C : Type 0} → (RaftInput C → Bool) → List (Waiting C) → ℕ
count_waiting f [] = 0
count_waiting f (x ∷ xs) = cond (f x.input) (suc (count_waiting f xs)) (count_waiting f xs)

-- a read comes, and one more of them may wait
pub record Comes {S C O : Type 0} (c : ReadCluster S C O) (e : ℕ) (st : Step (RaftInput C)) (f : RaftInput C → Bool) (before after : ℕ) : Type 0 where
  pub input : RaftInput C
  pub step : st ≡ step.In e input
  pub passes : f input ≡ true
  pub reads : c.is_read input.cmd ≡ true
  pub more : after ≤ suc before

-- a step is an event at a node
pub record Act {S C O : Type 0} (c : ReadCluster S C O) (w : ReadWorld S C O) (s : Step (RaftInput C)) : Type 0 where
  pub node : ℕ
  pub input : Option (RaftInput C)
  pub effect : RaftEffect S C O
  pub reads : Reads C
  pub term : ℕ
  pub round : ℕ
  pub packets : List (Packet (ReadMsg C))
  pub up : w.is_up node ≡ true
  pub event : event_of (read_raft c.nodes c.machine c.is_read) w s
      ≡ Some (record { node = node; input = input; effect = with_reads c.machine c.nodes node (w.state node).raft effect reads term round })
  pub erased_input : Option (RaftInput C)
  pub erased_event : event_of (raft c.nodes c.machine) (erased_world w) (erased_step c w s) ≡ Some (record { node = node; input = erased_input; effect = effect })
  pub is : next_world c w s
      ≡ after_event (with_packets w packets) (Some (record { node = node; input = input; effect = with_reads c.machine c.nodes node (w.state node).raft effect reads term round }))
  pub like : (p : Packet (ReadMsg C)) → In p packets → IsLike w.packets p
  pub shaped : Shaped effect
  pub grows : (w.state node).reads.round ≤ reads.round
  pub answers : (round ≡ 0) ⊎ IsAsked w.packets term round
  pub given : (j : ℕ) → (acked_by reads j ≤ acked_by (w.state node).reads j) ⊎ HasAcked w.packets (w.state node).raft.ballot.term j (acked_by reads j)
  pub counted : (f : RaftInput C → Bool) → (count_waiting f reads.waiting ≤ count_waiting f (w.state node).reads.waiting)
      ⊎ Comes c node s f (count_waiting f (w.state node).reads.waiting) (count_waiting f reads.waiting)
  pub waiting : (x : Waiting C) → In x reads.waiting → In x (w.state node).reads.waiting ⊎ IsNew c (w.state node) node s x

-- or it changes no node that goes on, and no packet but for its copies
pub record Quiet {S C O : Type 0} (c : ReadCluster S C O) (w : ReadWorld S C O) (s : Step (RaftInput C)) : Type 0 where
  pub none : event_of (read_raft c.nodes c.machine c.is_read) w s ≡ None
  pub node : (k : ℕ) → (next_world c w s).is_up k ≡ true →
      (((next_world c w s).state k ≡ w.state k) × (w.is_up k ≡ true)) ⊎ ((is_leader ((next_world c w s).state k).raft.role ≡ false) × (((next_world c w s).state k).reads.waiting ≡ []))
  pub each : (k : ℕ) → ((next_world c w s).state k ≡ w.state k) ⊎ (((next_world c w s).state k).reads.waiting ≡ [])
  pub like : (p : Packet (ReadMsg C)) → In p (next_world c w s).packets → IsLike w.packets p

not_false : (b : Bool) → not b ≡ false → b ≡ true
not_false true e = refl
not_false false e = absurd (false≢true (sym e))

-- where none of the refusals applies
none_applies : (a b c d e f g : Bool) →
    first_of ((refusal.NotThisNet, a) ∷ (refusal.NoSuchNode, b) ∷ (refusal.NoInputHere, c) ∷ (refusal.NodeDown, d) ∷ (refusal.NodeUp, e) ∷ (refusal.NoCopy, f) ∷ (refusal.NotFirst, g) ∷ []) ≡ None → d ≡ false
none_applies true b c d e f g h = absurd (cc (h))
none_applies false true c d e f g h = absurd (cc (h))
none_applies false false true d e f g h = absurd (cc (h))
none_applies false false false true e f g h = absurd (cc (h))
none_applies false false false false e f g h = refl

in_last : {A : Type 0} (xs : List A) (y x : A) → In x (xs ++ y ∷ []) → In x xs ⊎ (x ≡ y)
in_last [] y x (inl e) = inr e
in_last [] y x (inr h) = absurd h
in_last (z ∷ xs) y x (inl e) = inl (inl e)
in_last (z ∷ xs) y x (inr h) = elim (in_last xs y x h) [ inl q ↦ inl (inr q) | inr q ↦ inr q ]

count_last : {C : Type 0} (f : RaftInput C → Bool) (xs : List (Waiting C)) (x : Waiting C) (k : ℕ) → cond (f x.input) 1 0 ≤ k → count_waiting f (xs ++ x ∷ []) ≤ k + count_waiting f xs
count_last f [] x k h = omega (arith, h)
count_last f (y ∷ ys) x k h = go (f y.input) (count_last f ys x k h)
  where
    go : (b : Bool) → count_waiting f (ys ++ x ∷ []) ≤ k + count_waiting f ys → cond b (suc (count_waiting f (ys ++ x ∷ []))) (count_waiting f (ys ++ x ∷ [])) ≤ k + cond b (suc (count_waiting f ys)) (count_waiting f ys)
    go true h = omega (arith, h)
    go false h = omega (arith, h)

-- what a list has once a number is set
set_out : (xs : List ℕ) (k v j : ℕ) → (get_or (set xs k v) j 0 ≤ get_or xs j 0) ⊎ ((j ≡ k) × (get_or (set xs k v) j 0 ≡ v))
set_out [] k v j = inl (omega arith)
set_out (x ∷ xs) zero v zero = inr (refl, refl)
set_out (x ∷ xs) zero v (suc j) = inl (omega arith)
set_out (x ∷ xs) (suc k) v zero = inl (omega arith)
set_out (x ∷ xs) (suc k) v (suc j) = elim (set_out xs k v j) [ inl h ↦ inl h | inr h ↦ inr (ap suc h.0, h.1) ]

cases_max : (v a b : ℕ) → v ≡ max a b → (v ≤ a) ⊎ (v ≤ b)
cases_max v a b e = grind arith

module _ {S C O : Type 0} (c : ReadCluster S C O) (w : ReadWorld S C O) where
  abbrev pub Taken : Step (RaftInput C) → Type 0
  Taken s = refusal_of net.Fail (read_raft c.nodes c.machine c.is_read) w s ≡ None

  passes : (s : Step (RaftInput C)) → Taken s → fails (acting w s) w.is_up ≡ false
  passes s e =
      none_applies (not (has_kind net.Fail (kind_of s))) (fails (node_of s) (λ i. ltb i c.nodes)) (not (takes_input_of (read_raft c.nodes c.machine c.is_read).takes_input s)) (fails (acting w s) w.is_up) (fails (reboots s) (λ i. not (w.is_up i)))
      (fails (packet_of s) (λ k. ltb 0 (copies w k))) (keeps_order net.Fail && fails (packet_of s) (is_first w)) e

  -- a message at a leader of its term
  heard_given : (s : ReadView S C O) (p : Packet (ReadMsg C)) → In p w.packets → (b : Bool) →
      (b ≡ true → (is_appended p.content.raft ≡ true) × (term_of p.content.raft ≡ s.raft.ballot.term)) → (j : ℕ) →
      (acked_by (cond b (with_ack s.reads p.source p.content.round) s.reads) j ≤ acked_by s.reads j)
      ⊎ HasAcked w.packets s.raft.ballot.term j (acked_by (cond b (with_ack s.reads p.source p.content.round) s.reads) j)
  heard_given s p there false h j = inl (omega arith)
  heard_given s p there true h j = elim (set_out s.reads.acked p.source (max (acked_by s.reads p.source) p.content.round) j) [
    | inl q ↦ inl q
    | inr q ↦ elim (cases_max (get_or (set s.reads.acked p.source (max (acked_by s.reads p.source) p.content.round)) j 0) (acked_by s.reads p.source) p.content.round q.1) [
      | inl le ↦ inl (rw (q.0) (rw (q.0) at le))
      | inr le ↦ inr (record { packet = p; there = there; answer = (h refl).0; source = sym q.0; term = (h refl).1; le = le })
    ]
  ]

  heard_rest : (s : ReadView S C O) (p : Packet (ReadMsg C)) (b : Bool) → (cond b (with_ack s.reads p.source p.content.round) s.reads).waiting ≡ s.reads.waiting
  heard_rest s p true = refl
  heard_rest s p false = refl

  heard_round : (s : ReadView S C O) (p : Packet (ReadMsg C)) (b : Bool) → (cond b (with_ack s.reads p.source p.content.round) s.reads).round ≡ s.reads.round
  heard_round s p true = refl
  heard_round s p false = refl

  act_deliver : (k : ℕ) → Taken (step.Deliver k) → (p : Packet (ReadMsg C)) → slice_get w.packets k ≡ Some p → Act c w (step.Deliver k)
  act_deliver k taken p at = record {
    node = p.destination;
    input = None;
    effect = raft_rules.on_message c.machine c.nodes p.destination s.raft p.source p.content.raft;
    reads = acknowledged s p.source p.content;
    term = term_of p.content.raft;
    round = p.content.round;
    packets = change_at one_less k w.packets;
    up = not_false _ (rw at at (passes (step.Deliver k) taken));
    event = ap (delivery (read_raft c.nodes c.machine c.is_read) w) at;
    erased_input = None;
    erased_event = ap (delivery (raft c.nodes c.machine) (erased_world w)) (get_map erased_packet w.packets k ∙ ap (option_map erased_packet) at);
    is = ap (λ o. after_event (with_packets w (change_at one_less k w.packets)) (delivery (read_raft c.nodes c.machine c.is_read) w o)) at;
    like = like_less k w.packets;
    shaped = shaped_message c.machine c.nodes p.destination s.raft p.source p.content.raft;
    grows = omega (arith, heard_round s p b);
    answers = inr (record { packet = p; there = there; term = refl; round = refl });
    given = heard_given s p there b (λ e. let q = and_parts (is_appended p.content.raft) (is_leader s.raft.role && eqb (term_of p.content.raft) s.raft.ballot.term) e in
        let t = and_parts (is_leader s.raft.role) (eqb (term_of p.content.raft) s.raft.ballot.term) q.1 in (q.0, eqb-true _ _ t.1));
    counted = λ f. inl (rw (heard_rest s p b) (omega arith));
    waiting = λ x h. inl (rw (heard_rest s p b) at h);
  }
    where
      s : ReadView S C O
      s = w.state p.destination

      b : Bool
      b = is_appended p.content.raft && (is_leader s.raft.role && eqb (term_of p.content.raft) s.raft.ballot.term)

      there : In p w.packets
      there = got_in w.packets k p at

  act_tick : (n : ℕ) → Taken (step.Tick n) → Act c w (step.Tick n)
  act_tick n taken = record {
    node = n;
    input = None;
    effect = tick c.machine c.nodes n (w.state n).raft;
    reads = (w.state n).reads;
    term = 0;
    round = 0;
    packets = w.packets;
    up = not_false _ (passes (step.Tick n) taken);
    event = refl;
    erased_input = None;
    erased_event = refl;
    is = refl;
    like = like_same w.packets;
    shaped = shaped_tick c.machine c.nodes n (w.state n).raft;
    grows = omega arith;
    answers = inl refl;
    given = λ j. inl (omega arith);
    counted = λ f. inl (omega arith);
    waiting = λ x h. inl h;
  }

  act_input : (n : ℕ) (q : RaftInput C) → Taken (step.In n q) → (b : Bool) → waits c.is_read (w.state n) q ≡ b → Act c w (step.In n q)
  act_input n q taken true e = record {
    node = n;
    input = Some q;
    effect = tick c.machine c.nodes n (w.state n).raft;
    reads = with_read (w.state n).reads q (w.state n).raft.commit;
    term = 0;
    round = 0;
    packets = w.packets;
    up = not_false _ (passes (step.In n q) taken);
    event = rw e refl;
    erased_input = None;
    erased_event = rw e refl;
    is = rw e refl;
    like = like_same w.packets;
    shaped = shaped_tick c.machine c.nodes n (w.state n).raft;
    grows = omega arith;
    answers = inl refl;
    given = λ j. inl (omega arith);
    counted = λ f. go f (f q) refl;
    waiting = λ x h. elim (in_last (w.state n).reads.waiting _ x h) [
      | inl i ↦ inl i
      | inr i ↦ inr (rw i (record { step = refl; waits = e; round = refl; read_index = refl }))
    ];
  }
    where
      s : ReadView S C O
      s = w.state n

      go : (f : RaftInput C → Bool) → (b : Bool) → f q ≡ b → (count_waiting f (with_read s.reads q s.raft.commit).waiting ≤ count_waiting f s.reads.waiting)
          ⊎ Comes c n (step.In n q) f (count_waiting f s.reads.waiting) (count_waiting f (with_read s.reads q s.raft.commit).waiting)
      go f false is = inl (let k = count_last f s.reads.waiting (record { input = q; round = suc s.reads.round; read_index = s.raft.commit }) 0 (rw is (omega arith)) in omega arith)
      go f true is = inr (record { input = q; step = refl; passes = is; reads = (and_parts (c.is_read q.cmd) (is_leader s.raft.role && has_committed_own s.raft) e).0; more = let k = count_last f s.reads.waiting (record { input = q; round = suc s.reads.round; read_index = s.raft.commit }) 1 (rw is (omega arith)) in omega arith })
  act_input n q taken false e = record {
    node = n;
    input = Some q;
    effect = on_input c.machine c.nodes n (w.state n).raft q;
    reads = (w.state n).reads;
    term = 0;
    round = 0;
    packets = w.packets;
    up = not_false _ (passes (step.In n q) taken);
    event = rw e refl;
    erased_input = Some q;
    erased_event = rw e refl;
    is = rw e refl;
    like = like_same w.packets;
    shaped = shaped_input c.machine c.nodes n (w.state n).raft q;
    grows = omega arith;
    answers = inl refl;
    given = λ j. inl (omega arith);
    counted = λ f. inl (omega arith);
    waiting = λ x h. inl h;
  }

  pub act : (s : Step (RaftInput C)) → Taken s → Act c w s ⊎ Quiet c w s
  act (step.In n q) taken = inl (act_input n q taken (waits c.is_read (w.state n) q) refl)
  act (step.Tick n) taken = inl (act_tick n taken)
  act (step.Deliver k) taken = go (slice_get w.packets k) refl
    where
      go : (o : Option (Packet (ReadMsg C))) → slice_get w.packets k ≡ o → Act c w (step.Deliver k) ⊎ Quiet c w (step.Deliver k)
      go (Some p) e = inl (act_deliver k taken p e)
      go None e = inr (record {
        none = ap (delivery (read_raft c.nodes c.machine c.is_read) w) e;
        node = λ j up. inl (rw e (refl, rw e at up));
        each = λ j. inl (rw e refl);
        like = λ p h. like_less k w.packets p (rw e at h);
      })
  act (step.Dup k) taken = inr (record { none = refl; node = λ j up. inl (refl, up); each = λ j. inl refl; like = like_dup k w.packets })
  act (step.Lose k) taken = inr (record { none = refl; node = λ j up. inl (refl, up); each = λ j. inl refl; like = like_less k w.packets })
  act (step.Crash n) taken = inr (record {
    none = refl;
    node = λ j up. elim (eqb_tells j n) [ inl t ↦ absurd (false≢true (rw (t.0) at up)) | inr t ↦ inl (refl, rw (t.0) at up) ];
    each = λ j. inl refl;
    like = like_same w.packets;
  })
  act (step.Reboot n) taken = inr (go (w.kept n) refl)
    where
      go : (o : Option (KeptView C)) → w.kept n ≡ o → Quiet c w (step.Reboot n)
      go None e = record { none = refl; node = λ j up. inl (rw e (refl, rw e at up)); each = λ j. inl (rw e refl); like = λ p h. like_same w.packets p (rw e at h) }
      go (Some k) e = record {
        none = refl;
        node = λ j up. elim (eqb_tells j n) [ inl t ↦ inr (rw (e, t.0) (refl, refl)) | inr t ↦ inl (rw (e, t.0) (refl, rw (e, t.0) at up)) ];
        each = λ j. elim (eqb_tells j n) [ inl t ↦ inr (rw (e, t.0) refl) | inr t ↦ inl (rw (e, t.0) refl) ];
        like = λ p h. like_same w.packets p (rw e at h);
      }
