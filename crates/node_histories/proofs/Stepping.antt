-- One happening as steps of the network: an input and a timeout are steps themselves; a message is copied and one copy delivered, so
-- that one is still in flight; and a node that starts again stops and starts.
use Rattle.std.proofs.Common.{◌≡◌, ℕ, zero, suc, ◌+◌, ◌-◌, ◌<◌, Bool, true, false, List, [], ◌∷◌, ◌++◌, map, length, cond, eqb, Option, Some, None, refl, sym, ap, ◌∙◌, arith}
use Rattle.std.specs.Prelude.{nat_lt, slice_get, IsTrue}
use Rattle.std.proofs.lemmas.Bool.{eq-eqb, lt-ltb}
use Rattle.std.proofs.lemmas.List.{append-nil}
use Rattle.std.proofs.lemmas.Option.{slice_get_read}
use Rattle.handler_trait.specs.Handling.{Effect, Meaning, Recovery}
use Rattle.net_semantics.specs.Runs.{first_refused_from, run_from, trace_from}
use Rattle.net_semantics.specs.Steps.{after_event}
use Rattle.net_semantics.specs.Worlds.{Packet, World, change_at, one_less, one_more, put, sent_by}
use Rattle.net_semantics.proofs.Places.{change_at-there}
use Rattle.vst_base.specs.declared.net.Net.TheVariants as net
use Rattle.vst_base.specs.declared.step.Item.{Item}
use Rattle.vst_base.specs.declared.step.Item.TheVariants as item
use Rattle.vst_base.specs.declared.step.Step.{Step}
use Rattle.vst_base.specs.declared.step.Step.TheVariants as step
use Rattle.node_histories.specs.Histories.{Asked, Fired, Happening, History, Heard, MayBeAt, Restarts, Takes, WasSent, effect_after, items_of_one, packet, packets_of, state_of, world_of}
use Rattle.node_histories.specs.HistoryLaws.{history_from}
use Rattle.node_histories.proofs.Adding.{packets_of-more, state_of-more}

one_back : {M : Type 0} (p : Packet M) → one_less (one_more p) ≡ p
one_back p = λ i. record { source = p.source; destination = p.destination; content = p.content; copies = (let e : p.copies + 1 - 1 ≡ p.copies = omega arith in e) i }

-- one copy more and one less of a packet
copied_back : {M : Type 0} (k : ℕ) (ps : List (Packet M)) → change_at one_less k (change_at one_more k ps) ≡ ps
copied_back k [] = refl
copied_back zero (p ∷ ps) = ap (λ q. q ∷ ps) (one_back p)
copied_back (suc k) (p ∷ ps) = ap (λ qs. p ∷ qs) (copied_back k ps)

up_again : (b : Bool) → cond b true (cond b false true) ≡ true
up_again true = refl
up_again false = refl

none_again : {A : Type 0} (o : Option A) (b : Bool) → cond b None (cond b o None) ≡ None
none_again o true = refl
none_again o false = refl

module _ {S K I O M : Type 0} (m : Meaning S I O M) (r : Recovery S K) where
  -- from one world steps that the network allows lead to another, this happens at nodes, and clients see these items
  pub record Leads (w v : World S K M) (hs : History I M) (items : List (Item I O)) (ss : List (Step I)) : Type 0 where
    pub allowed : first_refused_from net.Fail m r w ss ≡ None
    pub takes : history_from m r w ss ≡ hs
    pub comes_to : run_from m r w ss ≡ v
    pub seen : trace_from m r w ss ≡ items

  pub record Reaches (w v : World S K M) (hs : History I M) (items : List (Item I O)) : Type 0 where
    pub steps : List (Step I)
    pub leads : Leads w v hs items steps

  -- a world with what one more happening makes
  same_world : (before : History I M) (h : ℕ × Happening I M) (w : World S K M)
      → ((k : ℕ) → w.state k ≡ put (state_of m r before) h.0 (effect_after m r before h).state k) → ((k : ℕ) → w.is_up k ≡ true) → ((k : ℕ) → w.kept k ≡ None)
      → w.packets ≡ packets_of m r before ++ sent_by h.0 (effect_after m r before h).sends → w ≡ world_of m r (before ++ h ∷ [])
  same_world before h w state up kept packets = λ i. record {
    state = λ k. (state k ∙ sym (state_of-more m r before h k)) i;
    is_up = λ k. up k i;
    kept = λ k. kept k i;
    packets = (packets ∙ sym (packets_of-more m r before h)) i;
  }

  input_leads : (before : History I M) (n : ℕ) (i : I) → n < m.nodes → IsTrue (m.takes_input n)
      → Leads (world_of m r before) (world_of m r (before ++ (n, Takes (Asked i)) ∷ [])) ((n, Takes (Asked i)) ∷ []) (items_of_one m r before (n, Takes (Asked i))) (step.In n i ∷ [])
  input_leads before n i below takes = record {
    allowed = let l : nat_lt n m.nodes ≡ true = lt-ltb n m.nodes below in let t : m.takes_input n ≡ true = takes in rw (l, t) refl;
    takes = refl;
    comes_to = same_world before (n, Takes (Asked i)) _ (λ k. refl) (λ k. refl) (λ k. refl) refl;
    seen = append-nil (items_of_one m r before (n, Takes (Asked i)));
  }

  timeout_leads : (before : History I M) (n : ℕ) → n < m.nodes
      → Leads (world_of m r before) (world_of m r (before ++ (n, Takes Fired) ∷ [])) ((n, Takes Fired) ∷ []) (items_of_one m r before (n, Takes Fired)) (step.Tick n ∷ [])
  timeout_leads before n below = record {
    allowed = let l : nat_lt n m.nodes ≡ true = lt-ltb n m.nodes below in rw l refl;
    takes = refl;
    comes_to = same_world before (n, Takes Fired) _ (λ k. refl) (λ k. refl) (λ k. refl) refl;
    seen = append-nil (items_of_one m r before (n, Takes Fired));
  }

  module _ (w : World S K M) (k : ℕ) (p : Packet M) (at : slice_get w.packets k ≡ Some p) where
    abbrev effect : Effect S O M
    effect = m.message p.destination (w.state p.destination) p.source p.content

    copied : slice_get (change_at one_more k w.packets) k ≡ Some (one_more p)
    copied = change_at-there one_more w.packets k p at

    message_allowed : 0 < p.copies → w.is_up p.destination ≡ true → first_refused_from net.Fail m r w (step.Dup k ∷ step.Deliver k ∷ []) ≡ None
    message_allowed some up =
        let l : nat_lt 0 p.copies ≡ true = lt-ltb 0 p.copies some in
        let l2 : nat_lt 0 (p.copies + 1) ≡ true = lt-ltb 0 (p.copies + 1) (omega arith) in
        rw (at, copied, l, l2, up) refl

    message_takes : history_from m r w (step.Dup k ∷ step.Deliver k ∷ []) ≡ (p.destination, Takes (Heard p.source p.content)) ∷ []
    message_takes = rw copied refl

    message_comes_to : run_from m r w (step.Dup k ∷ step.Deliver k ∷ []) ≡ after_event {I = I} w (Some (record { node = p.destination; input = None; effect = effect }))
    message_comes_to = rw (copied, copied_back k w.packets) refl

    message_seen : trace_from m r w (step.Dup k ∷ step.Deliver k ∷ []) ≡ map (λ o. item.Output p.destination o) effect.outputs
    message_seen = rw copied (append-nil _)

  message_leads : (before : History I M) (n from : ℕ) (c : M) → WasSent m r before n (Takes (Heard from c))
      → Reaches (world_of m r before) (world_of m r (before ++ (n, Takes (Heard from c)) ∷ [])) ((n, Takes (Heard from c)) ∷ []) (items_of_one m r before (n, Takes (Heard from c)))
  message_leads before n from c sent =
      let p : Packet M = packet from n c in
      let at : slice_get (packets_of m r before) sent.0 ≡ Some p = slice_get_read (packets_of m r before) (length (packets_of m r before)) sent.0 p refl sent.1 (sym sent.2) in
      record {
        steps = step.Dup sent.0 ∷ step.Deliver sent.0 ∷ [];
        leads = record {
          allowed = message_allowed (world_of m r before) sent.0 p at (omega arith) refl;
          takes = message_takes (world_of m r before) sent.0 p at;
          comes_to = message_comes_to (world_of m r before) sent.0 p at ∙ same_world before (n, Takes (Heard from c)) _ (λ k. refl) (λ k. refl) (λ k. refl) refl;
          seen = message_seen (world_of m r before) sent.0 p at;
        };
      }

  restart_comes_to : (w : World S K M) (n : ℕ) → run_from m r w (step.Crash n ∷ step.Reboot n ∷ []) ≡ record {
    state = put w.state n (r.reboot n (r.keep (w.state n)));
    is_up = put (put w.is_up n false) n true;
    kept = put (put w.kept n (Some (r.keep (w.state n)))) n None;
    packets = w.packets;
  }
  restart_comes_to w n = let same : eqb n n ≡ true = eq-eqb n n refl in rw same refl

  restart_leads : (before : History I M) (n : ℕ) → n < m.nodes
      → Leads (world_of m r before) (world_of m r (before ++ (n, Restarts) ∷ [])) ((n, Restarts) ∷ []) (items_of_one m r before (n, Restarts)) (step.Crash n ∷ step.Reboot n ∷ [])
  restart_leads before n below = record {
    allowed = let l : nat_lt n m.nodes ≡ true = lt-ltb n m.nodes below in let same : eqb n n ≡ true = eq-eqb n n refl in rw (l, same) refl;
    takes = refl;
    comes_to = restart_comes_to (world_of m r before) n
        ∙ same_world before (n, Restarts) _ (λ k. refl) (λ k. up_again (eqb k n)) (λ k. none_again (Some (r.keep (state_of m r before n))) (eqb k n)) (sym (append-nil (packets_of m r before)));
    seen = refl;
  }

  -- whatever happens at a node is a few steps
  pub happening_leads : (before : History I M) (n : ℕ) (h : Happening I M) → n < m.nodes → MayBeAt m n h → WasSent m r before n h
      → Reaches (world_of m r before) (world_of m r (before ++ (n, h) ∷ [])) ((n, h) ∷ []) (items_of_one m r before (n, h))
  happening_leads before n (Takes (Asked i)) below takes sent = record { steps = step.In n i ∷ []; leads = input_leads before n i below takes }
  happening_leads before n (Takes (Heard from c)) below takes sent = message_leads before n from c sent
  happening_leads before n (Takes Fired) below takes sent = record { steps = step.Tick n ∷ []; leads = timeout_leads before n below }
  happening_leads before n Restarts below takes sent = record { steps = step.Crash n ∷ step.Reboot n ∷ []; leads = restart_leads before n below }
