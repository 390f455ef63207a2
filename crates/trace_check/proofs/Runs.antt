-- What clients see of an allowed run has a text, where handlers keep what they are given in texts.
use Rattle.std.specs.Prelude.{◌≡◌, ℕ, zero, suc, Bool, true, false, not, ◌==◌, ◌<◌, nat_lt, List, [], ◌∷◌, map, Option, Some, None, cond, slice_get, refl}
use Rattle.std.proofs.Common.{sym, subst}
use Rattle.std.proofs.lemmas.Bool.{eqb-true, ltb-true}
use Rattle.handler_trait.specs.Handling.{Effect, Meaning, Recovery}
use Rattle.vst_base.specs.declared.net.Net.{Net}
use Rattle.vst_base.specs.declared.step.Item.TheVariants as item
use Rattle.vst_base.specs.declared.step.Step.{Step}
use Rattle.vst_base.specs.declared.step.Step.TheVariants as step
use Rattle.vst_base.specs.declared.step.StepRefusal.{StepRefusal}
use Rattle.vst_base.specs.declared.step.StepRefusal.TheVariants as refusal
use Rattle.vst_base.specs.Nets.{has_kind, kind_of, AtNode, Copied, Delivered, Fate, Lost, OfPacket, Starts, StepView, Stops, view_of}
use Rattle.net_semantics.specs.Runs.{IsAllowed, first_refused_from, place_and_why, trace, trace_from}
use Rattle.net_semantics.specs.Steps.{Event, after_event, after_network, copied, delivery, network_after, event_of, fails, input_item, items_of, items_of_event, next, node_of, rebooted, refusal_of}
use Rattle.net_semantics.specs.Worlds.{Packet, World, change_at, first_world, put, sent_by}
use Rattle.schedule_text.specs.Spellable.{IsSpellable}
use Rattle.trace_check.specs.Spelled.{IsTextItem}
use Rattle.trace_check.proofs.Eaches.{IfThere, each-at}
use Rattle.lists.specs.Each.{Each, each_append}

-- a test that gives no refusal fails
pub no-refusal : {W : Type 0} (t : Bool) (w : W) (o : Option W) → cond t (Some w) o ≡ None → (t ≡ false) × (o ≡ None)
no-refusal true w o e = cc
no-refusal false w o e = (refl, e)

not-false : (t : Bool) → not t ≡ false → t ≡ true
not-false true e = refl
not-false false e = cc

pub not-refused : (o : Option StepRefusal) (later : Option (ℕ × StepRefusal)) → place_and_why o later ≡ None → (o ≡ None) × (later ≡ None)
not-refused (Some w) later e = cc
not-refused None (Some p) e = cc
not-refused None None e = (refl, refl)

-- a function with another value at one place
pub put-each : {A : Type 0} (P : ℕ → A → Type 0) (f : ℕ → A) (n : ℕ) (a : A) → P n a → (k : ℕ) → P k (f k) → P k (put f n a k)
put-each P f n a here k there = by (k == n) refl
  where
    by : (b : Bool) → (k == n) ≡ b → P k (cond b a (f k))
    by true is = subst (λ j. P j a) (sym (eqb-true k n is)) here
    by false is = there

-- an element that was changed
changed-each : {A : Type 0} (P : A → Type 0) (f : A → A) → ((x : A) → P x → P (f x)) → (k : ℕ) (xs : List A) → Each P xs → Each P (change_at f k xs)
changed-each P f keeps k [] all = tt
changed-each P f keeps zero (x ∷ xs) all = (keeps x all.0, all.1)
changed-each P f keeps (suc k) (x ∷ xs) all = (all.0, changed-each P f keeps k xs all.1)

module _ {S K I O M : Type 0} (net : Net) (m : Meaning S I O M) (r : Recovery S K) (HasIn : I → Type 0) (HasOut : O → Type 0) (Sound : ℕ → S → Type 0) (Fine : M → Type 0) where
  -- what an event makes of a node: a sound state, outputs that have texts, and packets that are fine, to nodes that exist
  pub record IsFine (n : ℕ) (e : Effect S O M) : Type 0 where
    pub state : Sound n e.state
    pub outputs : Each HasOut e.outputs
    pub sends : Each (λ p. (p.0 < m.nodes) × Fine p.1) e.sends

  -- handlers that keep it so
  pub record KeepsTexts : Type 0 where
    pub init : (n : ℕ) → Sound n (m.init n)
    pub input : (n : ℕ) (s : S) (i : I) → n < m.nodes → Sound n s → HasIn i → IsFine n (m.input n s i)
    pub message : (n : ℕ) (s : S) (from : ℕ) (c : M) → n < m.nodes → from < m.nodes → Sound n s → Fine c → IsFine n (m.message n s from c)
    pub timeout : (n : ℕ) (s : S) → n < m.nodes → Sound n s → IsFine n (m.timeout n s)
    pub reboot : (n : ℕ) (s : S) → Sound n s → Sound n (r.reboot n (r.keep s))

  abbrev IsFinePacket : Packet M → Type 0
  IsFinePacket p = (p.source < m.nodes) × (p.destination < m.nodes) × Fine p.content

  abbrev IsKept : ℕ → Option K → Type 0
  IsKept n o = (k : K) → o ≡ Some k → Sound n (r.reboot n k)

  record IsFineWorld (w : World S K M) : Type 0 where
    states : (n : ℕ) → Sound n (w.state n)
    kept : (n : ℕ) → IsKept n (w.kept n)
    packets : Each IsFinePacket w.packets

  abbrev IsFineEvent : Event S I O M → Type 0
  IsFineEvent e = (e.node < m.nodes) × IfThere HasIn e.input × IsFine e.node e.effect

  -- the node of a step that is not refused exists
  node-below : (w : World S K M) (s : Step I) (n : ℕ) → refusal_of net m w s ≡ None → node_of s ≡ Some n → n < m.nodes
  node-below w s n allowed is =
      let first = no-refusal (not (has_kind net (kind_of s))) refusal.NotThisNet _ allowed in
      let second = no-refusal (fails (node_of s) (λ n. nat_lt n m.nodes)) refusal.NoSuchNode _ first.1 in
      let below : not (nat_lt n m.nodes) ≡ false = subst (λ o. fails o (λ n. nat_lt n m.nodes) ≡ false) is second.0 in
      ltb-true n m.nodes (not-false (nat_lt n m.nodes) below)

  module _ (keeps : KeepsTexts) where
    delivery-fine : (w : World S K M) (o : Option (Packet M)) → IsFineWorld w → IfThere IsFinePacket o → IfThere IsFineEvent (delivery m w o)
    delivery-fine w None fine has = tt
    delivery-fine w (Some p) fine has = (has.1, tt, keeps.message p.destination (w.state p.destination) p.source p.content has.1 has.0 (fine.states p.destination) has.2)

    event-fine : (w : World S K M) (s : Step I) → IsFineWorld w → refusal_of net m w s ≡ None → IsSpellable HasIn s → IfThere IsFineEvent (event_of m w s)
    event-fine w (step.In n i) fine allowed has = let below = node-below w (step.In n i) n allowed refl in (below, has.1, keeps.input n (w.state n) i below (fine.states n) has.1)
    event-fine w (step.Tick n) fine allowed has = let below = node-below w (step.Tick n) n allowed refl in (below, tt, keeps.timeout n (w.state n) below (fine.states n))
    event-fine w (step.Deliver k) fine allowed has = delivery-fine w (slice_get w.packets k) fine (each-at IsFinePacket w.packets k fine.packets)
    event-fine w (step.Dup k) fine allowed has = tt
    event-fine w (step.Lose k) fine allowed has = tt
    event-fine w (step.Crash n) fine allowed has = tt
    event-fine w (step.Reboot n) fine allowed has = tt

    rebooted-fine : (w : World S K M) (n : ℕ) (o : Option K) → IsFineWorld w → IsKept n o → IsFineWorld (rebooted r w n o)
    rebooted-fine w n None fine has = fine
    rebooted-fine w n (Some k) fine has = record {
      states = λ j. put-each Sound w.state n (r.reboot n k) (has k refl) j (fine.states j);
      kept = λ j. put-each IsKept w.kept n None (λ k e. cc) j (fine.kept j);
      packets = fine.packets;
    }

    network-fine : (w : World S K M) (s : StepView I) → IsFineWorld w → IsFineWorld (network_after r w s)
    network-fine w (AtNode n input) fine = fine
    network-fine w (OfPacket k fate) fine = record { states = fine.states; kept = fine.kept; packets = changed-each IsFinePacket (copied fate) (fine-copied fate) k w.packets fine.packets }
      where
        fine-copied : (fate : Fate) (p : Packet M) → IsFinePacket p → IsFinePacket (copied fate p)
        fine-copied Delivered p has = has
        fine-copied Copied p has = has
        fine-copied Lost p has = has
    network-fine w (Stops n) fine = record {
      states = fine.states;
      kept = λ j. put-each IsKept w.kept n (Some (r.keep (w.state n))) (λ k e. let same : r.keep (w.state n) ≡ k = cc in subst (λ x. Sound n (r.reboot n x)) same (keeps.reboot n (w.state n) (fine.states n))) j (fine.kept j);
      packets = fine.packets;
    }
    network-fine w (Starts n) fine = rebooted-fine w n (w.kept n) fine (fine.kept n)

    sent-fine : (n : ℕ) (sends : List (ℕ × M)) → n < m.nodes → Each (λ p. (p.0 < m.nodes) × Fine p.1) sends → Each IsFinePacket (sent_by n sends)
    sent-fine n [] below has = tt
    sent-fine n (p ∷ ps) below has = ((below, has.0.0, has.0.1), sent-fine n ps below has.1)

    after-fine : (w : World S K M) (o : Option (Event S I O M)) → IsFineWorld w → IfThere IsFineEvent o → IsFineWorld (after_event w o)
    after-fine w None fine has = fine
    after-fine w (Some e) fine has = record {
      states = λ j. put-each Sound w.state e.node e.effect.state has.2.state j (fine.states j);
      kept = fine.kept;
      packets = each_append IsFinePacket w.packets (sent_by e.node e.effect.sends) fine.packets (sent-fine e.node e.effect.sends has.0 has.2.sends);
    }

    outputs-text : (n : ℕ) (os : List O) → n < m.nodes → Each HasOut os → Each (IsTextItem m.nodes HasIn HasOut) (map (λ o. item.Output n o) os)
    outputs-text n [] below has = tt
    outputs-text n (o ∷ os) below has = ((below, has.0), outputs-text n os below has.1)

    input-text : (n : ℕ) (i : Option I) → n < m.nodes → IfThere HasIn i → Each (IsTextItem m.nodes HasIn HasOut) (input_item n i)
    input-text n None below has = tt
    input-text n (Some i) below has = ((below, has), tt)

    items-text : (o : Option (Event S I O M)) → IfThere IsFineEvent o → Each (IsTextItem m.nodes HasIn HasOut) (items_of_event o)
    items-text None has = tt
    items-text (Some e) has =
        each_append (IsTextItem m.nodes HasIn HasOut) (input_item e.node e.input) (map (λ o. item.Output e.node o) e.effect.outputs) (input-text e.node e.input has.0 has.1) (outputs-text e.node e.effect.outputs has.0 has.2.outputs)

    run-text : (w : World S K M) (ss : List (Step I)) → IsFineWorld w → first_refused_from net m r w ss ≡ None → Each (IsSpellable HasIn) ss → Each (IsTextItem m.nodes HasIn HasOut) (trace_from m r w ss)
    run-text w [] fine allowed has = tt
    run-text w (s ∷ ss) fine allowed has =
        let parts = not-refused (refusal_of net m w s) (first_refused_from net m r (next m r w s) ss) allowed in
        let event = event-fine w s fine parts.0 has.0 in
        each_append (IsTextItem m.nodes HasIn HasOut) (items_of m w s) (trace_from m r (next m r w s) ss) (items-text (event_of m w s) event)
        (run-text (next m r w s) ss (after-fine (after_network r w s) (event_of m w s) (network-fine w (view_of s) fine) event) parts.1 has.1)

    pub trace-texts : (ss : List (Step I)) → IsAllowed net m r ss → Each (IsSpellable HasIn) ss → Each (IsTextItem m.nodes HasIn HasOut) (trace m r ss)
    trace-texts ss allowed has = run-text (first_world m) ss (record { states = keeps.init; kept = λ n k e. cc; packets = tt }) allowed has
