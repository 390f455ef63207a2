-- Handlers whose every event deals in bytes send and keep nothing else on a schedule of at most 1,000,000 steps.
use Rattle.std.specs.Prelude.{◌≡◌, ℕ, zero, suc, ◌+◌, ◌<◌, ◌≤◌, List, [], ◌∷◌, length, Option, None, Some, slice_get, refl}
use Rattle.std.specs.List.{All}
use Rattle.std.proofs.Common.{arith, sym, subst, inl, inr}
use Rattle.std.proofs.lemmas.Bool.{cases_eq}
use Rattle.std.proofs.lemmas.List.Elements.{All-append, All-cons, All-head, All-nil, All-tail}
use Rattle.handler_trait.specs.Handling.{Meaning, Recovery}
use Rattle.net_semantics.specs.Runs.{first_refused_from, run_from}
use Rattle.net_semantics.specs.RunLaws.{place_and_why-none}
use Rattle.net_semantics.specs.StepLaws.{delivered_there}
use Rattle.net_semantics.specs.Steps.{Event, after_event, after_network, copied, delivered, delivery, event_in, event_of, network_after, next, rebooted, refusal_in, refusal_of}
use Rattle.net_semantics.specs.Worlds.{Packet, World, change_at, first_world, put, sent_by}
use Rattle.net_semantics.proofs.Places.{put-there, put-elsewhere}
use Rattle.vst_base.specs.declared.net.Net.{Net}
use Rattle.vst_base.specs.declared.step.Step.{Step}
use Rattle.vst_base.specs.Nets.{AtNode, Copied, Delivered, Fate, Lost, OfPacket, Starts, StepView, Stops, view_of}
use Rattle.vst_base.specs.declared.step.TheConstants.{MAX_STEPS}
use Rattle.wired.specs.Dealing.{AllKeepTo, AreSent, DealsInBytes, GoesOn, IsGoodPacket}
use Rattle.wired.specs.StackRuns.{AreInputSteps, IsInputIn, IsInputStep}
use Rattle.wired.specs.Saving.{EachKeepsBytes, KeepsBytesIn, Saving}
use Rattle.wired.proofs.Packets.{all_at}
use Rattle.wired.proofs.Taking.{input_taken, named_below}

all_changed : {X : Type 0} (P : X → Type 0) (g : X → X) → ((x : X) → P x → P (g x)) → (k : ℕ) (xs : List X) → All P xs → All P (change_at g k xs)
all_changed P g same k [] all = All-nil P
all_changed P g same zero (x ∷ xs) all = All-cons P (g x) xs (same x (All-head P x xs all)) (All-tail P x xs all)
all_changed P g same (suc k) (x ∷ xs) all = All-cons P x (change_at g k xs) (All-head P x xs all) (all_changed P g same k xs (All-tail P x xs all))

-- what holds of the nodes below a bound, once a value is put at one of them
put-below : {A : Type 0} (P : ℕ → A → Type 0) (nodes : ℕ) (f : ℕ → A) (n : ℕ) (a : A) → ((k : ℕ) → k < nodes → P k (f k)) → P n a → (k : ℕ) → k < nodes → P k (put f n a k)
put-below P nodes f n a all here k below = elim (cases_eq k n) [
  | inl same ↦ subst (λ b. P k b) (sym (put-there f n a k same)) (subst (λ j. P j a) (sym same) here)
  | inr ne ↦ subst (λ b. P k b) (sym (put-elsewhere f n a k ne)) (all k below)
]

module _ {S K I O M : Type 0} (Has : ℕ → ℕ → M → Type 0) (saving : Saving K) (IsInput : I → Type 0) (m : Meaning S I O M) (r : Recovery S K) (Good : ℕ → ℕ → S → Type 0)
    {most : ℕ} (deals : DealsInBytes Has most saving IsInput m r Good) where
  abbrev IsGood : Packet M → Type 0
  IsGood p = IsGoodPacket Has m.nodes p

  abbrev IsKept : ℕ → ℕ → Option K → Type 0
  IsKept t n None = Unit {0}
  IsKept t n (Some k) = (s : S) × Good t n s × (k ≡ r.keep s)

  -- a world after so many steps
  record IsGoodWorld (t : ℕ) (w : World S K M) : Type 0 where
    states : (n : ℕ) → n < m.nodes → Good t n (w.state n)
    kept : (n : ℕ) → n < m.nodes → IsKept t n (w.kept n)
    packets : All IsGood w.packets

  -- an event at a node that exists
  abbrev IsGoodEvent : ℕ → Option (Event S I O M) → Type 0
  IsGoodEvent t None = Unit {0}
  IsGoodEvent t (Some e) = (e.node < m.nodes) × GoesOn Has most m.nodes (Good t e.node) e.node e.effect

  kept_later : (t n : ℕ) (o : Option K) → IsKept t n o → IsKept (suc t) n o
  kept_later t n None kept = tt
  kept_later t n (Some k) kept = (kept.0, deals.later t n kept.0 kept.1, kept.2)

  later : (t : ℕ) (w : World S K M) → IsGoodWorld t w → IsGoodWorld (suc t) w
  later t w good = record {
    states = λ n below. deals.later t n (w.state n) (good.states n below);
    kept = λ n below. kept_later t n (w.kept n) (good.kept n below);
    packets = good.packets;
  }

  good_delivery : (t : ℕ) (w : World S K M) (o : Option (Packet M)) → t < MAX_STEPS → IsGoodWorld t w → ((p : Packet M) → o ≡ Some p → IsGood p) → IsGoodEvent (suc t) (delivery m w o)
  good_delivery t w None few good there = tt
  good_delivery t w (Some p) few good there =
      let is = there p refl in
      (is.0.1, deals.message t p.destination (w.state p.destination) p.source p.content few is.0.1 is.0.0 is.1 (good.states p.destination is.0.1))

  good_event : (net : Net) (t : ℕ) (w : World S K M) (s : StepView I) → t < MAX_STEPS → refusal_in net m w s ≡ None → IsInputIn IsInput s → IsGoodWorld t w → IsGoodEvent (suc t) (event_in m w s)
  good_event net t w (AtNode n (Some i)) few taken is good =
      let below = named_below net m w (AtNode n (Some i)) n refl taken in
      (below, deals.input t n (w.state n) i few below (input_taken net m w n i taken) is (good.states n below))
  good_event net t w (AtNode n None) few taken is good =
      let below = named_below net m w (AtNode n None) n refl taken in
      (below, deals.timeout t n (w.state n) few below (good.states n below))
  good_event net t w (OfPacket k fate) few taken is good =
      good_delivery t w (delivered fate (slice_get w.packets k)) few good (λ p e. all_at IsGood w.packets k p good.packets (delivered_there fate (slice_get w.packets k) p e))
  good_event net t w (Stops n) few taken is good = tt
  good_event net t w (Starts n) few taken is good = tt

  all_sent : (n : ℕ) (sends : List (ℕ × M)) → n < m.nodes → AreSent Has m.nodes n sends → All IsGood (sent_by n sends)
  all_sent n [] below sent = All-nil IsGood
  all_sent n (p ∷ ps) below sent =
      All-cons IsGood (record { source = n; destination = p.0; content = p.1; copies = 1 }) (sent_by n ps) ((below, sent.0.0), sent.0.1) (all_sent n ps below sent.1)

  good_after : (t : ℕ) (w : World S K M) (o : Option (Event S I O M)) → IsGoodWorld t w → IsGoodEvent t o → IsGoodWorld t (after_event w o)
  good_after t w None good event = good
  good_after t w (Some e) good event = record {
    states = put-below (Good t) m.nodes w.state e.node e.effect.state good.states event.1.state;
    kept = good.kept;
    packets = All-append IsGood w.packets (sent_by e.node e.effect.sends) good.packets (all_sent e.node e.effect.sends event.0 event.1.sends);
  }

  good_reboot : (t : ℕ) (w : World S K M) (n : ℕ) (o : Option K) → n < m.nodes → IsGoodWorld t w → IsKept t n o → IsGoodWorld t (rebooted r w n o)
  good_reboot t w n None below good kept = good
  good_reboot t w n (Some k) below good kept = record {
    states = put-below (Good t) m.nodes w.state n (r.reboot n k) good.states (subst (λ k. Good t n (r.reboot n k)) (sym kept.2) (deals.reboot t n kept.0 below kept.1));
    kept = put-below (IsKept t) m.nodes w.kept n None good.kept tt;
    packets = good.packets;
  }

  good_network : (net : Net) (t : ℕ) (w : World S K M) (s : StepView I) → refusal_in net m w s ≡ None → IsGoodWorld t w → IsGoodWorld t (network_after r w s)
  good_network net t w (AtNode n input) taken good = good
  good_network net t w (OfPacket k fate) taken good = record { states = good.states; kept = good.kept; packets = all_changed IsGood (copied fate) (good_copied fate) k w.packets good.packets }
    where
      good_copied : (fate : Fate) (p : Packet M) → IsGood p → IsGood (copied fate p)
      good_copied Delivered p is = is
      good_copied Copied p is = is
      good_copied Lost p is = is
  good_network net t w (Stops n) taken good =
      let below = named_below net m w (Stops n) n refl taken in
      record {
        states = good.states;
        kept = put-below (IsKept t) m.nodes w.kept n (Some (r.keep (w.state n))) good.kept (w.state n, good.states n below, refl);
        packets = good.packets;
      }
  good_network net t w (Starts n) taken good = let below = named_below net m w (Starts n) n refl taken in good_reboot t w n (w.kept n) below good (good.kept n below)

  keeps : (net : Net) (t : ℕ) (w : World S K M) (s : StepView I) → refusal_in net m w s ≡ None → IsGoodWorld t w → KeepsBytesIn saving r w s
  keeps net t w (AtNode n input) taken good = tt
  keeps net t w (OfPacket k fate) taken good = tt
  keeps net t w (Stops n) taken good = let below = named_below net m w (Stops n) n refl taken in deals.keep t n (w.state n) below (good.states n below)
  keeps net t w (Starts n) taken good = tt

  good_next : (net : Net) (t : ℕ) (w : World S K M) (s : Step I) → t < MAX_STEPS → refusal_of net m w s ≡ None → IsInputStep IsInput s → IsGoodWorld t w → IsGoodWorld (suc t) (next m r w s)
  good_next net t w s few taken is good =
      good_after (suc t) (after_network r w s) (event_of m w s) (later t (after_network r w s) (good_network net t w (view_of s) taken good)) (good_event net t w (view_of s) few taken is good)

  all_from : (net : Net) (t : ℕ) (w : World S K M) (ss : List (Step I)) → t + length ss ≤ MAX_STEPS → AreInputSteps IsInput ss → first_refused_from net m r w ss ≡ None → IsGoodWorld t w
      → All IsGood (run_from m r w ss).packets × EachKeepsBytes saving m r w ss
  all_from net t w [] few are allowed good = (good.packets, tt)
  all_from net t w (s ∷ ss) few are allowed good =
      let both = place_and_why-none (refusal_of net m w s) (first_refused_from net m r (next m r w s) ss) allowed in
      let rest = all_from net (suc t) (next m r w s) ss (omega (arith, few)) are.1 both.1 (good_next net t w s (omega (arith, few)) both.0 are.0 good) in
      (rest.0, (keeps net t w (view_of s) both.0 good, rest.1))

  pub all_keep_to : AllKeepTo Has saving IsInput m r
  all_keep_to net ss may allowed =
      all_from net 0 (first_world m) ss (omega (arith, may.few)) may.inputs allowed (record { states = deals.init; kept = λ n below. tt; packets = All-nil IsGood })
