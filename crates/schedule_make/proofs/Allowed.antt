-- The step that is made is one that the network allows.
use Rattle.std.proofs.Common.{◌≡◌, ◌≢◌, ℕ, zero, suc, ◌+◌, ◌%◌, ◌<◌, Bool, true, false, cond, not, ◌&&◌, nat_lt, List, [], ◌∷◌, length, get_or, Option, Some, None, if◌then◌else◌, refl, ap, sym, subst, ◌∙◌, arith}
use Rattle.std.specs.List.{slice_get, filter, range_with_len}
use Rattle.std.proofs.lemmas.Nat.{mod_below}
use Rattle.flight_index.specs.Flights.{numbers_of}
use Rattle.std.proofs.lemmas.Bool.{lt-ltb, ltb-true}
use Rattle.handler_trait.specs.Handling.{Meaning, Recovery}
use Rattle.net_semantics.specs.Runs.{first_refused_from, place_and_why}
use Rattle.net_semantics.specs.Steps.{refusal_of, fails, destination_of, next, after_event, delivery, is_first, with_packets}
use Rattle.net_semantics.specs.Worlds.{World, Packet, copies_of, ends_of, change_at, one_less, first_world}
use Rattle.rand_pcg.specs.Lcg.{Lcg}
use Rattle.vst_base.specs.Firsts.{first_of}
use Rattle.vst_base.specs.Nets.{has_kind, keeps_order}
use Rattle.vst_base.specs.declared.net.Net.{Net}
use Rattle.vst_base.specs.declared.net.Net.TheVariants as net
use Rattle.vst_base.specs.declared.step.StepKind.{StepKind}
use Rattle.vst_base.specs.declared.step.StepKind.TheVariants as kind
use Rattle.vst_base.specs.declared.step.StepRefusal.TheVariants as refusal
use Rattle.schedule_make.specs.Allowed.{HasSteps}
use Rattle.schedule_make.specs.Candidates.{candidates, chosen, drawn_kind, has_step, in_turn, made_kind, nodes_that, is_in_flight}
use Rattle.schedule_make.specs.declared.words.Words.{Words}
use Rattle.schedule_make.specs.Made.{Inputs, after_words, made_from, made_step, step_of, words_of}
use Rattle.schedule_make.proofs.Chosen.{IsNode, IsOne, filtered-at, node-at, one-at}

-- no refusal applies
none-applies : (a b c d e f g : Bool) → a ≡ false → b ≡ false → c ≡ false → d ≡ false → e ≡ false → f ≡ false → g ≡ false
    → first_of ((refusal.NotThisNet, a) ∷ (refusal.NoSuchNode, b) ∷ (refusal.NoInputHere, c) ∷ (refusal.NodeDown, d) ∷ (refusal.NodeUp, e) ∷ (refusal.NoCopy, f) ∷ (refusal.NotFirst, g) ∷ []) ≡ None
none-applies false false false false false false false ha hb hc hd he hf hg = refl
none-applies true b c d e f g ha hb hc hd he hf hg = cc
none-applies false true c d e f g ha hb hc hd he hf hg = cc
none-applies false false true d e f g ha hb hc hd he hf hg = cc
none-applies false false false true e f g ha hb hc hd he hf hg = cc
none-applies false false false false true f g ha hb hc hd he hf hg = cc
none-applies false false false false false true g ha hb hc hd he hf hg = cc
none-applies false false false false false false true ha hb hc hd he hf hg = cc

and_first : (a b : Bool) → (a && b) ≡ true → a ≡ true
and_first true b h = refl
and_first false b h = h

and_rest : (a b : Bool) → (a && b) ≡ true → b ≡ true
and_rest true b h = h
and_rest false b h = cc

passes : (b : Bool) → b ≡ true → not b ≡ false
passes b h = ap not h

-- no refusal of the order of packets, where no packet is named, and where they come in any
unnamed : (a : Bool) → (a && false) ≡ false
unnamed false = refl
unnamed true = refl

unordered : (a b : Bool) → a ≡ false → (a && b) ≡ false
unordered false b h = refl
unordered true b h = cc

-- where packets are copied or lost they come in any order
no-order-copied : (n : Net) → has_kind n kind.Dup ≡ true → keeps_order n ≡ false
no-order-copied net.Ord h = cc
no-order-copied _ h = refl

no-order-lost : (n : Net) → has_kind n kind.Lose ≡ true → keeps_order n ≡ false
no-order-lost net.Ord h = cc
no-order-lost _ h = refl

-- where nodes crash they reboot
reboots-where-it-crashes : (n : Net) → has_kind n kind.Crash ≡ true → has_kind n kind.Reboot ≡ true
reboots-where-it-crashes net.One h = cc
reboots-where-it-crashes net.Bag h = cc
reboots-where-it-crashes net.Dup h = cc
reboots-where-it-crashes net.Fail h = refl
reboots-where-it-crashes net.Ord h = cc
reboots-where-it-crashes net.Loss h = cc
reboots-where-it-crashes net.Acts h = cc

ticks-on : (n : Net) → n ≢ net.One → has_kind n kind.Tick ≡ true
ticks-on net.One h = absurd (h refl)
ticks-on net.Bag h = refl
ticks-on net.Dup h = refl
ticks-on net.Fail h = refl
ticks-on net.Ord h = refl
ticks-on net.Loss h = refl
ticks-on net.Acts h = refl

first-in : (p : ℕ → Bool) (n : ℕ) → 0 < n → p 0 ≡ true → nat_lt 0 (length (filter p (range_with_len 0 n))) ≡ true
first-in p zero h e = absurd (omega (arith, h))
first-in p (suc n) h e = ap {B = Bool} (λ b. nat_lt 0 (length (cond b (0 ∷ filter p (range_with_len 1 n)) (filter p (range_with_len 1 n))))) e ∙ lt-ltb 0 (suc (length (filter p (range_with_len 1 n)))) (omega arith)

module _ {S K I O M : Type 0} (n : Net) (m : Meaning S I O M) (w : World S K M) where
  inside : (cs : List ℕ) (number : ℕ) → nat_lt 0 (length cs) ≡ true → number % length cs < length cs
  inside cs number h = mod_below number (length cs) (ltb-true 0 (length cs) h)

  node : (p : ℕ → Bool) (number : ℕ) → nat_lt 0 (length (nodes_that m p)) ≡ true → IsNode p 0 m.nodes (chosen (nodes_that m p) number)
  node p number h = node-at p 0 m.nodes (number % length (nodes_that m p)) (inside (nodes_that m p) number h)

  one : (p : Packet M → Bool) (number : ℕ) → nat_lt 0 (length (numbers_of p 0 w.packets)) ≡ true → IsOne p 0 w.packets (chosen (numbers_of p 0 w.packets) number)
  one p number h = one-at p 0 w.packets (number % length (numbers_of p 0 w.packets)) (inside (numbers_of p 0 w.packets) number h)

  exists : (p : ℕ → Bool) (c : ℕ) → IsNode p 0 m.nodes c → not (nat_lt c m.nodes) ≡ false
  exists p c h = passes (nat_lt c m.nodes) (lt-ltb c m.nodes (omega (arith, h.below)))

  found : (p : Packet M → Bool) (c : ℕ) (h : IsOne p 0 w.packets c) → slice_get w.packets c ≡ Some h.item
  found p c h = let e : c ≡ h.place = omega (arith, h.number) in ap (slice_get w.packets) e ∙ h.is

  has-copy : (p : Packet M → Bool) (c : ℕ) (h : IsOne p 0 w.packets c) → is_in_flight h.item ≡ true → not (nat_lt 0 (copies_of (slice_get w.packets c))) ≡ false
  has-copy p c h e = passes (nat_lt 0 (copies_of (slice_get w.packets c))) (ap (λ o. nat_lt 0 (copies_of o)) (found p c h) ∙ e)

  has : (k : StepKind) → has_step n m w k ≡ true → not (has_kind n k) ≡ false
  has k h = passes (has_kind n k) (and_first (has_kind n k) (nat_lt 0 (length (candidates n m w k))) h)

  some : (k : StepKind) → has_step n m w k ≡ true → nat_lt 0 (length (candidates n m w k)) ≡ true
  some k h = and_rest (has_kind n k) (nat_lt 0 (length (candidates n m w k))) h

  -- a packet that may be delivered, whatever its turn
  abbrev goes : Packet M → Bool
  goes q = is_in_flight q && w.is_up q.destination

  -- one whose turn it is
  delivered-at : (i : ℕ) → i < length (in_turn n w (numbers_of goes 0 w.packets))
      → IsOne goes 0 w.packets (get_or (in_turn n w (numbers_of goes 0 w.packets)) i 0)
      × ((keeps_order n && not (is_first w (get_or (in_turn n w (numbers_of goes 0 w.packets)) i 0))) ≡ false)
  delivered-at i inside = of (keeps_order n) inside where
    of : (b : Bool) → i < length (if b then filter (is_first w) (numbers_of goes 0 w.packets) else numbers_of goes 0 w.packets)
        → IsOne goes 0 w.packets (get_or (if b then filter (is_first w) (numbers_of goes 0 w.packets) else numbers_of goes 0 w.packets) i 0)
        × ((b && not (is_first w (get_or (if b then filter (is_first w) (numbers_of goes 0 w.packets) else numbers_of goes 0 w.packets) i 0))) ≡ false)
    of true inside =
        let c = filtered-at (is_first w) (numbers_of goes 0 w.packets) i inside in (
          subst (λ k. IsOne goes 0 w.packets k) (sym c.same) (one-at goes 0 w.packets c.place c.inside),
          passes (is_first w (get_or (filter (is_first w) (numbers_of goes 0 w.packets)) i 0)) (ap (is_first w) c.same ∙ c.passes),
        )
    of false inside = (one-at goes 0 w.packets i inside, refl)

  -- a step of a kind that has one, at any of its candidates
  pub kind-allowed : (k : StepKind) (input : I) (number : ℕ) → has_step n m w k ≡ true
      → refusal_of n m w (step_of input k (chosen (candidates n m w k) number)) ≡ None
  kind-allowed kind.In input number h =
      let p : ℕ → Bool = λ k. m.takes_input k && w.is_up k in
      let c = node p number (some kind.In h) in
      let at = chosen (nodes_that m p) number in
      none-applies _ _ _ _ _ _ _ (has kind.In h) (exists p at c)
      (passes (m.takes_input at) (and_first (m.takes_input at) (w.is_up at) c.passes)) (passes (w.is_up at) (and_rest (m.takes_input at) (w.is_up at) c.passes)) refl refl (unnamed (keeps_order n))
  kind-allowed kind.Tick input number h =
      let c = node w.is_up number (some kind.Tick h) in
      let at = chosen (nodes_that m w.is_up) number in
      none-applies _ _ _ _ _ _ _ (has kind.Tick h) (exists w.is_up at c) refl (passes (w.is_up at) c.passes) refl refl (unnamed (keeps_order n))
  kind-allowed kind.Crash input number h =
      let c = node w.is_up number (some kind.Crash h) in
      let at = chosen (nodes_that m w.is_up) number in
      none-applies _ _ _ _ _ _ _ (has kind.Crash h) (exists w.is_up at c) refl (passes (w.is_up at) c.passes) refl refl (unnamed (keeps_order n))
  kind-allowed kind.Reboot input number h =
      let p : ℕ → Bool = λ k. not (w.is_up k) in
      let c = node p number (some kind.Reboot h) in
      let at = chosen (nodes_that m p) number in
      none-applies _ _ _ _ _ _ _ (has kind.Reboot h) (exists p at c) refl refl (passes (not (w.is_up at)) c.passes) refl (unnamed (keeps_order n))
  kind-allowed kind.Dup input number h =
      let c = one is_in_flight number (some kind.Dup h) in
      let at = chosen (numbers_of is_in_flight 0 w.packets) number in
      none-applies _ _ _ _ _ _ _ (has kind.Dup h) refl refl refl refl (has-copy is_in_flight at c c.passes) (unordered _ _ (no-order-copied n (and_first _ _ h)))
  kind-allowed kind.Lose input number h =
      let c = one is_in_flight number (some kind.Lose h) in
      let at = chosen (numbers_of is_in_flight 0 w.packets) number in
      none-applies _ _ _ _ _ _ _ (has kind.Lose h) refl refl refl refl (has-copy is_in_flight at c c.passes) (unordered _ _ (no-order-lost n (and_first _ _ h)))
  kind-allowed kind.Deliver input number h =
      let cs = numbers_of goes 0 w.packets in
      let d = delivered-at (number % length (in_turn n w cs)) (inside (in_turn n w cs) number (some kind.Deliver h)) in
      let c = d.0 in
      let at = chosen (in_turn n w cs) number in
      let up = passes (w.is_up c.item.destination) (and_rest (is_in_flight c.item) (w.is_up c.item.destination) c.passes) in
      none-applies _ _ _ _ _ _ _ (has kind.Deliver h) refl refl
      (ap (λ o. fails (destination_of (ends_of o)) w.is_up) (found goes at c) ∙ up) refl
      (has-copy goes at c (and_first (is_in_flight c.item) (w.is_up c.item.destination) c.passes)) d.1

  ticks : n ≢ net.One → has_kind n kind.Tick ≡ true
  ticks = ticks-on n

  -- node 0 is up or down
  first-node : (p : ℕ → Bool) → 0 < m.nodes → p 0 ≡ true → nat_lt 0 (length (nodes_that m p)) ≡ true
  first-node p h e = first-in p m.nodes h e

  no-tick : (b : Bool) → w.is_up 0 ≡ b → HasSteps n m w → has_step n m w kind.Tick ≡ false → has_step n m w kind.Reboot ≡ true
  no-tick true e h none = let tick = first-node w.is_up h.some e in let t = ticks h.ticks in
      cc (ap (λ b. b && nat_lt 0 (length (candidates n m w kind.Tick))) t ∙ tick)
  no-tick false e h none =
      let down = first-node (λ k. not (w.is_up k)) h.some (ap not e) in
      ap (λ b. b && nat_lt 0 (length (candidates n m w kind.Reboot))) (reboots (has_kind n kind.Reboot) refl h e) ∙ down
    where
      reboots : (b : Bool) → has_kind n kind.Reboot ≡ b → HasSteps n m w → w.is_up 0 ≡ false → has_kind n kind.Reboot ≡ true
      reboots true e h down = e
      reboots false e h down = cc (h.up e 0 h.some)

  -- the kind that is made has a step
  settles : (k : StepKind) (a b : Bool) → has_step n m w k ≡ a → has_step n m w kind.Tick ≡ b → HasSteps n m w → has_step n m w (made_kind n m w k) ≡ true
  settles k true b ea eb h =
      subst (λ (x : Bool). has_step n m w (if x then k else if has_step n m w kind.Tick then kind.Tick else kind.Reboot) ≡ true) (sym ea) ea
  settles k false b ea eb h =
      subst (λ (x : Bool). has_step n m w (if x then k else if has_step n m w kind.Tick then kind.Tick else kind.Reboot) ≡ true) (sym ea) (or-tick b eb)
    where
      or-tick : (b : Bool) → has_step n m w kind.Tick ≡ b → has_step n m w (if has_step n m w kind.Tick then kind.Tick else kind.Reboot) ≡ true
      or-tick true e = subst (λ (y : Bool). has_step n m w (if y then kind.Tick else kind.Reboot) ≡ true) (sym e) e
      or-tick false e = subst (λ (y : Bool). has_step n m w (if y then kind.Tick else kind.Reboot) ≡ true) (sym e) (no-tick (w.is_up 0) refl h e)

  makes : (k : StepKind) → HasSteps n m w → has_step n m w (made_kind n m w k) ≡ true
  makes k h = settles k (has_step n m w k) (has_step n m w kind.Tick) refl refl h

  -- the step that is made is allowed
  pub made-allowed : (inputs : Inputs I) (place : ℕ) (words : Words) → HasSteps n m w → refusal_of n m w (made_step n m inputs w place words) ≡ None
  made-allowed inputs place words h =
      kind-allowed (made_kind n m w (drawn_kind words.kind)) (inputs words.input place) words.number (makes (drawn_kind words.kind) h)

  up-after-delivery : (v : World S K M) (o : Option (Packet M)) (j : ℕ) → (after_event v (delivery m w o)).is_up j ≡ v.is_up j
  up-after-delivery v None j = refl
  up-after-delivery v (Some q) j = refl

  -- where no node starts again, none stops
  still-up : (r : Recovery S K) (k : StepKind) (input : I) (c : ℕ) → has_kind n k ≡ true → has_kind n kind.Reboot ≡ false
      → (j : ℕ) → (next m r w (step_of input k c)).is_up j ≡ w.is_up j
  still-up r kind.In input c h none j = refl
  still-up r kind.Tick input c h none j = refl
  still-up r kind.Deliver input c h none j = up-after-delivery (with_packets w (change_at one_less c w.packets)) (slice_get w.packets c) j
  still-up r kind.Dup input c h none j = refl
  still-up r kind.Lose input c h none j = refl
  still-up r kind.Reboot input c h none j = cc
  still-up r kind.Crash input c h none j = cc (reboots-where-it-crashes n h)

  -- a step that is made leaves steps to be made
  pub made-keeps : (r : Recovery S K) (inputs : Inputs I) (place : ℕ) (words : Words) → HasSteps n m w → HasSteps n m (next m r w (made_step n m inputs w place words))
  made-keeps r inputs place words h =
      let k = made_kind n m w (drawn_kind words.kind) in
      let has = and_first (has_kind n k) (nat_lt 0 (length (candidates n m w k))) (makes (drawn_kind words.kind) h) in
      record {
        ticks = h.ticks;
        some = h.some;
        up = λ none j inside. still-up r k (inputs words.input place) (chosen (candidates n m w k) words.number) has none j ∙ h.up none j inside;
      }

module _ {S K I O M : Type 0} (n : Net) (m : Meaning S I O M) (r : Recovery S K) (inputs : Inputs I) where
  -- each step of a made schedule is allowed
  pub all-allowed : (w : World S K M) (place : ℕ) (g : Lcg) (steps : ℕ) → HasSteps n m w
      → first_refused_from n m r w (made_from n m r inputs w place g steps) ≡ None
  all-allowed w place g zero h = refl
  all-allowed w place g (suc steps) h =
      let s = made_step n m inputs w place (words_of g) in
      let later = all-allowed (next m r w s) (place + 1) (after_words g) steps (made-keeps n m w r inputs place (words_of g) h) in
      ap (λ o. place_and_why o (first_refused_from n m r (next m r w s) (made_from n m r inputs (next m r w s) (place + 1) (after_words g) steps))) (made-allowed n m w inputs place (words_of g) h)
      ∙ ap (λ o. place_and_why None o) later

  -- at first each node is up
  pub first-has-steps : n ≢ net.One → 0 < m.nodes → HasSteps n m (first_world {K = K} m)
  first-has-steps ticks some = record { ticks = ticks; some = some; up = λ none k inside. refl }

  pub as-many : (w : World S K M) (place : ℕ) (g : Lcg) (steps : ℕ) → length (made_from n m r inputs w place g steps) ≡ steps
  as-many w place g zero = refl
  as-many w place g (suc steps) =
      ap suc (as-many (next m r w (made_step n m inputs w place (words_of g))) (place + 1) (after_words g) steps)
