-- Packets in turn: what is known of them is what the network refuses by, and what is seen of a step is what it does to them.
use Rattle.std.proofs.Common.{◌≡◌, ℕ, zero, suc, ◌+◌, ◌-◌, ◌<◌, ◌≤◌, Bool, true, false, not, cond, ◌&&◌, List, [], ◌∷◌, ◌++◌, length, get_or, take, Option, Some, None, is_some, refl, ap, sym, subst, ◌∙◌, arith}
use Rattle.std.specs.Prelude.{◌==◌, ◌||◌, IfSome, nat_lt, if◌then◌else◌, slice_get, slice_set}
use Rattle.std.specs.List.{filter, list_any, range_with_len}
use Rattle.std.specs.Option.{option_map}
use Rattle.std.proofs.lemmas.Bool.{false≢true, lt-ltb}
use Rattle.std.proofs.lemmas.List.{length-map, take-map}
use Rattle.flight_index.specs.Flights.{numbers_of}
use Rattle.flight_index.specs.Turns.{firsts, goes_between, turn_after}
use Rattle.flight_index.specs.Turns.{is_first as is_in_lead}
use Rattle.handler_trait.specs.Handling.{Meaning, Recovery}
use Rattle.net_semantics.specs.Steps.{after_network, comes_first, flies_among, is_first, next, rebooted, refusal_of}
use Rattle.net_semantics.specs.Worlds.{Packet, World, change_at, copies, copies_of, ends_of, one_less}
use Rattle.vst_base.specs.Nets.{has_kind, keeps_order}
use Rattle.vst_base.specs.declared.net.Net.{Net}
use Rattle.vst_base.specs.declared.net.Net.TheVariants as net
use Rattle.vst_base.specs.declared.step.Step.{Step}
use Rattle.vst_base.specs.declared.step.Step.TheVariants as step
use Rattle.vst_base.specs.declared.step.StepKind.TheVariants as kind
use Rattle.schedule_make.specs.Candidates.{in_turn, is_in_flight}
use Rattle.schedule_make.specs.Flying.{AreInFlightFrom, IsInTurn, KnowsTurns, seen_in_order, turns_of, way_of, ways_of}
use Rattle.schedule_make.proofs.Following.{after-copies, all-less, all-more, copied-within, has-copy, has-its-kind, has-its-turn, holds, left_of, length-change}

-- numbers that pass a further test are those of a range that pass both
filter-range : {X : Type 0} (p : X → Bool) (t q : ℕ → Bool) (from : ℕ) (xs : List X)
    → ((j : ℕ) (x : X) → slice_get xs j ≡ Some x → (p x && t (from + j)) ≡ q (from + j)) → filter t (numbers_of p from xs) ≡ filter q (range_with_len from (length xs))
filter-range p t q from [] same = refl
filter-range p t q from (x ∷ xs) same =
    let later = filter-range p t q (from + 1) xs (λ j y is. let e : from + suc j ≡ from + 1 + j = omega arith in
    subst (λ (n : ℕ). (p y && t n) ≡ q n) e (same (suc j) y is)) in
    let here : from + 0 ≡ from = omega arith in
    first (p x) (q from) (subst (λ (n : ℕ). (p x && t n) ≡ q n) here (same 0 x refl)) ∙ ap (λ ns. cond (q from) (from ∷ ns) ns) later
  where
    either : (b c : Bool) (ns : List ℕ) → b ≡ c → cond b (from ∷ ns) ns ≡ cond c (from ∷ ns) ns
    either b c ns e = ap (λ b. cond b (from ∷ ns) ns) e

    first : (a c : Bool) → (a && t from) ≡ c → filter t (cond a (from ∷ numbers_of p (from + 1) xs) (numbers_of p (from + 1) xs))
        ≡ cond c (from ∷ filter t (numbers_of p (from + 1) xs)) (filter t (numbers_of p (from + 1) xs))
    first true c e = either (t from) c (filter t (numbers_of p (from + 1) xs)) e
    first false true e = cc
    first false false e = refl

and-false : (a b : Bool) → false ≡ (a && (b && false))
and-false true true = refl
and-false true false = refl
and-false false b = refl

and-true : (a b : Bool) → (a && b) ≡ (a && (b && true))
and-true true true = refl
and-true true false = refl
and-true false b = refl

some-not : (b : Bool) (d : ℕ) → is_some (if b then None else Some d) ≡ not b
some-not true d = refl
some-not false d = refl

module _ {M : Type 0} where
  -- one in flight between these ends
  way-flies : (e : ℕ × ℕ) (p : Packet M) → goes_between e (way_of p) ≡ ((p.source == e.0) && ((p.destination == e.1) && nat_lt 0 p.copies))
  way-flies e p = of (nat_lt 0 p.copies) where
    of : (b : Bool) → goes_between e (if b then Some (p.source, p.destination) else None) ≡ ((p.source == e.0) && ((p.destination == e.1) && b))
    of true = and-true (p.source == e.0) (p.destination == e.1)
    of false = and-false (p.source == e.0) (p.destination == e.1)

  any-flies : (e : ℕ × ℕ) (ps : List (Packet M)) → list_any (goes_between e) (ways_of ps) ≡ flies_among e ps
  any-flies e [] = refl
  any-flies e (p ∷ ps) =
      ap (λ b. b || list_any (goes_between e) (ways_of ps)) (way-flies e p)
      ∙ ap (λ b. ((p.source == e.0) && ((p.destination == e.1) && nat_lt 0 p.copies)) || b) (any-flies e ps)

  way-at : (ps : List (Packet M)) (k : ℕ) (p : Packet M) → slice_get ps k ≡ Some p → get_or (ways_of ps) k None ≡ way_of p
  way-at [] k p e = cc
  way-at (q ∷ ps) zero p e = ap (λ (o : Option (Packet M)). way o) e where
    way : Option (Packet M) → Option (ℕ × ℕ)
    way None = None
    way (Some p) = way_of p
  way-at (q ∷ ps) (suc k) p e = way-at ps k p e

  -- it leads by what is known of it where the network does not refuse it
  leads-as : (ps : List (Packet M)) (k : ℕ) (p : Packet M) → slice_get ps k ≡ Some p
      → is_in_lead (ways_of ps) k ≡ (is_in_flight p && comes_first (ends_of (slice_get ps k)) (take k ps))
  leads-as ps k p at =
      ap (λ o. is_some (turn_after (take k (ways_of ps)) o)) (way-at ps k p at)
      ∙ ap (λ ws. is_some (turn_after ws (way_of p))) (take-map way_of k ps)
      ∙ of (is_in_flight p) ∙ ap (λ o. is_in_flight p && comes_first (ends_of o) (take k ps)) (sym at)
    where
      of : (b : Bool) → is_some (turn_after (ways_of (take k ps)) (if b then Some (p.source, p.destination) else None))
          ≡ (b && comes_first (Some (p.source, p.destination)) (take k ps))
      of true = some-not (list_any (goes_between (p.source, p.destination)) (ways_of (take k ps))) p.destination ∙ ap not (any-flies (p.source, p.destination) (take k ps))
      of false = refl

  copied-one : (ps : List (Packet M)) (k : ℕ) → 0 < copies_of (slice_get ps k) → (p : Packet M) × (slice_get ps k ≡ Some p) × (0 < p.copies)
  copied-one ps k h = of (slice_get ps k) refl h where
    of : (o : Option (Packet M)) → slice_get ps k ≡ o → 0 < copies_of o → (p : Packet M) × (slice_get ps k ≡ Some p) × (0 < p.copies)
    of None is h = absurd (omega (arith, h))
    of (Some p) is h = (p, is, h)

  -- one packet more, where from some place on each is in flight
  pub next-way : (ps : List (Packet M)) (before k : ℕ) (e : ℕ × ℕ) → before ≤ k → AreInFlightFrom before ps → ends_of (slice_get ps k) ≡ Some e
      → ways_of (take (k + 1) ps) ≡ ways_of (take k ps) ++ Some e ∷ []
  next-way [] before k e le fly is = cc is
  next-way (p ∷ ps) before zero e le fly is = ap (λ (b : Bool). (if b then Some (p.source, p.destination) else None) ∷ []) (fly 0 le) ∙ ap (λ o. o ∷ []) is
  next-way (p ∷ ps) before (suc k) e le fly is =
      let on : suc k + 1 ≡ suc (k + 1) = omega arith in
      ap (λ n. ways_of (take n (p ∷ ps))) on
      ∙ ap (λ os. way_of p ∷ os) (next-way ps (before - 1) k e (omega (arith, le)) (λ j from_j. fly (suc j) (omega (arith, from_j))) is)

  pub joined : (n : Net) (ps : List (Packet M)) (before k : ℕ) (e : ℕ × ℕ) → before ≤ k → AreInFlightFrom before ps → ends_of (slice_get ps k) ≡ Some e
      → option_map (λ ws. ws ++ Some e ∷ []) (turns_of n (take k ps)) ≡ turns_of n (take (k + 1) ps)
  joined n ps before k e le fly is = of (keeps_order n) where
    of : (b : Bool) → option_map (λ ws. ws ++ Some e ∷ []) (if b then Some (ways_of (take k ps)) else None) ≡ (if b then Some (ways_of (take (k + 1) ps)) else None)
    of true = ap (λ ws. Some ws) (sym (next-way ps before k e le fly is))
    of false = refl

  -- as many as packets
  pub turns-many : (n : Net) (ps : List (Packet M)) → IfSome (turns_of n ps) (λ ws. length ws ≡ length ps)
  turns-many n ps = of (keeps_order n) where
    of : (b : Bool) → IfSome (if b then Some (ways_of ps) else None) (λ ws. length ws ≡ length ps)
    of true = length-map ps way_of
    of false = tt

all-up : (a b c : Bool) → b ≡ true → ((a && b) && c) ≡ (a && c)
all-up a true c e = ap (λ x. x && c) (and-one a) where
  and-one : (a : Bool) → (a && true) ≡ a
  and-one true = refl
  and-one false = refl
all-up a false c e = cc

-- the packets that may be delivered are those that lead by what is known
module _ {S K M : Type 0} (n : Net) (w : World S K M) where
  abbrev goes : Packet M → Bool
  goes q = is_in_flight q && w.is_up q.destination

  pub turns-in-order : (ws : List (Option (ℕ × ℕ))) → KnowsTurns n (Some ws) w → firsts ws ≡ in_turn n w (numbers_of goes 0 w.packets)
  turns-in-order ws knows = of (keeps_order n) refl knows.packets where
    some-same : {A : Type 0} (x y : A) → Some x ≡ Some y → x ≡ y
    some-same x y e = cc

    of : (b : Bool) → keeps_order n ≡ b → Some ws ≡ (if b then Some (ways_of w.packets) else None)
        → firsts ws ≡ (if b then filter (is_first w) (numbers_of goes 0 w.packets) else numbers_of goes 0 w.packets)
    of false keeps is = cc
    of true keeps is =
        let ps = w.packets in
        ap firsts (some-same ws (ways_of ps) is)
        ∙ ap (λ k. filter (is_in_lead (ways_of ps)) (range_with_len 0 k)) (length-map ps way_of)
        ∙ sym (filter-range goes (is_first w) (is_in_lead (ways_of ps)) 0 ps (λ j p at.
        let e : 0 + j ≡ j = omega arith in
        ap (λ k. goes p && is_first w k) e
        ∙ all-up (is_in_flight p) (w.is_up p.destination) (is_first w j) (knows.up keeps p.destination)
        ∙ sym (leads-as ps j p at) ∙ ap (is_in_lead (ways_of ps)) (sym e)))

  pub turns-in-any : KnowsTurns n None w → (cs : List ℕ) → cs ≡ in_turn n w cs
  turns-in-any knows cs = of (keeps_order n) knows.packets where
    of : (b : Bool) → None ≡ (if b then Some (ways_of w.packets) else None) → cs ≡ (if b then filter (is_first w) cs else cs)
    of true is = cc
    of false is = refl

-- where packets keep their order no node stops or starts
no-stop : (n : Net) → keeps_order n ≡ true → has_kind n kind.Crash ≡ false
no-stop net.Ord h = refl
no-stop net.One h = cc
no-stop net.Bag h = cc
no-stop net.Dup h = cc
no-stop net.Fail h = cc
no-stop net.Loss h = cc
no-stop net.Acts h = cc

no-start : (n : Net) → keeps_order n ≡ true → has_kind n kind.Reboot ≡ false
no-start net.Ord h = refl
no-start net.One h = cc
no-start net.Bag h = cc
no-start net.Dup h = cc
no-start net.Fail h = cc
no-start net.Loss h = cc
no-start net.Acts h = cc

module _ {S K I O M : Type 0} (n : Net) (m : Meaning S I O M) (w : World S K M) (turns : Option (List (Option (ℕ × ℕ)))) (knows : KnowsTurns n turns w) where
  -- a packet with a copy that the network does not refuse as later than another
  leads : (k : ℕ) → 0 < copies w k → (keeps_order n && not (is_first w k)) ≡ false → IfSome turns (λ ws. is_in_lead ws k ≡ true)
  leads k copy turn = subst (λ (o : Option (List (Option (ℕ × ℕ)))). IfSome o (λ ws. is_in_lead ws k ≡ true)) (sym knows.packets) (of (keeps_order n) turn) where
    of : (b : Bool) → (b && not (is_first w k)) ≡ false → IfSome (if b then Some (ways_of w.packets) else None) (λ ws. is_in_lead ws k ≡ true)
    of false turn = tt
    of true turn =
        let c = copied-one w.packets k copy in
        leads-as w.packets k c.0 c.1 ∙ ap (λ b. b && is_first w k) (lt-ltb 0 c.0.copies c.2) ∙ holds (is_first w k) turn

  -- a packet that leaves in a step that is taken leads
  pub taken-in-turn : (s : Step I) → refusal_of n m w s ≡ None → IsInTurn turns s
  taken-in-turn (step.Deliver k) none = leads k (has-copy n m w (step.Deliver k) k refl none) (has-its-turn n m w (step.Deliver k) none)
  taken-in-turn (step.Lose k) none = leads k (has-copy n m w (step.Lose k) k refl none) (has-its-turn n m w (step.Lose k) none)
  taken-in-turn (step.In k i) none = tt
  taken-in-turn (step.Tick k) none = tt
  taken-in-turn (step.Dup k) none = tt
  taken-in-turn (step.Crash k) none = tt
  taken-in-turn (step.Reboot k) none = tt

module _ {S K I O M : Type 0} (n : Net) (m : Meaning S I O M) (r : Recovery S K) (w : World S K M) (turns : Option (List (Option (ℕ × ℕ)))) (knows : KnowsTurns n turns w) where
  -- a packet whose last copy goes, and one of whose copies stays
  left-in-order : (k c : ℕ) → 0 < copies w k → c ≡ copies_of (slice_get (change_at one_less k w.packets) k)
      → (if c == 0 then option_map (λ ps. slice_set ps k None) turns else turns) ≡ turns_of n (change_at one_less k w.packets)
  left-in-order k c some is =
      ap (λ (o : Option (List (Option (ℕ × ℕ)))). if c == 0 then option_map (λ ps. slice_set ps k None) o else o) knows.packets
      ∙ of (keeps_order n) (c == 0)
      ∙ ap (λ ws. if keeps_order n then Some ws else None) (ap (λ d. left_of d k (ways_of w.packets)) is ∙ sym less)
    where
      less : ways_of (change_at one_less k w.packets) ≡ left_of (copies_of (slice_get (change_at one_less k w.packets) k)) k (ways_of w.packets)
      less = all-less (λ p. (p.source, p.destination)) (λ p. refl) (λ p. refl) k w.packets some

      of : (b z : Bool) → (if z then option_map (λ ps. slice_set ps k None) (if b then Some (ways_of w.packets) else None) else (if b then Some (ways_of w.packets) else None))
          ≡ (if b then Some (if z then slice_set (ways_of w.packets) k None else ways_of w.packets) else None)
      of true true = refl
      of true false = refl
      of false true = refl
      of false false = refl

  begun : (k : ℕ) (o : Option K) → has_kind n kind.Reboot ≡ true → KnowsTurns n turns (rebooted r w k o)
  begun k None has = knows
  begun k (Some kept) has = record { packets = knows.packets; up = λ keeps. absurd (false≢true (sym (no-start n keeps) ∙ has)) }

  -- what is seen of a step that is taken is what the network did in it
  pub sees-in-order : (s : Step I) → refusal_of n m w s ≡ None → KnowsTurns n (seen_in_order (next m r w s) s turns) (after_network r w s)
  sees-in-order (step.In k i) none = record { packets = knows.packets; up = knows.up }
  sees-in-order (step.Tick k) none = record { packets = knows.packets; up = knows.up }
  sees-in-order (step.Dup k) none = record {
    packets = knows.packets ∙ sym (ap (λ ws. if keeps_order n then Some ws else None)
        (all-more (λ p. (p.source, p.destination)) (λ p. refl) (λ p. refl) k w.packets (has-copy n m w (step.Dup k) k refl none)));
    up = knows.up;
  }
  sees-in-order (step.Lose k) none =
      let some = has-copy n m w (step.Lose k) k refl none in
      record {
        packets = left-in-order k (copies (next m r w (step.Lose k)) k) some
            (after-copies m r w (step.Lose k) k (omega (arith, copied-within k w.packets some, length-change one_less k w.packets)));
        up = knows.up;
      }
  sees-in-order (step.Deliver k) none =
      let some = has-copy n m w (step.Deliver k) k refl none in
      record {
        packets = left-in-order k (copies (next m r w (step.Deliver k)) k) some
            (after-copies m r w (step.Deliver k) k (omega (arith, copied-within k w.packets some, length-change one_less k w.packets)));
        up = knows.up;
      }
  sees-in-order (step.Crash k) none = record {
    packets = knows.packets;
    up = λ keeps. absurd (false≢true (sym (no-stop n keeps) ∙ has-its-kind n m w (step.Crash k) none));
  }
  sees-in-order (step.Reboot k) none = begun k (w.kept k) (has-its-kind n m w (step.Reboot k) none)
