-- What a step does to the packets in flight, and that what is seen of it is what it does.
use Rattle.std.proofs.Common.{◌≡◌, ℕ, zero, suc, ◌+◌, ◌-◌, ◌<◌, ◌≤◌, Bool, true, false, not, List, [], ◌∷◌, ◌++◌, length, get_or, Option, Some, None, refl, sym, ap, ◌∙◌, arith, inl, inr}
use Rattle.std.specs.Prelude.{◌&&◌, ◌==◌, nat_lt, if◌then◌else◌, is_none, map, slice_get, slice_set, take}
use Rattle.std.proofs.lemmas.Bool.{and_from, and_parts, cases_eq, eq-eqb, lt-ltb, ltb-true, ne_eqb}
use Rattle.std.proofs.lemmas.Grind.{get_or-set_at}
use Rattle.std.proofs.lemmas.List.{get_or-set_other, length-set}
use Rattle.std.specs.List.{list_all}
use Rattle.handler_trait.specs.Handling.{Meaning, Recovery}
use Rattle.flight_index.specs.Flights.{Flights, is_within}
use Rattle.net_semantics.specs.Steps.{Event, after_event, after_network, crashed, event_of, fails, is_first, next, node_of, packet_of, refusal_of, rebooted, with_packets}
use Rattle.net_semantics.specs.Worlds.{Packet, World, change_at, copies, copies_of, ends_of, one_less, one_more, put, sent_by}
use Rattle.vst_base.specs.Firsts.{first_of}
use Rattle.vst_base.specs.Nets.{has_kind, keeps_order, kind_of}
use Rattle.vst_base.specs.declared.step.StepKind.TheVariants as kind
use Rattle.vst_base.specs.declared.net.Net.{Net}
use Rattle.vst_base.specs.declared.step.StepRefusal.TheVariants as refusal
use Rattle.vst_base.specs.declared.step.Step.{Step}
use Rattle.vst_base.specs.declared.step.Step.TheVariants as step
use Rattle.schedule_make.specs.Candidates.{is_in_flight}
use Rattle.schedule_make.specs.Flying.{AreInFlightFrom, IsWithin, KnowsFlights, flight_of, flights_of, seen}

module _ {X : Type 0} where
  -- one copy more or less of a packet in flight
  flies : (d : X) (n : ℕ) → 0 < n → (if nat_lt 0 n then Some d else None) ≡ Some d
  flies d n h = ap (λ (b : Bool). if b then Some d else None) (lt-ltb 0 n h)

  lands : (d : X) (n : ℕ) → (if nat_lt 0 n then Some d else None) ≡ (if n == 0 then None else Some d)
  lands d zero = refl
  lands d (suc n) = flies d (suc n) (omega arith) ∙ sym (ap (λ (b : Bool). if b then None else Some d) (ne_eqb (suc n) 0 (λ e. absurd (omega (arith, e)))))

  -- what becomes of the flights where a copy of packet k goes, of which so many are left
  abbrev pub left_of : ℕ → ℕ → List (Option X) → List (Option X)
  left_of n k os = if n == 0 then slice_set os k None else os

  front-if : (b : Bool) (o : Option X) (os : List (Option X)) → (if b then None else o) ∷ os ≡ (if b then slice_set (o ∷ os) 0 None else o ∷ os)
  front-if true o os = refl
  front-if false o os = refl

  rest-if : (b : Bool) (o : Option X) (k : ℕ) (os : List (Option X)) → o ∷ (if b then slice_set os k None else os) ≡ (if b then slice_set (o ∷ os) (suc k) None else o ∷ os)
  rest-if true o k os = refl
  rest-if false o k os = refl

-- what is known of each packet while a copy of it is in flight
module _ {M X : Type 0} (f : Packet M → X) (more : (p : Packet M) → f (one_more p) ≡ f p) (less : (p : Packet M) → f (one_less p) ≡ f p) where
  abbrev pub aloft : Packet M → Option X
  aloft p = if is_in_flight p then Some (f p) else None

  aloft-more : (p : Packet M) → 0 < p.copies → aloft (one_more p) ≡ aloft p
  aloft-more p h = flies (f (one_more p)) (p.copies + 1) (omega arith) ∙ ap (λ x. Some x) (more p) ∙ sym (flies (f p) p.copies h)

  pub all-more : (k : ℕ) (ps : List (Packet M)) → 0 < copies_of (slice_get ps k) → map aloft (change_at one_more k ps) ≡ map aloft ps
  all-more k [] h = refl
  all-more zero (p ∷ ps) h = ap (λ o. o ∷ map aloft ps) (aloft-more p h)
  all-more (suc k) (p ∷ ps) h = ap (λ os. aloft p ∷ os) (all-more k ps h)

  aloft-less : (p : Packet M) → 0 < p.copies → aloft (one_less p) ≡ (if p.copies - 1 == 0 then None else aloft p)
  aloft-less p h = lands (f (one_less p)) (p.copies - 1) ∙ ap (λ x. if p.copies - 1 == 0 then None else Some x) (less p)
      ∙ ap (λ (o : Option X). if p.copies - 1 == 0 then None else o) (sym (flies (f p) p.copies h))

  pub all-less : (k : ℕ) (ps : List (Packet M)) → 0 < copies_of (slice_get ps k)
      → map aloft (change_at one_less k ps) ≡ left_of (copies_of (slice_get (change_at one_less k ps) k)) k (map aloft ps)
  all-less k [] h = absurd (omega (arith, h))
  all-less zero (p ∷ ps) h = ap (λ o. o ∷ map aloft ps) (aloft-less p h) ∙ front-if (p.copies - 1 == 0) (aloft p) (map aloft ps)
  all-less (suc k) (p ∷ ps) h =
      ap (λ os. aloft p ∷ os) (all-less k ps h)
      ∙ rest-if (copies_of (slice_get (change_at one_less k ps) k) == 0) (aloft p) k (map aloft ps)

module _ {M : Type 0} where
  pub flights-more : (k : ℕ) (ps : List (Packet M)) → 0 < copies_of (slice_get ps k) → flights_of (change_at one_more k ps) ≡ flights_of ps
  flights-more k ps h = all-more (λ p. p.destination) (λ p. refl) (λ p. refl) k ps h

  pub flights-less : (k : ℕ) (ps : List (Packet M)) → 0 < copies_of (slice_get ps k)
      → flights_of (change_at one_less k ps) ≡ left_of (copies_of (slice_get (change_at one_less k ps) k)) k (flights_of ps)
  flights-less k ps h = all-less (λ p. p.destination) (λ p. refl) (λ p. refl) k ps h

  pub length-change : (f : Packet M → Packet M) (k : ℕ) (ps : List (Packet M)) → length (change_at f k ps) ≡ length ps
  length-change f k [] = refl
  length-change f zero (p ∷ ps) = refl
  length-change f (suc k) (p ∷ ps) = ap suc (length-change f k ps)

  pub copied-within : (k : ℕ) (ps : List (Packet M)) → 0 < copies_of (slice_get ps k) → k < length ps
  copied-within k [] h = absurd (omega (arith, h))
  copied-within zero (p ∷ ps) h = omega arith
  copied-within (suc k) (p ∷ ps) h = let later = copied-within k ps h in omega arith

  -- what is sent is in flight
  sent-fly : (n : ℕ) (sends : List (ℕ × M)) → AreInFlightFrom 0 (sent_by n sends)
  sent-fly n [] k from = tt
  sent-fly n (s ∷ sends) zero from = refl
  sent-fly n (s ∷ sends) (suc k) from = sent-fly n sends k (omega arith)

  pub fly-after : (ps fresh : List (Packet M)) → AreInFlightFrom 0 fresh → AreInFlightFrom (length ps) (ps ++ fresh)
  fly-after [] fresh h k from = h k from
  fly-after (p ∷ ps) fresh h zero from = absurd (omega (arith, from))
  fly-after (p ∷ ps) fresh h (suc k) from = fly-after ps fresh h k (omega (arith, from))

  pub flights-append : (ps qs : List (Packet M)) → flights_of (ps ++ qs) ≡ flights_of ps ++ flights_of qs
  flights-append [] qs = refl
  flights-append (p ∷ ps) qs = ap (λ os. flight_of p ∷ os) (flights-append ps qs)

  pub length-flights : (ps : List (Packet M)) → length (flights_of ps) ≡ length ps
  length-flights [] = refl
  length-flights (p ∷ ps) = ap suc (length-flights ps)

  pub copies-before : (ps fresh : List (Packet M)) (k : ℕ) → k < length ps → copies_of (slice_get (ps ++ fresh) k) ≡ copies_of (slice_get ps k)
  copies-before [] fresh k h = absurd (omega (arith, h))
  copies-before (p ∷ ps) fresh zero h = refl
  copies-before (p ∷ ps) fresh (suc k) h = copies-before ps fresh k (omega (arith, h))

-- the destination of a packet that has ends
abbrev dest : Option (ℕ × ℕ) → ℕ
dest None = 0
dest (Some e) = e.1

module _ {M : Type 0} where
  pub has-ends : (ps : List (Packet M)) (k : ℕ) → k < length ps → (e : ℕ × ℕ) × (ends_of (slice_get ps k) ≡ Some e)
  has-ends [] k h = absurd (omega (arith, h))
  has-ends (p ∷ ps) zero h = ((p.source, p.destination), refl)
  has-ends (p ∷ ps) (suc k) h = has-ends ps k (omega (arith, h))

  -- one packet more, where from some place on each is in flight
  pub next-flight : (ps : List (Packet M)) (before k from to : ℕ) → before ≤ k → AreInFlightFrom before ps → ends_of (slice_get ps k) ≡ Some (from, to)
      → take (k + 1) (flights_of ps) ≡ take k (flights_of ps) ++ Some to ∷ []
  next-flight [] before k from to le fly e = cc e
  next-flight (p ∷ ps) before zero from to le fly e =
      ap (λ (b : Bool). (if b then Some p.destination else None) ∷ []) (fly 0 le) ∙ ap (λ d. Some d ∷ []) (ap dest e)
  next-flight (p ∷ ps) before (suc k) from to le fly e =
      let on : suc k + 1 ≡ suc (k + 1) = omega arith in
      ap (λ n. take n (flights_of (p ∷ ps))) on
      ∙ ap (λ os. flight_of p ∷ os) (next-flight ps (before - 1) k from to (omega (arith, le)) (λ j from_j. fly (suc j) (omega (arith, from_j))) e)

within-gone : (k : ℕ) (os : List (Option ℕ)) → list_all is_within os ≡ true → list_all is_within (slice_set os k None) ≡ true
within-gone k [] h = refl
within-gone zero (o ∷ os) h = (and_parts (is_within o) (list_all is_within os) h).1
within-gone (suc k) (o ∷ os) h =
    let parts : (is_within o ≡ true) × (list_all is_within os ≡ true) = and_parts (is_within o) (list_all is_within os) h in
    and_from (is_within o) (list_all is_within (slice_set os k None)) parts.0 (within-gone k os parts.1)

module _ {S K I O M : Type 0} (m : Meaning S I O M) (r : Recovery S K) where
  -- the packets that an event adds
  pub record Fresh (v : World S K M) (w' : World S K M) : Type 0 where
    pub sent : List (Packet M)
    pub after : w'.packets ≡ v.packets ++ sent
    pub fly : AreInFlightFrom 0 sent
    pub up : (n : ℕ) → w'.is_up n ≡ v.is_up n
    pub kept : (n : ℕ) → w'.kept n ≡ v.kept n

  append-none : (ps : List (Packet M)) → ps ≡ ps ++ []
  append-none [] = refl
  append-none (p ∷ ps) = ap (λ qs. p ∷ qs) (append-none ps)

  none-fresh : (v : World S K M) → Fresh v v
  none-fresh v = record { sent = []; after = append-none v.packets; fly = λ k from. tt; up = λ n. refl; kept = λ n. refl }

  event-fresh : (v : World S K M) (o : Option (Event S I O M)) → Fresh v (after_event v o)
  event-fresh v None = none-fresh v
  event-fresh v (Some e) = record { sent = sent_by e.node e.effect.sends; after = refl; fly = sent-fly e.node e.effect.sends; up = λ n. refl; kept = λ n. refl }

  pub step-fresh : (w : World S K M) (s : Step I) → Fresh (after_network r w s) (next m r w s)
  step-fresh w s = event-fresh (after_network r w s) (event_of m w s)

  pub after-copies : (w : World S K M) (s : Step I) (k : ℕ) → k < length (after_network r w s).packets → copies (next m r w s) k ≡ copies (after_network r w s) k
  after-copies w s k inside =
      let fresh = step-fresh w s in
      ap (λ ps. copies_of (slice_get ps k)) fresh.after ∙ copies-before (after_network r w s).packets fresh.sent k inside

-- where no refusal applies, the named node exists and the named packet has a copy
none-of : (a b c d e f g : Bool) → first_of ((refusal.NotThisNet, a) ∷ (refusal.NoSuchNode, b) ∷ (refusal.NoInputHere, c) ∷ (refusal.NodeDown, d) ∷ (refusal.NodeUp, e) ∷ (refusal.NoCopy, f) ∷ (refusal.NotFirst, g) ∷ []) ≡ None
    → (b ≡ false) × (e ≡ false) × (f ≡ false) × (a ≡ false) × (g ≡ false)
none-of true b c d e f g h = cc
none-of false true c d e f g h = cc
none-of false false true d e f g h = cc
none-of false false false true e f g h = cc
none-of false false false false true f g h = cc
none-of false false false false false true g h = cc
none-of false false false false false false true h = cc
none-of false false false false false false false h = (refl, refl, refl, refl, refl)

pub holds : (b : Bool) → not b ≡ false → b ≡ true
holds true h = refl
holds false h = cc

module _ {S K I O M : Type 0} (n : Net) (m : Meaning S I O M) (w : World S K M) where
  pub has-copy : (s : Step I) (k : ℕ) → packet_of s ≡ Some k → refusal_of n m w s ≡ None → 0 < copies w k
  has-copy s k is none =
      let found = (none-of _ _ _ _ _ _ _ none).2 in
      ltb-true 0 (copies w k) (holds (nat_lt 0 (copies w k)) (ap (λ o. fails o (λ k. nat_lt 0 (copies w k))) (sym is) ∙ found))

  pub has-node : (s : Step I) (k : ℕ) → node_of s ≡ Some k → refusal_of n m w s ≡ None → k < m.nodes
  has-node s k is none =
      let found = (none-of _ _ _ _ _ _ _ none).0 in
      ltb-true k m.nodes (holds (nat_lt k m.nodes) (ap (λ o. fails o (λ k. nat_lt k m.nodes)) (sym is) ∙ found))

  -- it is of a kind that the network has, and its packet is the first in flight of its ends where the network keeps their order
  pub has-its-kind : (s : Step I) → refusal_of n m w s ≡ None → has_kind n (kind_of s) ≡ true
  has-its-kind s none = holds (has_kind n (kind_of s)) (none-of _ _ _ _ _ _ _ none).3

  pub has-its-turn : (s : Step I) → refusal_of n m w s ≡ None → (keeps_order n && fails (packet_of s) (is_first w)) ≡ false
  has-its-turn s none = (none-of _ _ _ _ _ _ _ none).4

  flight-within : (f : Flights) → KnowsFlights f w → (s : Step I) (k : ℕ) → packet_of s ≡ Some k → refusal_of n m w s ≡ None → k < length f.packets
  flight-within f knows s k is none =
      omega (arith, copied-within k w.packets (has-copy s k is none), ap length knows.packets, length-flights w.packets)

  -- a step that is taken names what there is
  pub taken-within : (f : Flights) → KnowsFlights f w → (s : Step I) → refusal_of n m w s ≡ None → IsWithin m.nodes f s
  taken-within f knows (step.Deliver k) none = flight-within f knows (step.Deliver k) k refl none
  taken-within f knows (step.Lose k) none = flight-within f knows (step.Lose k) k refl none
  taken-within f knows (step.Crash k) none = has-node (step.Crash k) k refl none
  taken-within f knows (step.Reboot k) none = has-node (step.Reboot k) k refl none
  taken-within f knows (step.In k i) none = tt
  taken-within f knows (step.Tick k) none = tt
  taken-within f knows (step.Dup k) none = tt

  -- a packet whose last copy goes, and one of whose copies stays
  left : (f : Flights) → KnowsFlights f w → (k c : ℕ) → 0 < copies w k → c ≡ copies_of (slice_get (change_at one_less k w.packets) k)
      → (f' : Flights) → f' ≡ (if c == 0 then record f { packets = slice_set f.packets k None } else f)
      → KnowsFlights f' (with_packets w (change_at one_less k w.packets))
  left f knows k c some is f' e =
      record {
        packets = ap (λ v. v.packets) e ∙ moved (c == 0) ∙ ap (λ ps. left_of c k ps) knows.packets
            ∙ ap (λ n. left_of n k (flights_of w.packets)) is ∙ sym (flights-less k w.packets some);
        within = ap (λ v. list_all is_within v.packets) e ∙ still (c == 0);
        nodes = ap (λ v. length v.up) e ∙ ap length (upped (c == 0)) ∙ knows.nodes;
        up = λ j below. ap (λ v. get_or v.up j false) e ∙ ap (λ us. get_or us j false) (upped (c == 0)) ∙ knows.up j below;
        down = knows.down;
      }
    where
      moved : (b : Bool) → (if b then record f { packets = slice_set f.packets k None } else f).packets ≡ (if b then slice_set f.packets k None else f.packets)
      moved true = refl
      moved false = refl

      upped : (b : Bool) → (if b then record f { packets = slice_set f.packets k None } else f).up ≡ f.up
      upped true = refl
      upped false = refl

      still : (b : Bool) → list_all is_within (if b then record f { packets = slice_set f.packets k None } else f).packets ≡ true
      still true = within-gone k f.packets knows.within
      still false = knows.within

  -- another node's flag
  flagged : (f : Flights) → KnowsFlights f w → (k : ℕ) (b : Bool) → k < 9 → (v : World S K M) → v.packets ≡ w.packets → ((j : ℕ) → v.is_up j ≡ put w.is_up k b j) → ((j : ℕ) → v.is_up j ≡ is_none (v.kept j))
      → KnowsFlights (record f { up = slice_set f.up k b }) v
  flagged f knows k b below v packets up down = record {
    packets = knows.packets ∙ sym (ap flights_of packets);
    within = knows.within;
    nodes = length-set f.up k b ∙ knows.nodes;
    up = λ j small. elim (cases_eq j k) [
      | inl e ↦ get_or-set_at f.up k j b false e (omega (arith, below, knows.nodes)) ∙ sym (up j ∙ ap (λ (t : Bool). if t then b else w.is_up j) (eq-eqb j k e))
      | inr ne ↦ get_or-set_other f.up k j b false ne ∙ knows.up j small ∙ sym (up j ∙ ap (λ (t : Bool). if t then b else w.is_up j) (ne_eqb j k ne))
    ];
    down = down;
  }

  same-flights : (f : Flights) → KnowsFlights f w → (v : World S K M) → flights_of v.packets ≡ flights_of w.packets → ((j : ℕ) → v.is_up j ≡ w.is_up j) → ((j : ℕ) → v.kept j ≡ w.kept j) → KnowsFlights f v
  same-flights f knows v packets up kept = record {
    packets = knows.packets ∙ sym packets;
    within = knows.within;
    nodes = knows.nodes;
    up = λ j small. knows.up j small ∙ sym (up j);
    down = λ j. up j ∙ knows.down j ∙ sym (ap is_none (kept j));
  }

module _ {S K I O M : Type 0} (n : Net) (m : Meaning S I O M) (r : Recovery S K) (w : World S K M) (few : m.nodes ≤ 9) (f : Flights) (knows : KnowsFlights f w) where
  -- a node that stops has kept something, and one that starts again keeps nothing
  stops : (t : Bool) (up : Bool) (o : Option K) (kept : K) → up ≡ is_none o → (if t then false else up) ≡ is_none (if t then Some kept else o)
  stops true up o kept e = refl
  stops false up o kept e = e

  begins : (t : Bool) (up : Bool) (o : Option K) → up ≡ is_none o → (if t then true else up) ≡ is_none (if t then None else o)
  begins true up o e = refl
  begins false up o e = e

  is-down : (k : ℕ) → refusal_of n m w (step.Reboot k) ≡ None → w.is_up k ≡ true → true ≡ false
  is-down k none up = sym (ap (λ b. not (not b)) up) ∙ (none-of (not (has_kind n kind.Reboot)) (not (nat_lt k m.nodes)) false false (not (not (w.is_up k))) false (keeps_order n && false) none).1

  starts : (k : ℕ) (o : Option K) → w.kept k ≡ o → k < 9 → refusal_of n m w (step.Reboot k) ≡ None → KnowsFlights (record f { up = slice_set f.up k true }) (rebooted r w k o)
  starts k (Some kept) e below none =
      flagged n m w f knows k true below (rebooted r w k (Some kept)) refl (λ j. refl) (λ j. begins (j == k) (w.is_up j) (w.kept j) (knows.down j))
  starts k None e below none = cc (is-down k none (knows.down k ∙ ap is_none e))

  -- what is seen of a step that is taken is what the network did in it
  pub sees : (s : Step I) → refusal_of n m w s ≡ None → KnowsFlights (seen (next m r w s) s f) (after_network r w s)
  sees (step.In k i) none = same-flights n m w f knows w refl (λ j. refl) (λ j. refl)
  sees (step.Tick k) none = same-flights n m w f knows w refl (λ j. refl) (λ j. refl)
  sees (step.Dup k) none =
      same-flights n m w f knows (with_packets w (change_at one_more k w.packets)) (flights-more k w.packets (has-copy n m w (step.Dup k) k refl none)) (λ j. refl) (λ j. refl)
  sees (step.Lose k) none =
      let some = has-copy n m w (step.Lose k) k refl none in
      left n m w f knows k (copies (next m r w (step.Lose k)) k) some (after-copies m r w (step.Lose k) k (omega (arith, copied-within k w.packets some, length-change one_less k w.packets))) _ refl
  sees (step.Deliver k) none =
      let some = has-copy n m w (step.Deliver k) k refl none in
      left n m w f knows k (copies (next m r w (step.Deliver k)) k) some (after-copies m r w (step.Deliver k) k (omega (arith, copied-within k w.packets some, length-change one_less k w.packets))) _ refl
  sees (step.Crash k) none = flagged n m w f knows k false (omega (arith, has-node n m w (step.Crash k) k refl none, few)) (crashed r w k) refl (λ j. refl)
      (λ j. stops (j == k) (w.is_up j) (w.kept j) (r.keep (w.state k)) (knows.down j))
  sees (step.Reboot k) none = starts k (w.kept k) refl (omega (arith, has-node n m w (step.Reboot k) k refl none, few)) none

-- what is seen changes no number of packets
pub length-seen : {S K I M : Type 0} (w : World S K M) (s : Step I) (f : Flights) → length (seen w s f).packets ≡ length f.packets
length-seen w (step.Deliver k) f = gone (copies w k == 0) k f where
  gone : (b : Bool) (k : ℕ) (f : Flights) → length (if b then record f { packets = slice_set f.packets k None } else f).packets ≡ length f.packets
  gone true k f = length-set f.packets k None
  gone false k f = refl
length-seen w (step.Lose k) f = gone (copies w k == 0) k f where
  gone : (b : Bool) (k : ℕ) (f : Flights) → length (if b then record f { packets = slice_set f.packets k None } else f).packets ≡ length f.packets
  gone true k f = length-set f.packets k None
  gone false k f = refl
length-seen w (step.Crash n) f = refl
length-seen w (step.Reboot n) f = refl
length-seen w (step.In n i) f = refl
length-seen w (step.Tick n) f = refl
length-seen w (step.Dup k) f = refl

-- nor does what the network does in a step
length-started : {S K M : Type 0} (r : Recovery S K) (w : World S K M) (n : ℕ) (o : Option K) → length (rebooted r w n o).packets ≡ length w.packets
length-started r w n None = refl
length-started r w n (Some kept) = refl

pub length-after : {S K I M : Type 0} (r : Recovery S K) (w : World S K M) (s : Step I) → length (after_network r w s).packets ≡ length w.packets
length-after r w (step.Deliver k) = length-change one_less k w.packets
length-after r w (step.Lose k) = length-change one_less k w.packets
length-after r w (step.Dup k) = length-change one_more k w.packets
length-after r w (step.Crash n) = refl
length-after r w (step.In n i) = refl
length-after r w (step.Tick n) = refl
length-after r w (step.Reboot n) = length-started r w n (w.kept n)
