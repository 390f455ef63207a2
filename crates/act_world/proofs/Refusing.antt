-- The code tells why a step is refused as the world does.
use Rattle.std.proofs.Common.{◌≡◌, ℕ, ◌<◌, Bool, true, false, List, [], ◌∷◌, length, map, Option, Some, None, Result, Ok, Err, slice_get, refl, ap, sym, subst, ◌∙◌}
use Rattle.std.specs.Prelude.{nat_lt, is_none, not, if◌then◌else◌}
use Rattle.std.proofs.lemmas.Bool.{ltb-true}
use Rattle.lists.specs.Places.{slice_get_there}
use Rattle.handler_trait.specs.Handling.{Meaning}
use Rattle.vst_base.specs.declared.step.StepRefusal.{StepRefusal}
use Rattle.vst_base.specs.declared.step.StepRefusal.TheVariants as refusal
use Rattle.vst_base.specs.Firsts.{first_of}
use Rattle.net_semantics.specs.Steps.{destination_of, fails}
use Rattle.net_semantics.specs.Worlds.{Packet, copies_of, ends_of}
use Rattle.act_network.specs.declared.step.ActStep.TheVariants as act
use Rattle.act_network.specs.ActRefusals.{act_refusal}
use Rattle.act_network.specs.ActWorlds.{ActWorld, Listed, Turn, packet_in}
use Rattle.act_world.specs.ActViews.{ActView, ShowsAct}
use Rattle.act_world.specs.Flights.{flight_copies, flight_ends}
use Rattle.act_world.specs.Nodes.{ShowsSo, ShowsTurn}
use Rattle.act_world.specs.Refusals.{deliver_along, left_at, to_change, to_deliver, to_go_on, to_start, to_stop, to_take, to_tick, turn_at}
use Rattle.act_world.specs.declared.act_node.ActNode.{ActNode}
use Rattle.act_world.specs.declared.turn.Turn.TheVariants as turn
use Rattle.act_world.specs.declared.turn.Turn as code
use Rattle.act_world.proofs.Flying.{same-copies, same-ends}

-- a refusal as the answer of a test, and of no refusal this
abbrev pub Tells : {R : Type 0} → Result R StepRefusal → Option StepRefusal → Type 0
Tells (Ok x) first = first ≡ None
Tells (Err why) first = first ≡ Some why

-- whether a node is up, and whether it is in a turn
turn-same : {S I A O M : Type 0} (listed : List (Listed I O)) (n : ℕ) (held state : S) (o : Option (code.Turn I A O M)) (t : Option (Turn S I O M A)) →
    ShowsTurn listed n held state o t → is_none o ≡ is_none t
turn-same listed n held state None None h = refl
turn-same listed n held state None (Some t) h = absurd h
turn-same listed n held state (Some (turn.Saving v)) None h = absurd h
turn-same listed n held state (Some (turn.Saving v)) (Some t) h = refl
turn-same listed n held state (Some (turn.Telling v)) None h = absurd h
turn-same listed n held state (Some (turn.Telling v)) (Some t) h = refl

module _ {S D I A O M X : Type 0} (listed : List (Listed I O)) (n : ℕ) (v : ActNode S D I A O M X) (state : S) (disk : D) (t : Option (Turn S I O M A)) where
  left-same : (left down : Option X) → ShowsSo listed n v state disk t left down → is_none left ≡ is_none down
  left-same None None h = refl
  left-same None (Some y) h = absurd h
  left-same (Some x) None h = absurd h
  left-same (Some x) (Some y) h = refl

  idle-same : (left down : Option X) → ShowsSo listed n v state disk t left down → is_none v.turn ≡ is_none t
  idle-same None None h = turn-same listed n v.state state v.turn t h.1
  idle-same None (Some y) h = absurd h
  idle-same (Some x) None h = absurd h
  idle-same (Some x) (Some y) h = ap is_none h.1 ∙ sym (ap is_none h.2)

module _ {H S D I A O M X : Type 0} (m : Meaning S I O M) (v : ActView H S D I A O M X) (w : ActWorld S I O M D A X) (sh : ShowsAct v w) (nodes : length v.nodes ≡ m.nodes) where
  abbrev up-test : ℕ → Bool
  up-test n = is_none (left_at (slice_get v.nodes n))

  up-is : (n : ℕ) → n < m.nodes → is_none (left_at (slice_get v.nodes n)) ≡ is_none (w.down n)
  up-is n below =
      let node = slice_get_there v.nodes n (subst (λ l. n < l) (sym nodes) below) in
      subst (λ o. is_none (left_at o) ≡ is_none (w.down n)) (sym node.1) (left-same w.listed n node.0 (w.state n) (w.disk n) (w.turn n) node.0.left (w.down n) (sh.nodes n node.0 node.1))

  idle-is : (n : ℕ) → n < m.nodes → is_none (turn_at (slice_get v.nodes n)) ≡ is_none (w.turn n)
  idle-is n below =
      let node = slice_get_there v.nodes n (subst (λ l. n < l) (sym nodes) below) in
      subst (λ o. is_none (turn_at o) ≡ is_none (w.turn n)) (sym node.1) (idle-same w.listed n node.0 (w.state n) (w.disk n) (w.turn n) node.0.left (w.down n) (sh.nodes n node.0 node.1))

  -- what a network of acts refuses, by its tests
  abbrev by-tests : Bool → Bool → Bool → Bool → Bool → Bool → Bool → Option StepRefusal
  by-tests a t b u g h i =
      first_of ((refusal.NotThisNet, false) ∷ (refusal.NoSuchNode, a) ∷ (refusal.NoInputHere, t) ∷ (refusal.NodeDown, b) ∷ (refusal.NodeUp, u)
      ∷ (refusal.NoCopy, g) ∷ (refusal.NotFirst, false) ∷ (refusal.NodeBusy, h) ∷ (refusal.NodeIdle, i) ∷ [])

  abbrev idle-test : ℕ → Bool
  idle-test n = is_none (turn_at (slice_get v.nodes n))

  -- a test of whether the node exists comes first; the others are those of the world then
  module _ (n : ℕ) where
    abbrev below-of : nat_lt n m.nodes ≡ true → n < m.nodes
    below-of is = ltb-true n m.nodes is

    tick-so : (a b c : Bool) → Tells (if a then (if b then (if c then Ok n else Err refusal.NodeBusy) else Err refusal.NodeDown) else Err refusal.NoSuchNode)
        (by-tests (not a) false (not b) false false (not c) false)
    tick-so false b c = refl
    tick-so true false c = refl
    tick-so true true false = refl
    tick-so true true true = refl

    tick-by : (a : Bool) → nat_lt n m.nodes ≡ a →
        Tells (if a then (if up-test n then (if idle-test n then Ok n else Err refusal.NodeBusy) else Err refusal.NodeDown) else Err refusal.NoSuchNode)
        (by-tests (not a) false (not (is_none (w.down n))) false false (not (is_none (w.turn n))) false)
    tick-by false is = refl
    tick-by true is =
        subst (λ x. Tells (if x then (if idle-test n then Ok n else Err refusal.NodeBusy) else Err refusal.NodeDown)
        (by-tests false false (not (is_none (w.down n))) false false (not (is_none (w.turn n))) false)) (sym (up-is n (below-of is)))
        (subst (λ y. Tells (if is_none (w.down n) then (if y then Ok n else Err refusal.NodeBusy) else Err refusal.NodeDown)
        (by-tests false false (not (is_none (w.down n))) false false (not (is_none (w.turn n))) false)) (sym (idle-is n (below-of is)))
        (tick-so true (is_none (w.down n)) (is_none (w.turn n))))

    pub tick-tells : Tells (to_tick m v n) (act_refusal m w (act.Tick n))
    tick-tells = tick-by (nat_lt n m.nodes) refl

    take-so : (a t b c : Bool) → Tells (if a then (if t then (if b then (if c then Ok n else Err refusal.NodeBusy) else Err refusal.NodeDown) else Err refusal.NoInputHere) else Err refusal.NoSuchNode)
        (by-tests (not a) (not t) (not b) false false (not c) false)
    take-so false t b c = refl
    take-so true false b c = refl
    take-so true true false c = refl
    take-so true true true false = refl
    take-so true true true true = refl

    take-by : (a : Bool) → nat_lt n m.nodes ≡ a →
        Tells (if a then (if m.takes_input n then (if up-test n then (if idle-test n then Ok n else Err refusal.NodeBusy) else Err refusal.NodeDown) else Err refusal.NoInputHere) else Err refusal.NoSuchNode)
        (by-tests (not a) (not (m.takes_input n)) (not (is_none (w.down n))) false false (not (is_none (w.turn n))) false)
    take-by false is = refl
    take-by true is =
        subst (λ x. Tells (if m.takes_input n then (if x then (if idle-test n then Ok n else Err refusal.NodeBusy) else Err refusal.NodeDown) else Err refusal.NoInputHere)
        (by-tests false (not (m.takes_input n)) (not (is_none (w.down n))) false false (not (is_none (w.turn n))) false)) (sym (up-is n (below-of is)))
        (subst (λ y. Tells (if m.takes_input n then (if is_none (w.down n) then (if y then Ok n else Err refusal.NodeBusy) else Err refusal.NodeDown) else Err refusal.NoInputHere)
        (by-tests false (not (m.takes_input n)) (not (is_none (w.down n))) false false (not (is_none (w.turn n))) false)) (sym (idle-is n (below-of is)))
        (take-so true (m.takes_input n) (is_none (w.down n)) (is_none (w.turn n))))

    pub take-tells : (i : I) → Tells (to_take m v n) (act_refusal m w (act.In n i))
    take-tells i = take-by (nat_lt n m.nodes) refl

    go_on-so : (a b c : Bool) → Tells (if a then (if b then (if c then Err refusal.NodeIdle else Ok n) else Err refusal.NodeDown) else Err refusal.NoSuchNode)
        (by-tests (not a) false (not b) false false false (not (not c)))
    go_on-so false b c = refl
    go_on-so true false c = refl
    go_on-so true true false = refl
    go_on-so true true true = refl

    go_on-by : (a : Bool) → nat_lt n m.nodes ≡ a →
        Tells (if a then (if up-test n then (if idle-test n then Err refusal.NodeIdle else Ok n) else Err refusal.NodeDown) else Err refusal.NoSuchNode)
        (by-tests (not a) false (not (is_none (w.down n))) false false false (not (not (is_none (w.turn n)))))
    go_on-by false is = refl
    go_on-by true is =
        subst (λ x. Tells (if x then (if idle-test n then Err refusal.NodeIdle else Ok n) else Err refusal.NodeDown)
        (by-tests false false (not (is_none (w.down n))) false false false (not (not (is_none (w.turn n)))))) (sym (up-is n (below-of is)))
        (subst (λ y. Tells (if is_none (w.down n) then (if y then Err refusal.NodeIdle else Ok n) else Err refusal.NodeDown)
        (by-tests false false (not (is_none (w.down n))) false false false (not (not (is_none (w.turn n)))))) (sym (idle-is n (below-of is)))
        (go_on-so true (is_none (w.down n)) (is_none (w.turn n))))

    pub go_on-tells : Tells (to_go_on m v n) (act_refusal m w (act.Act n))
    go_on-tells = go_on-by (nat_lt n m.nodes) refl

    stop-so : (a b : Bool) → Tells (if a then (if b then Ok n else Err refusal.NodeDown) else Err refusal.NoSuchNode)
        (by-tests (not a) false (not b) false false false false)
    stop-so false b = refl
    stop-so true false = refl
    stop-so true true = refl

    stop-by : (a : Bool) → nat_lt n m.nodes ≡ a → Tells (if a then (if up-test n then Ok n else Err refusal.NodeDown) else Err refusal.NoSuchNode)
        (by-tests (not a) false (not (is_none (w.down n))) false false false false)
    stop-by false is = refl
    stop-by true is =
        subst (λ x. Tells (if x then Ok n else Err refusal.NodeDown) (by-tests false false (not (is_none (w.down n))) false false false false)) (sym (up-is n (below-of is)))
        (stop-so true (is_none (w.down n)))

    pub stop-tells : (left : X) → Tells (to_stop m v n) (act_refusal m w (act.Stop n left))
    stop-tells left = stop-by (nat_lt n m.nodes) refl

    start-so : (a b : Bool) → Tells (if a then (if b then Err refusal.NodeUp else Ok n) else Err refusal.NoSuchNode)
        (by-tests (not a) false false (not (not b)) false false false)
    start-so false b = refl
    start-so true false = refl
    start-so true true = refl

    start-by : (a : Bool) → nat_lt n m.nodes ≡ a → Tells (if a then (if up-test n then Err refusal.NodeUp else Ok n) else Err refusal.NoSuchNode)
        (by-tests (not a) false false (not (not (is_none (w.down n)))) false false false)
    start-by false is = refl
    start-by true is =
        subst (λ x. Tells (if x then Err refusal.NodeUp else Ok n) (by-tests false false false (not (not (is_none (w.down n)))) false false false)) (sym (up-is n (below-of is)))
        (start-so true (is_none (w.down n)))

    pub start-tells : Tells (to_start m v n) (act_refusal m w (act.Reboot n))
    start-tells = start-by (nat_lt n m.nodes) refl

  module _ (k : ℕ) where
    abbrev packet : Option (Packet M)
    packet = slice_get (map packet_in w.packets) k

    change-so : (g : Bool) → Tells (if g then Ok k else Err refusal.NoCopy) (by-tests false false false false (not g) false false)
    change-so false = refl
    change-so true = refl

    change-by : Tells (to_change v k) (by-tests false false false false (not (nat_lt 0 (copies_of packet))) false false)
    change-by =
        subst (λ c. Tells (if nat_lt 0 c then Ok k else Err refusal.NoCopy) (by-tests false false false false (not (nat_lt 0 (copies_of packet))) false false))
        (sym (same-copies v.flights w.packets k sh.flights)) (change-so (nat_lt 0 (copies_of packet)))

    pub dup-tells : Tells (to_change v k) (act_refusal m w (act.Dup k))
    dup-tells = change-by

    pub lose-tells : Tells (to_change v k) (act_refusal m w (act.Lose k))
    lose-tells = change-by

    deliver-so : (b g c : Bool) → Tells (if b then (if g then (if c then Ok k else Err refusal.NodeBusy) else Err refusal.NoCopy) else Err refusal.NodeDown)
        (by-tests false false (not b) false (not g) (not c) false)
    deliver-so false g c = refl
    deliver-so true false c = refl
    deliver-so true true false = refl
    deliver-so true true true = refl

    abbrev deliver-refused : Option (Packet M) → Option StepRefusal
    deliver-refused p =
        by-tests false false (fails (destination_of (ends_of p)) (λ j. is_none (w.down j))) false (not (nat_lt 0 (copies_of p)))
        (fails (destination_of (ends_of p)) (λ j. is_none (w.turn j))) false

    deliver-by : (p : Option (Packet M)) → ((e : ℕ × ℕ) → ends_of p ≡ Some e → e.1 < m.nodes) → flight_copies (slice_get v.flights k) ≡ copies_of p →
        Tells (deliver_along v k (ends_of p)) (deliver-refused p)
    deliver-by None below copies_are = refl
    deliver-by (Some p) below copies_are =
        let lt : p.destination < m.nodes = below (p.source, p.destination) refl in
        subst (λ c. Tells (if up-test p.destination then (if nat_lt 0 c then (if idle-test p.destination then Ok k else Err refusal.NodeBusy) else Err refusal.NoCopy) else Err refusal.NodeDown)
        (deliver-refused (Some p))) (sym copies_are)
        (subst (λ x. Tells (if x then (if nat_lt 0 p.copies then (if idle-test p.destination then Ok k else Err refusal.NodeBusy) else Err refusal.NoCopy) else Err refusal.NodeDown)
        (deliver-refused (Some p))) (sym (up-is p.destination lt))
        (subst (λ y. Tells (if is_none (w.down p.destination) then (if nat_lt 0 p.copies then (if y then Ok k else Err refusal.NodeBusy) else Err refusal.NoCopy) else Err refusal.NodeDown)
        (deliver-refused (Some p))) (sym (idle-is p.destination lt))
        (deliver-so (is_none (w.down p.destination)) (nat_lt 0 p.copies) (is_none (w.turn p.destination)))))

    pub deliver-tells : ((e : ℕ × ℕ) → flight_ends (slice_get v.flights k) ≡ Some e → e.1 < m.nodes) → Tells (to_deliver v k) (act_refusal m w (act.Deliver k))
    deliver-tells below =
        let ends_are : flight_ends (slice_get v.flights k) ≡ ends_of packet = same-ends v.flights w.packets k sh.flights in
        subst (λ e. Tells (deliver_along v k e) (deliver-refused packet)) (sym ends_are)
        (deliver-by packet (λ e is. below e (ends_are ∙ is)) (same-copies v.flights w.packets k sh.flights))
