-- A step that was made, taken and seen leaves a schedule in the making with one step more.
use Rattle.std.proofs.Common.{◌≡◌, ℕ, ◌≤◌, true, List, [], ◌∷◌, ◌++◌, length, Option, None, get_or, false, sym, ap, subst, ◌∙◌}
use Rattle.std.specs.Prelude.{IfSome, is_none, take}
use Rattle.std.specs.List.{list_all}
use Rattle.std.proofs.Math.Seq.{take-append_seam}
use Rattle.flight_index.specs.Flights.{Flights, is_within}
use Rattle.net_semantics.specs.RunLaws.{run_from-append}
use Rattle.net_semantics.specs.Steps.{after_network, next, refusal_of}
use Rattle.net_semantics.specs.Worlds.{first_world}
use Rattle.vst_base.specs.declared.step.Step.{Step}
use Rattle.xform_stack.specs.Systems.{System, world_of}
use Rattle.schedule_make.specs.Flying.{AreInFlightFrom, KnowsFlights, KnowsTurns, flights_of, seen, seen_in_order, turns_of}
use Rattle.schedule_make.proofs.InTurn.{sees-in-order, turns-many}
use Rattle.schedule_make.proofs.Following.{Fresh, fly-after, flights-append, length-flights, sees, step-fresh}

module _ {S K I O M : Type 0} (sys : System S K I O M) where
  -- the world after one step more
  pub world-more : (ss : List (Step I)) (s : Step I) → world_of sys (ss ++ s ∷ []) ≡ next sys.meaning sys.recovery (world_of sys ss) s
  world-more ss s = run_from-append sys.meaning sys.recovery (first_world sys.meaning) ss (s ∷ [])

  module _ (ss : List (Step I)) (s : Step I) where
    fresh : Fresh sys.meaning sys.recovery (after_network sys.recovery (world_of sys ss) s) (next sys.meaning sys.recovery (world_of sys ss) s)
    fresh = step-fresh sys.meaning sys.recovery (world_of sys ss) s

    sent-after : (world_of sys (ss ++ s ∷ [])).packets ≡ (after_network sys.recovery (world_of sys ss) s).packets ++ fresh.sent
    sent-after = ap (λ w. w.packets) (world-more ss s) ∙ fresh.after

    -- what was seen where the order of packets is kept
    module _ (ts ts1 : Option (List (Option (ℕ × ℕ)))) (knows : KnowsTurns sys.net ts (world_of sys ss))
        (none : refusal_of sys.net sys.meaning (world_of sys ss) s ≡ None) (is : ts1 ≡ seen_in_order (world_of sys (ss ++ s ∷ [])) s ts) where
      saw-in-order : KnowsTurns sys.net ts1 (after_network sys.recovery (world_of sys ss) s)
      saw-in-order = subst (λ v. KnowsTurns sys.net v (after_network sys.recovery (world_of sys ss) s)) (sym (is ∙ ap (λ w. seen_in_order w s ts) (world-more ss s)))
          (sees-in-order sys.net sys.meaning sys.recovery (world_of sys ss) ts knows s none)

      pub turns-so-far : (before : ℕ) → before ≡ length (after_network sys.recovery (world_of sys ss) s).packets
          → ts1 ≡ turns_of sys.net (take before (world_of sys (ss ++ s ∷ [])).packets)
      turns-so-far before e =
          let ps = (after_network sys.recovery (world_of sys ss) s).packets in
          saw-in-order.packets ∙ sym (
          ap (λ qs. turns_of sys.net (take before qs)) sent-after
          ∙ ap (λ n. turns_of sys.net (take n (ps ++ fresh.sent))) e
          ∙ ap (turns_of sys.net) (take-append_seam ps fresh.sent))

      pub turns-before : (before : ℕ) → before ≡ length (after_network sys.recovery (world_of sys ss) s).packets → IfSome ts1 (λ ws. length ws ≡ before)
      turns-before before e =
          let ps = (after_network sys.recovery (world_of sys ss) s).packets in
          subst (λ (o : Option (List (Option (ℕ × ℕ)))). IfSome o (λ ws. length ws ≡ before)) (sym saw-in-order.packets)
          (subst (λ n. IfSome (turns_of sys.net ps) (λ ws. length ws ≡ n)) (sym e) (turns-many sys.net ps))

      pub knows-turns-more : (ts2 : Option (List (Option (ℕ × ℕ)))) → ts2 ≡ turns_of sys.net (world_of sys (ss ++ s ∷ [])).packets
          → KnowsTurns sys.net ts2 (world_of sys (ss ++ s ∷ []))
      knows-turns-more ts2 packets = record {
        packets = packets;
        up = λ keeps j. ap (λ w. w.is_up j) (world-more ss s) ∙ fresh.up j ∙ saw-in-order.up keeps j;
      }

  module _ (few : sys.meaning.nodes ≤ 9) (ss : List (Step I)) (s : Step I) (f f1 : Flights) (knows : KnowsFlights f (world_of sys ss))
      (none : refusal_of sys.net sys.meaning (world_of sys ss) s ≡ None) (is : f1 ≡ seen (world_of sys (ss ++ s ∷ [])) s f) where
    -- what was seen of the packets that were sent before the step, and of the nodes
    pub saw : KnowsFlights f1 (after_network sys.recovery (world_of sys ss) s)
    saw = subst (λ v. KnowsFlights v (after_network sys.recovery (world_of sys ss) s)) (sym (is ∙ ap (λ w. seen w s f) (world-more ss s)))
        (sees sys.net sys.meaning sys.recovery (world_of sys ss) few f knows s none)

    -- no packet that was sent before the step is gone from the list
    pub many : (before : ℕ) → length f1.packets ≡ before → before ≡ length (after_network sys.recovery (world_of sys ss) s).packets
    many before e = sym e ∙ (ap length saw.packets ∙ length-flights (after_network sys.recovery (world_of sys ss) s).packets)

    pub fly-on : (before : ℕ) → length f1.packets ≡ before → AreInFlightFrom before (world_of sys (ss ++ s ∷ [])).packets
    fly-on before e = subst (λ ps. AreInFlightFrom before ps) (sym (sent-after ss s))
        (subst (λ n. AreInFlightFrom n ((after_network sys.recovery (world_of sys ss) s).packets ++ (fresh ss s).sent)) (sym (many before e))
        (fly-after (after_network sys.recovery (world_of sys ss) s).packets (fresh ss s).sent (fresh ss s).fly))

    pub was-so-far : (before : ℕ) → length f1.packets ≡ before → f1.packets ≡ take before (flights_of (world_of sys (ss ++ s ∷ [])).packets)
    was-so-far before e =
        let ps = (after_network sys.recovery (world_of sys ss) s).packets in
        saw.packets ∙ sym (
        ap (λ qs. take before (flights_of qs)) (sent-after ss s)
        ∙ ap (λ os. take before os) (flights-append ps (fresh ss s).sent)
        ∙ ap (λ n. take n (flights_of ps ++ flights_of (fresh ss s).sent)) (many before e ∙ sym (length-flights ps))
        ∙ take-append_seam (flights_of ps) (flights_of (fresh ss s).sent))

    -- and once the packets are seen that it sent
    pub knows-more : (f2 : Flights) → f2.packets ≡ flights_of (world_of sys (ss ++ s ∷ [])).packets → list_all is_within f2.packets ≡ true → f2.up ≡ f1.up
        → KnowsFlights f2 (world_of sys (ss ++ s ∷ []))
    knows-more f2 packets within up = record {
      packets = packets;
      within = within;
      nodes = ap length up ∙ saw.nodes;
      up = λ j below. ap (λ us. get_or us j false) up ∙ saw.up j below ∙ sym (ap (λ w. w.is_up j) (world-more ss s) ∙ (fresh ss s).up j);
      down = λ j. (ap (λ w. w.is_up j) (world-more ss s) ∙ (fresh ss s).up j) ∙ saw.down j ∙ sym (ap is_none (ap (λ w. w.kept j) (world-more ss s) ∙ (fresh ss s).kept j));
    }
