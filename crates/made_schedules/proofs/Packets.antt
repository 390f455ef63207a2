-- How many packets there are after some steps.
use Rattle.std.specs.Prelude.{◌≡◌, ℕ, zero, suc, ◌+◌, ◌*◌, ◌≤◌, List, [], ◌∷◌, ◌++◌, length, Option, Some, None, slice_get, refl}
use Rattle.std.proofs.Common.{ap, arith, length-append}
use Rattle.std.proofs.lemmas.List.{length-map}
use Rattle.handler_trait.specs.Handling.{Meaning, Recovery}
use Rattle.net_semantics.specs.Runs.{run_from}
use Rattle.net_semantics.specs.Steps.{after_event, copied, delivered, delivery, next, next_in, rebooted, with_packets}
use Rattle.net_semantics.specs.Worlds.{Packet, World, change_at, sent_by}
use Rattle.vst_base.specs.declared.node.TheConstants.{MAX_NODES}
use Rattle.vst_base.specs.declared.step.Step.{Step}
use Rattle.vst_base.specs.Nets.{AtNode, OfPacket, Starts, StepView, Stops, view_of}
use Rattle.made_schedules.specs.Sends.{SendsFew}

length-change_at : {P : Type 0} (f : P → P) (k : ℕ) (ps : List P) → length (change_at f k ps) ≡ length ps
length-change_at f k [] = refl
length-change_at f zero (p ∷ ps) = refl
length-change_at f (suc k) (p ∷ ps) = ap suc (length-change_at f k ps)

-- what is sent comes after the packets that there are
more-sent : {M : Type 0} (ps : List (Packet M)) (n : ℕ) (sends : List (ℕ × M)) → length sends ≤ MAX_NODES → length (ps ++ sent_by n sends) ≤ length ps + MAX_NODES
more-sent ps n sends few =
    let as-many : length (sent_by n sends) ≡ length sends = length-map sends (λ p. record { source = n; destination = p.0; content = p.1; copies = 1 }) in
    omega (arith, length-append ps (sent_by n sends), as-many, few)

module _ {S K I O M : Type 0} (m : Meaning S I O M) (r : Recovery S K) (few : SendsFew m) where
  sent-on : (v w : World S K M) (o : Option (Packet M)) → length (after_event v (delivery m w o)).packets ≤ length v.packets + MAX_NODES
  sent-on v w None = omega arith
  sent-on v w (Some p) =
      let e = m.message p.destination (w.state p.destination) p.source p.content in
      more-sent v.packets p.destination e.sends (few.message p.destination (w.state p.destination) p.source p.content)

  started : (w : World S K M) (n : ℕ) (o : Option K) → length (rebooted r w n o).packets ≡ length w.packets
  started w n None = refl
  started w n (Some k) = refl

  -- a step sends few packets more
  pub packets-after : (w : World S K M) (s : StepView I) → length (next_in m r w s).packets ≤ length w.packets + MAX_NODES
  packets-after w (AtNode n (Some i)) = more-sent w.packets n (m.input n (w.state n) i).sends (few.input n (w.state n) i)
  packets-after w (AtNode n None) = more-sent w.packets n (m.timeout n (w.state n)).sends (few.timeout n (w.state n))
  packets-after w (OfPacket k fate) =
      let left = change_at (copied fate) k w.packets in
      omega (arith, sent-on (with_packets w left) w (delivered fate (slice_get w.packets k)), length-change_at (copied fate) k w.packets)
  packets-after w (Stops n) = omega arith
  packets-after w (Starts n) = omega (arith, started w n (w.kept n))

  pub packets-after-all : (w : World S K M) (ss : List (Step I)) → length (run_from m r w ss).packets ≤ length w.packets + MAX_NODES * length ss
  packets-after-all w [] = omega arith
  packets-after-all w (s ∷ ss) = omega (arith, packets-after-all (next m r w s) ss, packets-after w (view_of s))
