use Rattle.std.proofs.Common.{ℕ, List, Option, inl, inr, ap, sym, subst, ◌∙◌}
use Rattle.xform_stack.specs.Systems.{world_of}
use Rattle.schedule_make.specs.Candidates.{is_in_flight}
use Rattle.schedule_make.specs.Flying.{KnowsTurns}
use Rattle.schedule_make.specs.Offers.{picked}
use Rattle.schedule_make.proofs.InTurn.{turns-in-any, turns-in-order}
use Rattle.schedule_make.proofs.Offers.{node-candidates, numbers-are, numbers-up}
use Rattle.schedule_make.proofs.drawing.candidate.Goals as goal
use Rattle.flight_index.specs.Flights.{goes_up, numbers_of}
use Rattle.std.specs.Prelude.{◌&&◌, is_some}

pub returns-in-Dup : goal.returns-in-Dup
returns-in-Dup g c = λ ss follows knows turns.
    let same = c.in_flight.ensures
    ∙ ap (λ ps. picked (numbers_of is_some 0 ps) c.args.number) knows.packets
    ∙ ap (λ ns. picked ns c.args.number) (numbers-are 0 (world_of (g.W.Network.system c.args.network.now) ss).packets) in
    elim c.in-Dup.is [
      | inl e ↦ rw e same
      | inr e ↦ rw e same
    ]

pub returns-in-Some : goal.returns-in-Some
returns-in-Some g c = λ ss follows knows turns.
    let sys = g.W.Network.system c.args.network.now in
    let w = world_of sys ss in
    rw c.in-Deliver.is (
    c.in_turn.ensures
    ∙ ap (λ ks. picked ks c.args.number) (turns-in-order sys.net w c.in-Some.turns
    (subst (λ (o : Option (List (Option (ℕ × ℕ)))). KnowsTurns sys.net o w) c.in-Some.is turns)))

pub returns-in-None : goal.returns-in-None
returns-in-None g c = λ ss follows knows turns.
    let sys = g.W.Network.system c.args.network.now in
    let w = world_of sys ss in
    let all = numbers_of (λ p. is_in_flight p && w.is_up p.destination) 0 w.packets in
    rw c.in-Deliver.is (
    c.deliverable.ensures
    ∙ ap (λ ps. picked (numbers_of (goes_up c.args.flights.now.up) 0 ps) c.args.number) knows.packets
    ∙ ap (λ ns. picked ns c.args.number) (numbers-up c.args.flights.now.up w.is_up knows.up 0 w.packets (rw (← knows.packets) knows.within))
    ∙ ap (λ ks. picked ks c.args.number) (turns-in-any sys.net w (subst (λ (o : Option (List (Option (ℕ × ℕ)))). KnowsTurns sys.net o w) c.in-None.is turns) all))

pub returns-in_ok-nodes-in-In : goal.returns-in_ok-nodes-in-In
returns-in_ok-nodes-in-In g c = λ ss follows knows turns.
    let sys = g.W.Network.system c.args.network.now in
    c.picked.ensures
    ∙ ap (λ cs. picked cs c.args.number) (c.deref.ensures.value ∙ c.in_ok-nodes-in-In.ensures ss follows)
    ∙ ap (λ cs. picked cs c.args.number) (sym (node-candidates sys.net sys.meaning (world_of sys ss) c.args.kind c.in-In.is))
