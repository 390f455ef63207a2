use Rattle.std.proofs.Common.{◌≡◌, ◌++◌, ◌∷◌, [], ℕ, List, Option, None, Some, Err, length, take, sym, ap, subst, ◌∙◌}
use Rattle.net_semantics.specs.Steps.{IsAnswer, refusal_of}
use Rattle.vst_base.specs.declared.step.Step.{Step}
use Rattle.net_semantics.specs.declared.fault.StepFault.{StepFault}
use Rattle.xform_stack.specs.Running.{HasTaken, Progress}
use Rattle.xform_stack.specs.Systems.{System, world_of}
use Rattle.flight_index.specs.Flights.{Flights}
use Rattle.schedule_make.specs.Flying.{AreInFlightFrom, IsInTurn, IsWithin, flights_of, seen, seen_in_order, turns_of}
use Rattle.schedule_make.specs.Making.{MakingView}
use Rattle.schedule_make.proofs.Following.{length-after, length-flights, length-seen, taken-within}
use Rattle.schedule_make.proofs.InTurn.{taken-in-turn}
use Rattle.schedule_make.proofs.Stepping.{fly-on, knows-more, knows-turns-more, saw, turns-before, turns-so-far, was-so-far}
use Rattle.schedule_make.proofs.making.Making.step.Given as given
use Rattle.schedule_make.proofs.making.Making.step.Goals as goal

-- systems, and schedules in the making, over the types of what runs
abbrev SystemOf : given.Over → Type 0
SystemOf g = System g.row.H-State.Denot g.row.W-Kept.Denot g.row.H-Input.Denot g.row.H-Output.Denot g.row.H-Msg.Denot

abbrev ViewOf : given.Over → Type 0
ViewOf g = MakingView g.row.W.Denot

abbrev StepsOf : given.Over → Type 0
StepsOf g = List (Step g.row.H-Input.Denot)

pub unreachable-requires : goal.unreachable-requires
unreachable-requires g c =
    let r = g.W.Network in
    let was = c.requires.allowed.made in
    let ss = c.requires.allowed.steps in
    let same = c.self-2.view_is ∙ c.in_ok-step.ensures.rest in
    let sys = r.system c.args.self.now.network in
    let none : refusal_of sys.net sys.meaning (world_of sys ss) c.in_ok-step.step ≡ None =
    ap (refusal_of sys.net sys.meaning (world_of sys ss)) (c.in_ok-step.ensures.made ss was) ∙ c.requires.allowed.allowed in
    let ran = subst (λ (v : ViewOf g). HasTaken (r.system v.network) r.follows r.progress ss v.network) (sym same) was.taken in
    let first = refusal_of (r.system c.self-2.inside.network).net (r.system c.self-2.inside.network).meaning (world_of (r.system c.self-2.inside.network) ss) c.in_ok-step.step in
    let refused : first ≡ Some c.in-Err-Refused.field-0-0 =
    subst (λ (f : StepFault). IsAnswer {A = Unit {0}} (Err f) first) c.in-Err-Refused.field-0-is (c.in-Err-Refused.ensures.refused ss ran) in
    let here = subst (λ (v : ViewOf g). refusal_of (r.system v.network).net (r.system v.network).meaning (world_of (r.system v.network) ss) c.in_ok-step.step ≡ Some c.in-Err-Refused.field-0-0) same refused in
    cc (none, here)

pub see-requires-clause-within : goal.see-requires-clause-within
see-requires-clause-within g c =
    let r = g.W.Network in
    let was = c.requires.allowed.made in
    let ss = c.requires.allowed.steps in
    let same = c.self-2.view_is ∙ c.in_ok-step.ensures.rest in
    let sys = r.system c.args.self.now.network in
    let none : refusal_of sys.net sys.meaning (world_of sys ss) c.in_ok-step.step ≡ None =
    ap (refusal_of sys.net sys.meaning (world_of sys ss)) (c.in_ok-step.ensures.made ss was) ∙ c.requires.allowed.allowed in
    let within = taken-within sys.net sys.meaning (world_of sys ss) c.args.self.now.flights was.flights c.in_ok-step.step none in
    let system : r.system c.forget_trace.new.self ≡ sys = c.forget_trace.ensures.system ∙ (c.in-Ok.ensures.system ∙ ap (λ (v : ViewOf g). r.system v.network) same) in
    let flights : c.self-2.inside.flights ≡ c.args.self.now.flights = ap (λ (v : ViewOf g). v.flights) same in
    subst (λ (f : Flights). IsWithin (r.system c.forget_trace.new.self).meaning.nodes f c.in_ok-step.step) (sym flights)
    (subst (λ (x : SystemOf g). IsWithin x.meaning.nodes c.args.self.now.flights c.in_ok-step.step) (sym system) within)

pub see-requires-clause-turn : goal.see-requires-clause-turn
see-requires-clause-turn g c =
    let r = g.W.Network in
    let was = c.requires.allowed.made in
    let ss = c.requires.allowed.steps in
    let same = c.self-2.view_is ∙ c.in_ok-step.ensures.rest in
    let sys = r.system c.args.self.now.network in
    let none : refusal_of sys.net sys.meaning (world_of sys ss) c.in_ok-step.step ≡ None =
    ap (refusal_of sys.net sys.meaning (world_of sys ss)) (c.in_ok-step.ensures.made ss was) ∙ c.requires.allowed.allowed in
    let turns : c.self-2.inside.turns ≡ c.args.self.now.turns = ap (λ (v : ViewOf g). v.turns) same in
    subst (λ (o : Option (List (Option (ℕ × ℕ)))). IsInTurn o c.in_ok-step.step) (sym turns)
    (taken-in-turn sys.net sys.meaning (world_of sys ss) c.args.self.now.turns was.turns c.in_ok-step.step none)

pub see_sent-requires-clause-sound : goal.see_sent-requires-clause-sound
see_sent-requires-clause-sound g c = subst g.W.Network.sound (sym c.see.ensures.network) (c.forget_trace.ensures.sound c.in-Ok.ensures.sound)

pub see_sent-requires-clause-followed : goal.see_sent-requires-clause-followed
see_sent-requires-clause-followed g c =
    let r = g.W.Network in
    let was = c.requires.allowed.made in
    let ss = c.requires.allowed.steps in
    let same = c.self-2.view_is ∙ c.in_ok-step.ensures.rest in
    let ran = subst (λ (v : ViewOf g). HasTaken (r.system v.network) r.follows r.progress ss v.network) (sym same) was.taken in
    let next = c.in-Ok.ensures.next ss ran in
    record {
      steps = ss ++ c.in_ok-step.step ∷ [];
      followed = subst (λ q. r.follows q (ss ++ c.in_ok-step.step ∷ [])) (sym c.see.ensures.network) (c.forget_trace.ensures.follows (ss ++ c.in_ok-step.step ∷ []) next.followed);
    }

pub see_sent-requires-clause-before : goal.see_sent-requires-clause-before
see_sent-requires-clause-before g c =
    let r = g.W.Network in
    let was = c.requires.allowed.made in
    let ss = c.requires.allowed.steps in
    let same = c.self-2.view_is ∙ c.in_ok-step.ensures.rest in
    let ran = subst (λ (v : ViewOf g). HasTaken (r.system v.network) r.follows r.progress ss v.network) (sym same) was.taken in
    let next = c.in-Ok.ensures.next ss ran in
    let follows = c.forget_trace.ensures.follows (ss ++ c.in_ok-step.step ∷ []) next.followed in
    let flights : c.self-2.inside.flights ≡ c.args.self.now.flights = ap (λ (v : ViewOf g). v.flights) same in
    let first = subst (λ (v : ViewOf g). r.follows v.network ss) (sym c.self.view_is) was.taken.followed in
    ap (λ (f : Flights). length f.packets) (c.see.ensures.seen (ss ++ c.in_ok-step.step ∷ []) follows)
    ∙ length-seen (world_of (r.system c.forget_trace.new.self) (ss ++ c.in_ok-step.step ∷ [])) c.in_ok-step.step c.self-2.inside.flights
    ∙ ap (λ (f : Flights). length f.packets) flights
    ∙ ap length was.flights.packets ∙ length-flights (world_of (r.system c.args.self.now.network) ss).packets
    ∙ sym (c.sent-before.ensures ss first ∙ ap (λ (v : ViewOf g). length (world_of (r.system v.network) ss).packets) c.self.view_is)

pub see_sent-requires-clause-turns : goal.see_sent-requires-clause-turns
see_sent-requires-clause-turns g c =
    let r = g.W.Network in
    let s = c.in_ok-step.step in
    let v0 = c.args.self.now in
    let was = c.requires.allowed.made in
    let ss = c.requires.allowed.steps in
    let sys = r.system v0.network in
    let same = c.self-2.view_is ∙ c.in_ok-step.ensures.rest in
    let ran = subst (λ (v : ViewOf g). HasTaken (r.system v.network) r.follows r.progress ss v.network) (sym same) was.taken in
    let none : refusal_of sys.net sys.meaning (world_of sys ss) s ≡ None =
    ap (refusal_of sys.net sys.meaning (world_of sys ss)) (c.in_ok-step.ensures.made ss was) ∙ c.requires.allowed.allowed in
    let next = c.in-Ok.ensures.next ss ran in
    let follows = c.forget_trace.ensures.follows (ss ++ s ∷ []) next.followed in
    let after : r.system c.forget_trace.new.self ≡ sys =
    c.forget_trace.ensures.system ∙ (c.in-Ok.ensures.system ∙ ap (λ (v : ViewOf g). r.system v.network) same) in
    let is : c.see.new.self.turns ≡ seen_in_order (world_of sys (ss ++ s ∷ [])) s v0.turns =
    c.see.ensures.in_order (ss ++ s ∷ []) follows
    ∙ ap (λ (x : SystemOf g). seen_in_order (world_of x (ss ++ s ∷ [])) s c.self-2.inside.turns) after
    ∙ ap (λ (v : ViewOf g). seen_in_order (world_of sys (ss ++ s ∷ [])) s v.turns) same in
    let first = subst (λ (v : ViewOf g). r.follows v.network ss) (sym c.self.view_is) was.taken.followed in
    let before = c.sent-before.ensures ss first ∙ ap (λ (v : ViewOf g). length (world_of (r.system v.network) ss).packets) c.self.view_is in
    turns-before sys ss s v0.turns c.see.new.self.turns was.turns none is c.sent-before.result (before ∙ sym (length-after sys.recovery (world_of sys ss) s))

pub returns-clause-next : goal.returns-clause-next
returns-clause-next g c = λ ss was.
    let r = g.W.Network in
    let s = c.in_ok-step.step in
    let v0 = c.args.self.now in
    let sys = r.system v0.network in
    let same = c.self-2.view_is ∙ c.in_ok-step.ensures.rest in
    let ran = subst (λ (v : ViewOf g). HasTaken (r.system v.network) r.follows r.progress ss v.network) (sym same) was.taken in
    let none : refusal_of sys.net sys.meaning (world_of sys ss) s ≡ None =
    subst (λ (v : ViewOf g). refusal_of (r.system v.network).net (r.system v.network).meaning (world_of (r.system v.network) ss) s ≡ None) same (c.in-Ok.ensures.refused ss ran) in
    let next = c.in-Ok.ensures.next ss ran in
    let here : r.system c.self-2.inside.network ≡ sys = ap (λ (v : ViewOf g). r.system v.network) same in
    let after : r.system c.forget_trace.new.self ≡ sys = c.forget_trace.ensures.system ∙ (c.in-Ok.ensures.system ∙ here) in
    let flights : c.self-2.inside.flights ≡ v0.flights = ap (λ (v : ViewOf g). v.flights) same in
    let follows = c.forget_trace.ensures.follows (ss ++ s ∷ []) next.followed in
    let forgot : HasTaken (r.system c.self-2.inside.network) r.follows r.progress (ss ++ s ∷ []) c.forget_trace.new.self = record {
      followed = follows;
      allowed = next.allowed;
      counted = ap (λ (p : Progress g.row.H-Input.Denot g.row.H-Output.Denot). p.taken) c.forget_trace.ensures.forgets ∙ next.counted;
    } in
    let run_is : c.see_sent.new.self.network ≡ c.forget_trace.new.self = c.in_ok-see_sent.ensures.network ∙ c.see.ensures.network in
    let f1 = c.see.new.self.flights in
    let is : f1 ≡ seen (world_of sys (ss ++ s ∷ [])) s v0.flights =
    c.see.ensures.seen (ss ++ s ∷ []) follows
    ∙ ap (λ (x : SystemOf g). seen (world_of x (ss ++ s ∷ [])) s c.self-2.inside.flights) after
    ∙ ap (λ (f : Flights). seen (world_of sys (ss ++ s ∷ [])) s f) flights in
    let first = subst (λ (v : ViewOf g). r.follows v.network ss) (sym c.self.view_is) was.taken.followed in
    let many : length f1.packets ≡ c.sent-before.result =
    ap (λ (f : Flights). length f.packets) is ∙ length-seen (world_of sys (ss ++ s ∷ [])) s v0.flights
    ∙ ap length was.flights.packets ∙ length-flights (world_of sys ss).packets
    ∙ sym (c.sent-before.ensures ss first ∙ ap (λ (v : ViewOf g). length (world_of (r.system v.network) ss).packets) c.self.view_is) in
    let fly = fly-on sys c.requires.nodes ss s v0.flights f1 was.flights none is c.sent-before.result many in
    let so-far = was-so-far sys c.requires.nodes ss s v0.flights f1 was.flights none is c.sent-before.result many in
    let saw1 = saw sys c.requires.nodes ss s v0.flights f1 was.flights none is in
    let at : r.system c.see.new.self.network ≡ sys = ap r.system c.see.ensures.network ∙ after in
    let followed = subst (λ q. r.follows q (ss ++ s ∷ [])) (sym c.see.ensures.network) follows in
    let packets = subst (λ (x : SystemOf g). AreInFlightFrom c.sent-before.result (world_of x (ss ++ s ∷ [])).packets
    → f1.packets ≡ take c.sent-before.result (flights_of (world_of x (ss ++ s ∷ [])).packets)
    → c.see_sent.new.self.flights.packets ≡ flights_of (world_of x (ss ++ s ∷ [])).packets) at (c.in_ok-see_sent.ensures.packets (ss ++ s ∷ []) followed) fly so-far in
    let in-order : c.see.new.self.turns ≡ seen_in_order (world_of sys (ss ++ s ∷ [])) s v0.turns =
    c.see.ensures.in_order (ss ++ s ∷ []) follows
    ∙ ap (λ (x : SystemOf g). seen_in_order (world_of x (ss ++ s ∷ [])) s c.self-2.inside.turns) after
    ∙ ap (λ (v : ViewOf g). seen_in_order (world_of sys (ss ++ s ∷ [])) s v.turns) same in
    let sent-before = c.sent-before.ensures ss first ∙ ap (λ (v : ViewOf g). length (world_of (r.system v.network) ss).packets) c.self.view_is
    ∙ sym (length-after sys.recovery (world_of sys ss) s) in
    let turns = subst (λ (x : SystemOf g). AreInFlightFrom c.sent-before.result (world_of x (ss ++ s ∷ [])).packets
    → c.see.new.self.turns ≡ turns_of sys.net (take c.sent-before.result (world_of x (ss ++ s ∷ [])).packets)
    → c.see_sent.new.self.turns ≡ turns_of sys.net (world_of x (ss ++ s ∷ [])).packets) at (c.in_ok-see_sent.ensures.in_order sys.net (ss ++ s ∷ []) followed) fly
    (turns-so-far sys ss s v0.turns c.see.new.self.turns was.turns none in-order c.sent-before.result sent-before) in
    record {
      turns = knows-turns-more sys ss s v0.turns c.see.new.self.turns was.turns none in-order c.see_sent.new.self.turns turns;
      taken = subst (λ q. HasTaken sys r.follows r.progress (ss ++ s ∷ []) q) (sym run_is)
          (subst (λ (x : SystemOf g). HasTaken x r.follows r.progress (ss ++ s ∷ []) c.forget_trace.new.self) here forgot);
      flights = knows-more sys c.requires.nodes ss s v0.flights f1 was.flights none is c.see_sent.new.self.flights packets
          (c.in_ok-see_sent.ensures.within saw1.within) c.see_sent.ensures.up;
    }
