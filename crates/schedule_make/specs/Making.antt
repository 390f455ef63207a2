-- A schedule in the making.
use Rattle.std.specs.Prelude.{◌≡◌, ℕ, List, length, Option, None}
use Rattle.flight_index.specs.Flights.{Flights}
use Rattle.rand_pcg.specs.Lcg.{Lcg}
use Rattle.net_semantics.specs.Steps.{refusal_of}
use Rattle.vst_base.specs.declared.step.Step.{Step}
use Rattle.xform_stack.specs.Running.{HasTaken, Progress}
use Rattle.xform_stack.specs.Systems.{System, world_of}
use Rattle.schedule_make.specs.Flying.{KnowsFlights, KnowsTurns}
use Rattle.schedule_make.specs.Made.{Inputs, made_step, words_of}

-- the network, the packets in flight in it, those of a network that keeps their order, and the random words to come
pub record MakingView (W : Type 0) : Type 0 where
  pub network : W
  pub flights : Flights
  pub turns : Option (List (Option (ℕ × ℕ)))
  pub random : Lcg

-- the step that is made after these, from these random words on
abbrev pub step_after : {S K I O M : Type 0} → System S K I O M → Inputs I → List (Step I) → Lcg → Step I
step_after sys inputs ss random = made_step sys.net sys.meaning inputs (world_of sys ss) (length ss) (words_of random)

-- these steps were taken, and of the packets in flight all is known
pub record HasMade {W S K I O M : Type 0} (sys : System S K I O M) (follows : W → List (Step I) → Type 0) (progress : W → Progress I O)
    (ss : List (Step I)) (v : MakingView W) : Type 0 where
  pub taken : HasTaken sys follows progress ss v.network
  pub flights : KnowsFlights v.flights (world_of sys ss)
  pub turns : KnowsTurns sys.net v.turns (world_of sys ss)

-- some steps were, and the network allows the one that is made next
pub record CanStep {W S K I O M : Type 0} (sys : System S K I O M) (follows : W → List (Step I) → Type 0) (progress : W → Progress I O)
    (inputs : Inputs I) (v : MakingView W) : Type 0 where
  pub steps : List (Step I)
  pub made : HasMade sys follows progress steps v
  pub allowed : refusal_of sys.net sys.meaning (world_of sys steps) (step_after sys inputs steps v.random) ≡ None

-- a network has followed some steps
pub record HasFollowed {W I : Type 0} (follows : W → List (Step I) → Type 0) (w : W) : Type 0 where
  pub steps : List (Step I)
  pub followed : follows w steps
