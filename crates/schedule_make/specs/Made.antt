-- A schedule that is made from a number: each step by three random words, in the world that the steps before it make.
use Rattle.std.specs.Prelude.{ℕ, zero, suc, ◌+◌, List, [], ◌∷◌}
use Rattle.handler_trait.specs.Handling.{Meaning, Recovery}
use Rattle.net_semantics.specs.Steps.{next}
use Rattle.net_semantics.specs.Worlds.{World, first_world}
use Rattle.rand_pcg.specs.Lcg.{Lcg, started, increment_of}
use Rattle.rand_pcg.specs.Pcg.{multiplier_64, pcg32}
use Rattle.vst_base.specs.declared.net.Net.{Net}
use Rattle.vst_base.specs.declared.step.Step.{Step}
use Rattle.vst_base.specs.declared.step.Step.TheVariants as step
use Rattle.vst_base.specs.declared.step.StepKind.{StepKind}
use Rattle.vst_base.specs.declared.step.StepKind.TheVariants as kind
use Rattle.schedule_make.specs.Candidates.{candidates, chosen, drawn_kind, made_kind}
use Rattle.schedule_make.specs.declared.words.Words.{Words}

-- the generator of a schedule, from its number
abbrev pub generator : ℕ → Lcg
generator seed = started 64 multiplier_64 seed (increment_of 64 1)

-- the next three words, and the generator after them
abbrev pub words_of : Lcg → Words
words_of g = record { kind = (pcg32 g).0; number = (pcg32 (pcg32 g).1).0; input = (pcg32 (pcg32 (pcg32 g).1).1).0 }

abbrev pub after_words : Lcg → Lcg
after_words g = (pcg32 (pcg32 (pcg32 g).1).1).1

-- the step of this kind at this node or of this packet
abbrev pub step_of : {I : Type 0} → I → StepKind → ℕ → Step I
step_of input kind.In n = step.In n input
step_of input kind.Deliver k = step.Deliver k
step_of input kind.Tick n = step.Tick n
step_of input kind.Dup k = step.Dup k
step_of input kind.Lose k = step.Lose k
step_of input kind.Crash n = step.Crash n
step_of input kind.Reboot n = step.Reboot n

-- how inputs are made: from a random word and the step's place in the schedule
abbrev pub Inputs : Type 0 → Type 0
Inputs I = ℕ → ℕ → I

-- the step of these words at this place of the schedule, in this world
abbrev pub made_step : {S K I O M : Type 0} → Net → Meaning S I O M → Inputs I → World S K M → ℕ → Words → Step I
made_step net m inputs w place words =
    let k = made_kind net m w (drawn_kind words.kind) in
    step_of (inputs words.input place) k (chosen (candidates net m w k) words.number)

-- so many steps from this place on
abbrev pub made_from : {S K I O M : Type 0} → Net → Meaning S I O M → Recovery S K → Inputs I → World S K M → ℕ → Lcg → ℕ → List (Step I)
made_from net m r inputs w place g zero = []
made_from net m r inputs w place g (suc steps) =
    made_step net m inputs w place (words_of g)
    ∷ made_from net m r inputs (next m r w (made_step net m inputs w place (words_of g))) (place + 1) (after_words g) steps

-- the schedule of this number
abbrev pub made : {S K I O M : Type 0} → Net → Meaning S I O M → Recovery S K → Inputs I → ℕ → ℕ → List (Step I)
made net m r inputs seed steps = made_from net m r inputs (first_world m) 0 (generator seed) steps
