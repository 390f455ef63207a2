-- Runs of a schedule, which schedules a network allows, and traces.
use Rattle.std.specs.Prelude.{◌≡◌, ℕ, suc, ◌==◌, List, [], ◌∷◌, ◌++◌, Option, Some, None, option_map}
use Rattle.handler_trait.specs.Handling.{Meaning, Recovery}
use Rattle.vst_base.specs.Machines.{MachineMeaning, fold, outputs_from}
use Rattle.vst_base.specs.declared.net.Net.{Net}
use Rattle.vst_base.specs.declared.step.Step.{Step}
use Rattle.vst_base.specs.declared.step.Item.{Item}
use Rattle.vst_base.specs.declared.step.Item.TheVariants as item
use Rattle.vst_base.specs.declared.step.StepRefusal.{StepRefusal}
use Rattle.net_semantics.specs.Worlds.{World, first_world}
use Rattle.net_semantics.specs.Steps.{next, refusal_of, items_of}

-- the world after these steps
abbrev pub run_from : {S K I O M : Type 0} → Meaning S I O M → Recovery S K → World S K M → List (Step I) → World S K M
run_from m r w [] = w
run_from m r w (s ∷ ss) = run_from m r (next m r w s) ss

-- what clients see of these steps
abbrev pub trace_from : {S K I O M : Type 0} → Meaning S I O M → Recovery S K → World S K M → List (Step I) → List (Item I O)
trace_from m r w [] = []
trace_from m r w (s ∷ ss) = items_of m w s ++ trace_from m r (next m r w s) ss

-- a step that is refused: its place, from 0, and why
abbrev pub place_and_why : Option StepRefusal → Option (ℕ × StepRefusal) → Option (ℕ × StepRefusal)
place_and_why (Some why) later = Some (0, why)
place_and_why None later = option_map (λ p. (suc p.0, p.1)) later

-- the first step that is refused, in the world that the steps before it make
abbrev pub first_refused_from : {S K I O M : Type 0} → Net → Meaning S I O M → Recovery S K → World S K M → List (Step I) → Option (ℕ × StepRefusal)
first_refused_from net m r w [] = None
first_refused_from net m r w (s ∷ ss) = place_and_why (refusal_of net m w s) (first_refused_from net m r (next m r w s) ss)

-- the same from the first world on
abbrev pub run : {S K I O M : Type 0} → Meaning S I O M → Recovery S K → List (Step I) → World S K M
run m r ss = run_from m r (first_world m) ss

abbrev pub trace : {S K I O M : Type 0} → Meaning S I O M → Recovery S K → List (Step I) → List (Item I O)
trace m r ss = trace_from m r (first_world m) ss

abbrev pub first_refused : {S K I O M : Type 0} → Net → Meaning S I O M → Recovery S K → List (Step I) → Option (ℕ × StepRefusal)
first_refused net m r ss = first_refused_from net m r (first_world m) ss

-- the network allows the schedule: no step of it is refused
abbrev pub IsAllowed : {S K I O M : Type 0} → Net → Meaning S I O M → Recovery S K → List (Step I) → Type 0
IsAllowed net m r ss = first_refused net m r ss ≡ None

-- handlers that are never asked to stop: what a node keeps is its state
abbrev pub no_recovery : {S : Type 0} → Recovery S S
no_recovery = record { keep = λ s. s; reboot = λ n k. k }

-- a machine as handlers at one node, which takes every input and sends nothing
abbrev pub machine : {S C O : Type 0} → MachineMeaning S C O → Meaning S C O ⊥
machine m = record {
  nodes = 1;
  takes_input = λ n. n == 0;
  init = λ n. m.init;
  input = λ n s c. record { state = (m.apply s c).0; outputs = (m.apply s c).1 ∷ []; sends = [] };
  message = λ n s from c. record { state = s; outputs = []; sends = [] };
  timeout = λ n s. record { state = s; outputs = []; sends = [] };
}

-- each command of a single node, followed by its output
abbrev pub answered : {C O : Type 0} → List C → List O → List (Item C O)
answered [] os = []
answered (c ∷ cs) [] = []
answered (c ∷ cs) (o ∷ os) = item.Input 0 c ∷ item.Output 0 o ∷ answered cs os

-- the trace of a single machine from a state on, and from its first state
abbrev pub machine_trace_from : {S C O : Type 0} → MachineMeaning S C O → S → List C → List (Item C O)
machine_trace_from m s cs = answered cs (outputs_from m s cs)

abbrev pub machine_trace : {S C O : Type 0} → MachineMeaning S C O → List C → List (Item C O)
machine_trace m cs = answered cs (fold m cs)

-- the outputs that clients see, in order
abbrev pub outputs_in : {I O : Type 0} → List (Item I O) → List O
outputs_in [] = []
outputs_in (item.Input n i ∷ items) = outputs_in items
outputs_in (item.Output n o ∷ items) = o ∷ outputs_in items
