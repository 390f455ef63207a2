-- Which step a network of single acts refuses, and why.
use Rattle.std.specs.Prelude.{ℕ, Bool, not, List, [], ◌∷◌, ◌++◌, Option, Some, None, is_none}
use Rattle.handler_trait.specs.Handling.{Meaning}
use Rattle.vst_base.specs.Firsts.{first_of}
use Rattle.vst_base.specs.declared.net.Net.TheVariants as net
use Rattle.vst_base.specs.declared.step.Step.{Step}
use Rattle.vst_base.specs.declared.step.Step.TheVariants as step
use Rattle.vst_base.specs.declared.step.StepRefusal.{StepRefusal}
use Rattle.vst_base.specs.declared.step.StepRefusal.TheVariants as refusal
use Rattle.net_semantics.specs.Worlds.{ends}
use Rattle.net_semantics.specs.Steps.{destination_of, fails, refusals}
use Rattle.act_network.specs.declared.step.ActStep.{ActStep}
use Rattle.act_network.specs.declared.step.ActStep.TheVariants as act
use Rattle.act_network.specs.ActWorlds.{ActWorld, as_world}

-- The step of the network `fail` that is refused where this one is, but for the two refusals of acts: an act of a node names it and
-- needs it up as a tick does, and a stop as a crash does.
abbrev pub refused_as : {I X : Type 0} → ActStep I X → Step I
refused_as (act.In n i) = step.In n i
refused_as (act.Deliver k) = step.Deliver k
refused_as (act.Tick n) = step.Tick n
refused_as (act.Act n) = step.Tick n
refused_as (act.Dup k) = step.Dup k
refused_as (act.Lose k) = step.Lose k
refused_as (act.Stop n left) = step.Crash n
refused_as (act.Reboot n) = step.Reboot n

-- the node that goes on with its turn
abbrev pub goes_on_at : {I X : Type 0} → ActStep I X → Option ℕ
goes_on_at (act.In n i) = None
goes_on_at (act.Deliver k) = None
goes_on_at (act.Tick n) = None
goes_on_at (act.Act n) = Some n
goes_on_at (act.Dup k) = None
goes_on_at (act.Lose k) = None
goes_on_at (act.Stop n left) = None
goes_on_at (act.Reboot n) = None

module _ {S I O M D A X : Type 0} where
  -- the node that begins a turn
  abbrev pub begins_at : ActWorld S I O M D A X → ActStep I X → Option ℕ
  begins_at w (act.In n i) = Some n
  begins_at w (act.Deliver k) = destination_of (ends (as_world w) k)
  begins_at w (act.Tick n) = Some n
  begins_at w (act.Act n) = None
  begins_at w (act.Dup k) = None
  begins_at w (act.Lose k) = None
  begins_at w (act.Stop n left) = None
  begins_at w (act.Reboot n) = None

  abbrev pub is_idle : ActWorld S I O M D A X → ℕ → Bool
  is_idle w n = is_none (w.turn n)

  -- the refusals in their order, each with whether it applies: those of `fail`; a turn begins at a node in the middle of one; a node
  -- without a turn goes on
  abbrev pub act_refusals : Meaning S I O M → ActWorld S I O M D A X → ActStep I X → List (StepRefusal × Bool)
  act_refusals m w s =
      refusals net.Fail m (as_world w) (refused_as s)
      ++ (refusal.NodeBusy, fails (begins_at w s) (is_idle w))
      ∷ (refusal.NodeIdle, fails (goes_on_at s) (λ n. not (is_idle w n)))
      ∷ []

  -- the first that applies
  abbrev pub act_refusal : Meaning S I O M → ActWorld S I O M D A X → ActStep I X → Option StepRefusal
  act_refusal m w s = first_of (act_refusals m w s)
