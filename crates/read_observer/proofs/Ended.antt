-- A refusal of a schedule is that of every longer one.
use Rattle.std.specs.Prelude.{List, ◌++◌}
use Rattle.vst_base.specs.declared.step.Step.{Step}
use Rattle.xform_stack.specs.Running.{IsRunRefusal}
use Rattle.xform_stack.specs.SystemLaws.{IsCausal}
use Rattle.xform_stack.specs.Systems.{Played}
use Rattle.xform_stack.specs.declared.ran.RunFault.{RunFault}
use Rattle.xform_stack.specs.declared.ran.RunFault.TheVariants as run_fault

pub refused-longer : {I O G : Type 0} (p : Played I O G) → IsCausal p → (ss ts : List (Step I)) (y : RunFault) → IsRunRefusal y (p.refused ss) → IsRunRefusal y (p.refused (ss ++ ts))
refused-longer p causal ss ts run_fault.Memory is = tt
refused-longer p causal ss ts (run_fault.Step why place) is = causal.refused ss ts (place, why) is
