use Rattle.std.proofs.Common.{[], Option, Some, None, IfSome, refl}
use Rattle.net_semantics.specs.Steps.{event_of}
use Rattle.net_semantics.specs.Runs.{run}
use Rattle.vst_base.specs.declared.step.Step.TheVariants as step
use Rattle.act_network.specs.Cells.{all_kept, summing}
use Rattle.act_network.proofs.examples.worked_premises.Goals as goal

always : {X : Type 0} (o : Option X) → IfSome o (λ x. Unit {0})
always None = tt
always (Some x) = tt

pub returns-clause-kept : goal.returns-clause-kept
returns-clause-kept g = record { fresh = λ n. record { durable = refl; read = refl }; keeps = λ n k. refl }

pub returns-clause-not_kept : goal.returns-clause-not_kept
returns-clause-not_kept g h = let e = h.keeps 0 0 in cc

pub returns-clause-can_save : goal.returns-clause-can_save
returns-clause-can_save g ss s allowed = always (event_of summing (run summing all_kept ss) s)

pub returns-clause-cannot_save : goal.returns-clause-cannot_save
returns-clause-cannot_save g h = h [] (step.Tick 0) refl

pub returns-clause-begins_a_turn : goal.returns-clause-begins_a_turn
returns-clause-begins_a_turn g h = h.1.1
