use Rattle.std.proofs.Common.{◌≡◌, ℕ, [], ◌∷◌, refl, arith}
use Rattle.net_semantics.specs.Echo.{echo_after}
use Rattle.vst_base.specs.declared.step.Step.TheVariants as step
use Rattle.runs_in_bytes.proofs.examples.worked_worlds.Goals as goal

pub returns-clause-tells : goal.returns-clause-tells
returns-clause-tells c = record {
  nodes = refl;
  takes_input = λ n. refl;
  is_up = λ w n. refl;
  sent = λ w. refl;
  copies = λ w k. refl;
  ends = λ w k. refl;
}

pub returns-clause-not_of_another_node : goal.returns-clause-not_of_another_node
returns-clause-not_of_another_node c = λ h. let e : ◌≡◌ {A = ℕ} 3 2 = h.nodes in omega (arith, e)

pub returns-clause-not_without_packets : goal.returns-clause-not_without_packets
returns-clause-not_without_packets c = λ h. let e : ◌≡◌ {A = ℕ} 0 1 = h.sent (echo_after (step.In 1 5 ∷ [])) in omega (arith, e)
