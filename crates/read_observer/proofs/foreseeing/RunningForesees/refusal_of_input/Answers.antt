use Rattle.std.specs.Prelude.{length, option_map}
use Rattle.std.proofs.Common.{ap, sym, ◌∙◌}
use Rattle.vst_base.specs.declared.step.Step.TheVariants as step
use Rattle.vst_base.specs.declared.step.StepRefusal.{StepRefusal}
use Rattle.xform_stack.proofs.More.{first_refused-more}
use Rattle.read_observer.proofs.foreseeing.RunningForesees.refusal_of_input.Goals as goal

pub returns : goal.returns
returns g c = λ ss gone i had.
    let w = g.W.Network in
    let net = c.args.self.now.network in
    let refused = rw (c.network.ensures) at c.refusal_on.ensures in
    first_refused-more (w.system net) ss (step.In c.args.node i) had.allowed
    ∙ ap (option_map (λ (why : StepRefusal). (length ss, why))) (sym (refused ss i (record { followed = had.followed.0; allowed = had.allowed; counted = had.counted })))
