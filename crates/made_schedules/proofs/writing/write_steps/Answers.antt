use Rattle.std.proofs.Common.{◌≡◌, ◌+◌, ◌-◌, ◌++◌, ◌∷◌, [], suc, sym, ap, subst, ◌∙◌, arith}
use Rattle.std.proofs.lemmas.Result.{err_from_is_err_and}
use Rattle.xform_stack.specs.Systems.{System}
use Rattle.schedule_make.specs.Making.{CanStep, HasMade, step_after}
use Rattle.made_schedules.proofs.Written.{can-step, front-line, front-so-far, written-more}
use Rattle.made_schedules.proofs.writing.write_steps.Given as given
use Rattle.made_schedules.proofs.writing.write_steps.Goals as goal

abbrev SystemOf : given.Over → Type 0
SystemOf g = System g.row.H-State.Denot g.row.W-Kept.Denot g.row.H-Input.Denot g.row.H-Output.Denot g.row.H-Msg.Denot

pub step-requires-clause-allowed : goal.step-requires-clause-allowed
step-requires-clause-allowed g c =
    let r = g.W.Network in
    let inv = c.loop.invariant in
    let n = c.args.steps - (c.loop.counter + 1) in
    let e : c.args.steps - c.loop.counter ≡ suc n = omega (arith, c.loop-test.true) in
    subst (λ (x : SystemOf g). CanStep x r.follows r.progress g.T.MakesInputs.inputs c.loop.making) (sym inv.system)
    (can-step (r.system c.args.making.now.network) r.follows r.progress g.T.MakesInputs.inputs g.A.AppText.input_text c.args.seed c.args.steps (g.K.Sink.written c.args.sink.now)
    (c.args.steps - c.loop.counter) n c.loop.making (g.K.Sink.written c.loop.sink) e inv.written)

pub returns-in_err-step-clause-err : goal.returns-in_err-step-clause-err
returns-in_err-step-clause-err g c =
    let r = g.W.Network in
    let p = err_from_is_err_and c.from_residual.result c.from_residual.ensures.1 in
    rw p.1 (front-so-far (r.system c.args.making.now.network) r.follows r.progress g.T.MakesInputs.inputs g.A.AppText.input_text c.args.seed c.args.steps (g.K.Sink.written c.args.sink.now)
    (c.args.steps - c.loop.counter) c.loop.making (g.K.Sink.written c.loop.sink) c.loop.invariant.written)

pub returns-in_err-print_step-clause-err : goal.returns-in_err-print_step-clause-err
returns-in_err-print_step-clause-err g c =
    let r = g.W.Network in
    let inv = c.loop.invariant in
    let w = inv.written in
    let n = c.args.steps - (c.loop.counter + 1) in
    let e : c.args.steps - c.loop.counter ≡ suc n = omega (arith, c.loop-test.true) in
    let p = err_from_is_err_and c.from_residual-in_err-print_step.result c.from_residual-in_err-print_step.ensures.1 in
    let had = subst (λ (x : SystemOf g). HasMade x r.follows r.progress w.steps c.loop.making) (sym inv.system) w.made in
    let is = c.in_ok-step.ensures.made w.steps had ∙ ap (λ (x : SystemOf g). step_after x g.T.MakesInputs.inputs w.steps c.loop.making.random) inv.system in
    rw p.1 (front-line (r.system c.args.making.now.network) r.follows r.progress g.T.MakesInputs.inputs g.A.AppText.input_text c.args.seed c.args.steps (g.K.Sink.written c.args.sink.now)
    (c.args.steps - c.loop.counter) n c.loop.making (g.K.Sink.written c.loop.sink) (g.K.Sink.written c.print_step.new.sink) c.in_ok-step.step e w is c.in_err-print_step.ensures.err)

pub loop-preserved : goal.loop-preserved
loop-preserved g c =
    let r = g.W.Network in
    let inv = c.loop.invariant in
    let w = inv.written in
    let n = c.args.steps - (c.loop.counter + 1) in
    let e : c.args.steps - c.loop.counter ≡ suc n = omega (arith, c.loop-test.true) in
    let had = subst (λ (x : SystemOf g). HasMade x r.follows r.progress w.steps c.loop.making) (sym inv.system) w.made in
    let is = c.in_ok-step.ensures.made w.steps had ∙ ap (λ (x : SystemOf g). step_after x g.T.MakesInputs.inputs w.steps c.loop.making.random) inv.system in
    let made = subst (λ (x : SystemOf g). HasMade x r.follows r.progress (w.steps ++ c.in_ok-step.step ∷ []) c.step.new.self) inv.system (c.in_ok-step.ensures.next w.steps had) in
    record {
      system = c.in_ok-step.ensures.system ∙ inv.system;
      sound = c.in_ok-step.ensures.sound;
      written = written-more (r.system c.args.making.now.network) r.follows r.progress g.T.MakesInputs.inputs g.A.AppText.input_text c.args.seed c.args.steps (g.K.Sink.written c.args.sink.now)
          (c.args.steps - c.loop.counter) n c.loop.making c.step.new.self (g.K.Sink.written c.loop.sink) (g.K.Sink.written c.print_step.new.sink) c.in_ok-step.step e w is made c.in_ok-step.ensures.random
          c.in_ok-print_step.ensures.ok;
      faults = c.in_ok-print_step.ensures.quiet.0 ∙ inv.faults;
      wants = c.in_ok-print_step.ensures.quiet.1 ∙ inv.wants;
    }
