use Rattle.std.proofs.Common.{sym, ◌∙◌}
use Rattle.vst_base.specs.declared.step.StepKind.TheVariants as kind
use Rattle.xform_stack.specs.Systems.{world_of}
use Rattle.schedule_make.proofs.Offers.{made_rest, made_tick, offered_none, offered_some}
use Rattle.schedule_make.proofs.drawing.settled.Goals as goal

pub returns-in-Some-2-clause-kind : goal.returns-in-Some-2-clause-kind
returns-in-Some-2-clause-kind g c = λ ss follows knows turns.
    let sys = g.W.Network.system c.args.network.now in
    let w = world_of sys ss in
    sym (made_tick sys.net sys.meaning w c.args.drawn
    (offered_none sys.net sys.meaning w c.args.drawn c.args.number (sym (c.in_ok-at.ensures ss follows knows turns) ∙ c.in_default.is))
    (offered_some sys.net sys.meaning w kind.Tick c.args.number c.in-Some-2.at (sym (c.in_ok-at-2.ensures ss follows knows turns) ∙ c.in-Some-2.is)).0)

pub returns-in-Some-2-clause-chosen : goal.returns-in-Some-2-clause-chosen
returns-in-Some-2-clause-chosen g c = λ ss follows knows turns.
    let sys = g.W.Network.system c.args.network.now in
    (offered_some sys.net sys.meaning (world_of sys ss) kind.Tick c.args.number c.in-Some-2.at (sym (c.in_ok-at-2.ensures ss follows knows turns) ∙ c.in-Some-2.is)).1

pub returns-clause-kind : goal.returns-clause-kind
returns-clause-kind g c = λ ss follows knows turns.
    let sys = g.W.Network.system c.args.network.now in
    let w = world_of sys ss in
    sym (made_rest sys.net sys.meaning w c.args.drawn
    (offered_none sys.net sys.meaning w c.args.drawn c.args.number (sym (c.in_ok-at.ensures ss follows knows turns) ∙ c.in_default.is))
    (offered_none sys.net sys.meaning w kind.Tick c.args.number (sym (c.in_ok-at-2.ensures ss follows knows turns) ∙ c.in_default-2.is)))
