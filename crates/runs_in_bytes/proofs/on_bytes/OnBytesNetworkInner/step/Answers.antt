use Rattle.handler_trait.specs.Facts.{rebootable_facts}
use Rattle.runs_in_bytes.proofs.WorldOnBytes.{next_taken, sound_more, trace_taken}
use Rattle.runs_in_bytes.proofs.on_bytes.OnBytesNetworkInner.step.Goals as goal

pub returns-clause-next : goal.returns-clause-next
returns-clause-next g c =
    let b = g.H.OnBytesAlone in
    let sound = rw (← c.self.view_is) at c.requires.sound in
    let steps = rw (← c.self.view_is) at c.requires.steps in
    rw (← c.self.view_is) (next_taken b.has_bytes b.is_own g.H.Handlers.meaning g.H.Rebootable.recovery (λ h. g.H.Inner.Handlers.meaning (b.within h)) b.within_recovery b.byte_world c.run_on_bytes_alone.ensures c.self.inside.world c.step.new.self sound.own c.args.step.now c.has_bytes.ensures steps
    c.step.ensures.handlers c.step.result c.step.ensures.refused c.step.ensures.next c.step.ensures.taken)

pub returns-clause-trace : goal.returns-clause-trace
returns-clause-trace g c =
    let b = g.H.OnBytesAlone in
    let sound = rw (← c.self.view_is) at c.requires.sound in
    let steps = rw (← c.self.view_is) at c.requires.steps in
    rw (← c.self.view_is) (trace_taken b.has_bytes b.is_own g.H.Handlers.meaning g.H.Rebootable.recovery (λ h. g.H.Inner.Handlers.meaning (b.within h)) b.within_recovery b.byte_world c.run_on_bytes_alone.ensures c.self.inside.world c.step.new.self sound.own c.args.step.now c.has_bytes.ensures steps
    c.step.ensures.handlers c.step.result c.step.ensures.refused c.step.ensures.trace)

pub returns-clause-sound : goal.returns-clause-sound
returns-clause-sound g c =
    let sound = rw (← c.self.view_is) at c.requires.sound in
    sound_more g.H.OnBytesAlone.is_own (rebootable_facts g.H.Handlers g.H.Rebootable) c.step.result c.self.inside.world c.step.new.self c.args.step.now sound c.step.ensures.handlers
    c.step.ensures.next c.step.ensures.sound
