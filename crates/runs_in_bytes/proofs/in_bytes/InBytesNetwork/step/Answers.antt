use Rattle.runs_in_bytes.proofs.WorldInBytes.{next_taken, refused_next, sound_more, trace_taken}
use Rattle.runs_in_bytes.proofs.in_bytes.InBytesNetwork.step.Goals as goal

pub returns-clause-refused : goal.returns-clause-refused
returns-clause-refused g c = λ ss had.
    let before = rw (← c.self.view_is) at had in
    let sound = rw (← c.self.view_is) at c.requires.sound in
    let steps = rw (← c.self.view_is) at c.requires.steps in
    rw (← c.self.view_is) (refused_next g.H.Msg.Wire.format g.H.OnWire.has_bytes g.H.OnWire.longest g.H.Handlers.meaning c.runs_as_bytes.ensures c.self.inside.world c.step.new.self sound.own
    c.args.step.now c.has_bytes.ensures steps c.step.ensures.handlers c.step.ensures.net c.step.result c.step.ensures.refused ss before)

pub returns-clause-next : goal.returns-clause-next
returns-clause-next g c =
    let sound = rw (← c.self.view_is) at c.requires.sound in
    let steps = rw (← c.self.view_is) at c.requires.steps in
    rw (← c.self.view_is) (next_taken g.H.Msg.Wire.format g.H.OnWire.has_bytes g.H.OnWire.longest g.H.Handlers.meaning c.runs_as_bytes.ensures c.self.inside.world c.step.new.self sound.own
    c.args.step.now c.has_bytes.ensures steps c.step.ensures.handlers c.step.ensures.net c.step.result c.step.ensures.refused c.step.ensures.next c.step.ensures.taken)

pub returns-clause-trace : goal.returns-clause-trace
returns-clause-trace g c =
    let sound = rw (← c.self.view_is) at c.requires.sound in
    let steps = rw (← c.self.view_is) at c.requires.steps in
    rw (← c.self.view_is) (trace_taken g.H.Msg.Wire.format g.H.OnWire.has_bytes g.H.OnWire.longest g.H.Handlers.meaning c.runs_as_bytes.ensures c.self.inside.world c.step.new.self sound.own
    c.args.step.now c.has_bytes.ensures steps c.step.ensures.handlers c.step.ensures.net c.step.result c.step.ensures.refused c.step.ensures.trace)

pub returns-clause-sound : goal.returns-clause-sound
returns-clause-sound g c =
    let sound = rw (← c.self.view_is) at c.requires.sound in
    sound_more g.H.Msg.Wire.format g.H.OnWire.longest g.H.Handlers c.step.result c.self.inside.world c.step.new.self c.args.step.now sound c.step.ensures.handlers c.step.ensures.next
    c.step.ensures.sound
