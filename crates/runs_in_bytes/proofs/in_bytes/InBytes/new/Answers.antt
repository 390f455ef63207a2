use Rattle.std.proofs.Common.{refl, ◌∙◌}
use Rattle.net_semantics.specs.Worlds.{first_world}
use Rattle.wired.specs.Wiring.{wired}
use Rattle.runs_in_bytes.proofs.WorldInBytes.{followed_none, owned}
use Rattle.runs_in_bytes.proofs.in_bytes.InBytes.new.Goals as goal

pub returns-clause-started : goal.returns-clause-started
returns-clause-started g c =
    let world = c.in_ok-world.world in
    let meaning = g.H.Handlers.meaning in
    let made = c.in_ok-world.ensures.handlers in
    let own = owned g.H.Msg.Wire.format g.H.OnWire.has_bytes g.H.OnWire.longest meaning c.args.handlers c.args.stack world.handlers (made ∙ c.new.ensures) c.no_name.ensures
    c.requires.few_nodes c.requires.packets c.requires.format c.requires.short in
    record {
      followed = followed_none g.H.Msg.Wire.format g.H.OnWire.has_bytes g.H.OnWire.longest meaning c.runs_as_bytes.ensures world own c.new.result made c.in_ok-world.ensures.first;
      allowed = refl;
      counted = c.in_ok-world.ensures.taken;
    }

pub returns-clause-sound : goal.returns-clause-sound
returns-clause-sound g c =
    let world = c.in_ok-world.world in
    let meaning = g.H.Handlers.meaning in
    let f = g.H.Msg.Wire.format in
    let made = c.in_ok-world.ensures.handlers in
    record {
      own = owned f g.H.OnWire.has_bytes g.H.OnWire.longest meaning c.args.handlers c.args.stack world.handlers (made ∙ c.new.ensures) c.no_name.ensures
          c.requires.few_nodes c.requires.packets c.requires.format c.requires.short;
      world = c.in_ok-world.ensures.sound;
      shown = first_world (wired f c.new.result.stack c.new.result.name (meaning c.new.result.inner));
      shows = c.in_ok-world.ensures.first;
    }
