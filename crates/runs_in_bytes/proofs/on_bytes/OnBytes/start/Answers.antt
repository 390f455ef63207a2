use Rattle.std.proofs.Common.{refl, sym, subst}
use Rattle.net_semantics.specs.Worlds.{first_world}
use Rattle.runs_in_bytes.proofs.WorldOnBytes.{followed_none}
use Rattle.runs_in_bytes.proofs.on_bytes.OnBytes.start.Goals as goal

pub returns-clause-started : goal.returns-clause-started
returns-clause-started g c =
    let b = g.H.OnBytesAlone in
    let world = c.in_ok-new.field-0 in
    record {
      followed = followed_none b.has_bytes b.is_own g.H.Handlers.meaning g.H.Rebootable.recovery (λ h. g.H.Inner.Handlers.meaning (b.within h)) b.within_recovery b.byte_world c.run_on_bytes_alone.ensures world c.args.handlers c.requires c.in_ok-new.ensures.handlers c.in_ok-new.ensures.first;
      allowed = refl;
      counted = c.in_ok-new.ensures.taken;
    }

pub returns-clause-sound : goal.returns-clause-sound
returns-clause-sound g c = record {
  own = subst (λ (h : g.row.H.Denot). g.H.OnBytesAlone.is_own h) (sym c.in_ok-new.ensures.handlers) c.requires;
  world = c.in_ok-new.ensures.sound;
  shown = first_world (g.H.Handlers.meaning c.args.handlers);
  shows = c.in_ok-new.ensures.first;
}
