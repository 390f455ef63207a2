use Rattle.std.proofs.Common.{sym, subst, ◌∙◌, ap}
use Rattle.std.specs.Prelude.{is_none, IfSome}
use Rattle.handler_trait.specs.Facts.{reboot_promises_of, rebootable_facts}
use Rattle.net_semantics.proofs.FailShowing.{sound_fail}
use Rattle.net_semantics.proofs.fail_world.FailWorld.new.Goals as goal

pub returns-clause-first : goal.returns-clause-first
returns-clause-first g c =
    let shown = c.in_ok-world.ensures.first in
    record {
      states = shown.states;
      kept = λ n. sym (c.in_ok-stopped.ensures.up n);
      up = λ n. ap is_none (sym (c.in_ok-stopped.ensures.up n));
      packets = shown.packets;
    }

pub returns-clause-sound : goal.returns-clause-sound
returns-clause-sound g c =
    let facts = rebootable_facts g.H.Handlers g.H.Rebootable in
    let world = c.in_ok-world.world in let h = world.handlers in
    sound_fail (reboot_promises_of facts h) world c.in_ok-stopped.stopped c.in_ok-world.ensures.sound
    (c.in_ok-stopped.ensures.nodes ∙ (c.nodes-nodes.ensures ∙ ap (λ x. (facts.meaning x).nodes) (sym c.in_ok-world.ensures.handlers)))
    (λ n. subst (λ o. IfSome o (facts.fits h)) (sym (c.in_ok-stopped.ensures.up n)) tt)
