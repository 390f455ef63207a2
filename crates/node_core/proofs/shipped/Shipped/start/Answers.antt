use Rattle.std.proofs.Common.{◌≡◌, ap, sym, ◌∙◌}
use Rattle.node_acts.specs.Stores.{terms_of}
use Rattle.node_core.proofs.Taking.{sound_as}
use Rattle.node_core.proofs.shipped.Shipped.start.Goals as goal

pub returns-clause-ready : goal.returns-clause-ready
returns-clause-ready g c =
    let number : c.unwrap-me.result ≡ c.args.config.now.me = rw (c.unwrap-me.ensures) at c.new.ensures.number in
    let sound =
    sound_as _ _ c.args.store.who.nodes c.args.store.who.me _ c.in_ok-reboot.ensures.sound (c.requires.nodes ∙ sym (ap (λ w. w.nodes) c.requires.who))
    (number ∙ sym (ap (λ w. w.me) c.requires.who)) in
    let kept = c.in_ok-reboot.ensures.reboots in
    record {
      is = record { of = c.requires.of; sound = sound };
      knows = record {
        term = c.requires.knows.term ∙ sym (ap (λ s. s.ballot.term) kept);
        voted = c.requires.knows.voted ∙ sym (ap (λ s. s.ballot.voted) kept);
        terms = c.requires.knows.terms ∙ sym (ap (λ s. terms_of s.log) kept);
      };
    }
