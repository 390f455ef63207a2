use Rattle.std.proofs.Common.{◌≡◌, ◌+◌, ◌<◌, ap, subst, ◌∙◌}
use Rattle.std.specs.Prelude.{slice_get}
use Rattle.handler_trait.specs.Facts.{promises_of}
use Rattle.vst_base.specs.Nets.{keeps_order}
use Rattle.net_semantics.specs.Worlds.{change_at}
use Rattle.net_semantics.specs.Held.{held_copies, held_more}
use Rattle.net_semantics.proofs.Showing.{copies_shown}
use Rattle.net_semantics.proofs.Taken.{no_order-dup, takes_dup, dup_not_refused}
use Rattle.net_semantics.proofs.world.World.take_dup.Goals as goal

pub returns-clause-answers : goal.returns-clause-answers
returns-clause-answers g c =
    let packets : c.self.inside.packets ≡ c.args.self.now.packets = ap (λ v. v.packets) c.self.view_is in
    let copy : 0 < held_copies (slice_get c.args.self.now.packets c.args.k) = rw packets at c.in_ok-place.ensures.ok.1 in
    record {
      refused = λ w shows. dup_not_refused c.args.self.now.net (g.H.Handlers.meaning c.args.self.now.handlers) w c.args.k
          (subst (λ n. 0 < n) (copies_shown (slice_get c.args.self.now.packets c.args.k) (slice_get w.packets c.args.k) (shows.packets c.args.k)) copy) c.requires.kind;
      unchanged = tt;
      taken = takes_dup (promises_of g.H.Handlers c.args.self.now.handlers) c.args.self.now _ c.args.k copy c.requires.sound c.requires.steps
          (ap (λ v. v.states) c.self.view_is) (ap (λ v. v.trace) c.self.view_is) (ap (λ v. v.taken + 1) c.self.view_is)
          (ap (λ v. keeps_order v.net) c.self.view_is ∙ no_order-dup c.args.self.now.net c.requires.kind)
          (c.add_copy.ensures ∙ (ap (λ k. change_at held_more k c.self.inside.packets) c.in_ok-place.ensures.ok.0 ∙ ap (λ ps. change_at held_more c.args.k ps) packets));
      same_handlers = ap (λ v. v.handlers) c.self.view_is;
      same_net = ap (λ v. v.net) c.self.view_is;
    }
