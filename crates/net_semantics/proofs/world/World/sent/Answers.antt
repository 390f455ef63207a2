use Rattle.net_semantics.proofs.Showing.{shown_length}
use Rattle.std.proofs.Common.{◌∙◌, ap, length}
use Rattle.net_semantics.proofs.world.World.sent.Goals as goal

pub returns : goal.returns
returns g c = λ w shows. c.len.ensures ∙ (ap (λ v. length v.packets) c.self.view_is ∙ shown_length c.args.self.now.packets w.packets shows.packets)
