use Rattle.std.proofs.Common.{ap, ◌∙◌}
use Rattle.act_world.specs.ActViews.{seen_items}
use Rattle.act_world.proofs.Seeing.{seen-shown}
use Rattle.act_world.proofs.world.ActWorld.listed.Goals as goal

pub returns-clause-trace : goal.returns-clause-trace
returns-clause-trace g c = λ w sh. ap seen_items (c.listed.ensures ∙ (ap (λ x. x.notes.listed) c.self.view_is ∙ sh.listed)) ∙ seen-shown w.listed
