use Rattle.std.proofs.Common.{◌<◌, length, subst, sym}
use Rattle.std.proofs.lemmas.Result.{on_ok_weaker}
use Rattle.act_world.proofs.Noting.{output-is}
use Rattle.act_world.proofs.notes.Notes.tell.Goals as goal

pub returns : goal.returns
returns g c =
    let i = c.self.inside in
    on_ok_weaker c.add.result (λ done. output-is i.image.items i.listed.items i.sent c.args.self.now c.self.view_is c.args.place c.args.output c.index_mut.result.now c.add.new.self
    (subst (λ x. c.args.place < length x.listed) (sym c.self.view_is) c.requires) c.index_mut.ensures.value done) c.add.ensures
