use Rattle.std.proofs.Common.{◌≡◌, ◌<◌, length, refl, subst, sym}
use Rattle.std.proofs.lemmas.Result.{IfOk-weaker}
use Rattle.act_world.specs.ByWords.{LeavesSo}
use Rattle.act_world.specs.Nodes.{with_disk}
use Rattle.act_world.proofs.Coding.{node-set, node-there}
use Rattle.act_world.proofs.world.ActWorld.leave.Goals as goal

pub returns-clause-leaves : goal.returns-clause-leaves
returns-clause-leaves g c =
    let v = c.args.self.now in let i = c.self.inside in let node = c.index_mut-at.result.now in let n = c.args.node in
    let d = g.D.SavesStates.disks in let b = g.D.LeavesByWord.by_word in
    let below : n < length i.nodes.items = subst (λ x. n < length x.nodes) (sym c.self.view_is) c.requires in
    IfOk-weaker c.leave.result (λ left. left ≡ b node.disk c.args.word.now) (LeavesSo d n v _ (λ disk. b disk c.args.word.now))
    (λ left is. record {
      node = node;
      there = node-there i.handlers i.nodes.items i.flights.items i.notes i.taken v c.self.view_is n c.place.result node c.place.ensures below c.index_mut-at.ensures.value;
      left_is = is;
      disk = c.leave.new.disk;
      knows = c.leave.ensures.knows;
      after_is = node-set i.handlers i.nodes.items i.flights.items i.notes i.taken v c.self.view_is n c.place.result node c.place.ensures below c.index_mut-at.ensures.value
          (with_disk (λ _. c.leave.new.disk)) (with_disk (λ _. c.leave.new.disk) node) refl;
    }) c.leave.ensures.left
