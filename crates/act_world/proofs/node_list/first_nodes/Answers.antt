use Rattle.std.proofs.Common.{◌≡◌, ◌∙◌, ◌∷◌, [], ◌++◌, Some, ap, arith, below_more, refl, rules, sym}
use Rattle.std.specs.Prelude.{slice_get}
use Rattle.act_world.specs.Nodes.{first_node}
use Rattle.act_world.proofs.Starting.{first-is}
use Rattle.act_world.proofs.node_list.first_nodes.Goals as goal
use Rattle.lists.specs.Places.{slice_get-front, slice_get_last}

pub loop-n-preserved : goal.loop-n-preserved
loop-n-preserved g c =
    let meaning = g.H.Handlers.meaning c.args.handlers.now in
    let disks = g.D.SavesStates.disks in
    let kept = c.loop-n.invariant in
    let old = c.loop-n.nodes.items in
    let node : c.unwrap-node.result ≡ c.loop-n.n = search rules in
    let state : c.in_ok-state.state ≡ meaning.init c.loop-n.n = c.in_ok-state.ensures.first ∙ ap meaning.init node in
    let disk : c.in_ok-disk.disk ≡ disks.fresh c.loop-n.n = c.in_ok-disk.ensures ∙ ap disks.fresh node in
    let is = first-is meaning disks c.loop-n.n c.in_ok-state.state c.in_ok-disk.disk state disk _ refl in
    let items : c.push.new.self.items ≡ old ++ first_node meaning disks c.loop-n.n ∷ [] = c.in_ok-push.ensures.items ∙ ap (λ x. old ++ x ∷ []) is in
    record {
      nodes = search rules;
      first = below_more (λ k. slice_get c.push.new.self.items k ≡ Some (first_node meaning disks k)) c.loop-n.n
          (λ k lt. ap (λ xs. slice_get xs k) items ∙ (slice_get-front old (first_node meaning disks c.loop-n.n ∷ []) k (omega (arith, kept.nodes)) ∙ kept.first k lt))
          (ap (λ xs. slice_get xs c.loop-n.n) items ∙ slice_get_last old (first_node meaning disks c.loop-n.n) c.loop-n.n (sym kept.nodes));
      sound = below_more (λ k. g.H.Handlers.sound c.args.handlers.now k (meaning.init k)) c.loop-n.n kept.sound
          (rw node at (rw c.in_ok-state.ensures.first at c.in_ok-state.ensures.sound));
    }

pub returns-clause-first : goal.returns-clause-first
returns-clause-first g c = λ k lt. c.loop-n.invariant.first k (omega arith)

pub returns-clause-sound : goal.returns-clause-sound
returns-clause-sound g c = λ k lt. c.loop-n.invariant.sound k (omega arith)
