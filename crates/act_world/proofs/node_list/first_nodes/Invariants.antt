use Rattle.std.proofs.Common.{◌≡◌, ℕ, ◌<◌, length, Some}
use Rattle.std.specs.Prelude.{slice_get}
use Rattle.act_world.specs.Nodes.{first_node}
use Rattle.act_world.proofs.node_list.first_nodes.Given as goal

abbrev pub invariant-loop-n : goal.invariant-loop-n
invariant-loop-n g l = record {
  nodes : length l.nodes.items ≡ l.n;
  first : (k : ℕ) → k < l.n → slice_get l.nodes.items k ≡ Some (first_node (g.H.Handlers.meaning l.fn.handlers) g.D.SavesStates.disks k);
  sound : (k : ℕ) → k < l.n → g.H.Handlers.sound l.fn.handlers k ((g.H.Handlers.meaning l.fn.handlers).init k);
}
