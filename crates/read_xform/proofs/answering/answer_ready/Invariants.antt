use Rattle.std.proofs.Common.{◌≡◌, length}
use Rattle.read_xform.proofs.Fronts.{Answering}
use Rattle.read_xform.proofs.answering.answer_ready.Given as goal

abbrev pub invariant-loop-read : goal.invariant-loop-read
invariant-loop-read g l = record {
  so_far : Answering (g.M.Queries.reads l.raft.machine) (g.M.Machine.meaning l.raft.machine) l.me l.node l.initial.node l.reads l.initial.reads
      l.answered.items l.initial.answered.items l.effects.outputs l.initial.effects.outputs;
  sends : l.effects.sends ≡ l.initial.effects.sends;
}

abbrev pub decreases-loop-read : goal.decreases-loop-read
decreases-loop-read g l = length l.reads.waiting
