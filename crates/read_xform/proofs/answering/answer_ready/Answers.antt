use Rattle.std.proofs.Common.{◌∙◌}
use Rattle.read_xform.proofs.Fronts.{answers_all, answers_one}
use Rattle.read_xform.proofs.answering.answer_ready.Goals as goal

pub loop-read-preserved : goal.loop-read-preserved
loop-read-preserved g c = record {
  so_far =
      answers_one (g.M.Queries.reads c.args.raft.now.machine) (g.M.Machine.meaning c.args.raft.now.machine) c.args.me c.args.node.now c.args.reads.now
      c.args.answered.now.items c.args.effects.now.outputs c.loop-read.node c.answer.new.node c.loop-read.reads c.take_ready.new.self c.loop-read.answered.items
      c.push.new.self.items c.loop-read.effects.outputs c.answer.new.effects.outputs c.in-Some.read c.applied.result c.loop-read.invariant.so_far c.in-Some.ensures.taken
      c.in-Some.ensures.ready c.applied.ensures c.take_ready.ensures.round c.take_ready.ensures.acked c.in_ok-answer.ensures.node
      c.in_ok-push.ensures.items c.in_ok-answer.ensures.outputs;
  sends = c.in_ok-answer.ensures.sends ∙ c.loop-read.invariant.sends;
}

pub returns-clause-reads : goal.returns-clause-reads
returns-clause-reads g c =
    let all = answers_all (g.M.Queries.reads c.args.raft.now.machine) (g.M.Machine.meaning c.args.raft.now.machine) c.args.me c.args.node.now c.args.reads.now
    c.args.answered.now.items c.args.effects.now.outputs c.loop-read.node c.loop-read.reads c.take_ready.new.self c.loop-read.answered.items c.loop-read.effects.outputs
    c.applied.result c.loop-read.invariant.so_far c.in_default.ensures.blocked c.applied.ensures c.in_default.ensures.left c.take_ready.ensures.round
    c.take_ready.ensures.acked in
    all.reads

pub returns-clause-answered : goal.returns-clause-answered
returns-clause-answered g c =
    let all = answers_all (g.M.Queries.reads c.args.raft.now.machine) (g.M.Machine.meaning c.args.raft.now.machine) c.args.me c.args.node.now c.args.reads.now
    c.args.answered.now.items c.args.effects.now.outputs c.loop-read.node c.loop-read.reads c.take_ready.new.self c.loop-read.answered.items c.loop-read.effects.outputs
    c.applied.result c.loop-read.invariant.so_far c.in_default.ensures.blocked c.applied.ensures c.in_default.ensures.left c.take_ready.ensures.round
    c.take_ready.ensures.acked in
    all.answered

pub returns-clause-outputs : goal.returns-clause-outputs
returns-clause-outputs g c =
    let all = answers_all (g.M.Queries.reads c.args.raft.now.machine) (g.M.Machine.meaning c.args.raft.now.machine) c.args.me c.args.node.now c.args.reads.now
    c.args.answered.now.items c.args.effects.now.outputs c.loop-read.node c.loop-read.reads c.take_ready.new.self c.loop-read.answered.items c.loop-read.effects.outputs
    c.applied.result c.loop-read.invariant.so_far c.in_default.ensures.blocked c.applied.ensures c.in_default.ensures.left c.take_ready.ensures.round
    c.take_ready.ensures.acked in
    all.told
