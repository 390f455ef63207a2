use Rattle.std.proofs.Common.{ap}
use Rattle.read_xform.specs.Rounds.{may_answer}
use Rattle.read_xform.proofs.Ending.{end_done, end_sound, kept_sound}
use Rattle.read_xform.proofs.Keeping.{all_read}
use Rattle.read_xform.proofs.read_raft.ReadRaft.end.Goals as goal

pub returns-clause-does : goal.returns-clause-does
returns-clause-does g c =
    end_done (g.M.Machine.meaning c.args.self.now.machine) c.args.self.now.nodes c.args.me c.args.before.leads c.args.before.term c.args.heard.term c.args.heard.round
    c.round.result c.args.state.now c.state.inside.raft c.state.inside.reads c.settle.new.reads (record { raft = c.answer_ready.new.node; reads = c.answer_ready.new.reads; answered = c.answer_ready.new.answered.items })
    c.clear.new.self.items c.args.within c.answer_ready.new.effects c.args.effects.now c.hand_on.new.effects (ap (λ v. v.raft) c.state.view_is)
    (ap (λ v. v.reads) c.state.view_is) c.requires.sound.reads.acked c.settle.ensures c.clear.ensures.items c.in_ok-answer_ready.ensures.node
    c.in_ok-answer_ready.ensures.reads c.in_ok-answer_ready.ensures.answered (rw (c.self.view_is) at c.in_ok-answer_ready.ensures.outputs)
    c.in_ok-answer_ready.ensures.sends c.round.ensures c.hand_on.ensures.outputs c.hand_on.ensures.sends

pub returns-clause-sound : goal.returns-clause-sound
returns-clause-sound g c =
    let kept = kept_sound (g.M.Machine.meaning c.args.self.now.machine) c.args.self.now.nodes c.args.me (g.M.Queries.reads c.args.self.now.machine) c.args.before.leads c.args.before.term
    c.args.state.now c.state.inside.raft c.state.inside.reads c.settle.new.reads (ap (λ v. v.raft) c.state.view_is) (ap (λ v. v.reads) c.state.view_is) c.settle.ensures
    c.requires.sound in
    end_sound (g.M.Machine.meaning c.args.self.now.machine) c.args.self.now.nodes c.args.me (g.M.Queries.reads c.args.self.now.machine) c.args.state.now c.state.inside.raft
    c.settle.new.reads (may_answer c.args.me c.state.inside.raft.applied c.settle.new.reads) (record { raft = c.answer_ready.new.node; reads = c.answer_ready.new.reads; answered = c.answer_ready.new.answered.items })
    (ap (λ v. v.raft) c.state.view_is) kept c.requires.sound c.in_ok-answer_ready.ensures.node c.in_ok-answer_ready.ensures.reads

pub answer_ready-requires-clause-reads : goal.answer_ready-requires-clause-reads
answer_ready-requires-clause-reads g c =
    let kept = kept_sound (g.M.Machine.meaning c.args.self.now.machine) c.args.self.now.nodes c.args.me (g.M.Queries.reads c.args.self.now.machine) c.args.before.leads c.args.before.term
    c.args.state.now c.state.inside.raft c.state.inside.reads c.settle.new.reads (ap (λ v. v.raft) c.state.view_is) (ap (λ v. v.reads) c.state.view_is) c.settle.ensures
    c.requires.sound in
    rw (c.self.view_is) (all_read (g.M.Queries.reads c.args.self.now.machine) c.args.self.now.nodes c.args.state.now.raft.commit c.settle.new.reads kept)

pub answer_ready-requires-clause-in_order : goal.answer_ready-requires-clause-in_order
answer_ready-requires-clause-in_order g c =
    let kept = kept_sound (g.M.Machine.meaning c.args.self.now.machine) c.args.self.now.nodes c.args.me (g.M.Queries.reads c.args.self.now.machine) c.args.before.leads c.args.before.term
    c.args.state.now c.state.inside.raft c.state.inside.reads c.settle.new.reads (ap (λ v. v.raft) c.state.view_is) (ap (λ v. v.reads) c.state.view_is) c.settle.ensures
    c.requires.sound in
    kept.in_order
