use Rattle.raft_xform.specs.Sound.{IsSoundNode}
use Rattle.raft_xform.proofs.Keeping.{keeps_append, keeps_appended, keeps_vote, sound_done}
use Rattle.raft_xform.proofs.Sounding.{sound_heard}
use Rattle.raft_xform.proofs.raft.RaftHandlers.message.Goals as goal

pub on_vote-requires-clause-sound : goal.on_vote-requires-clause-sound
on_vote-requires-clause-sound g c = rw (c.seat-seat.ensures, c.hear.ensures) (sound_heard c.requires.sound c.term.result (c.term.ensures.in_range.1))

pub on_append-requires-clause-applied : goal.on_append-requires-clause-applied
on_append-requires-clause-applied g c =
    let k : IsSoundNode c.args.self.now.nodes c.args.node c.hear.new.state = rw (c.hear.ensures) (sound_heard c.requires.sound c.term.result (c.term.ensures.in_range.1)) in
    k.applied

pub on_append-requires-clause-committed : goal.on_append-requires-clause-committed
on_append-requires-clause-committed g c =
    let k : IsSoundNode c.args.self.now.nodes c.args.node c.hear.new.state = rw (c.hear.ensures) (sound_heard c.requires.sound c.term.result (c.term.ensures.in_range.1)) in
    k.committed

pub on_appended-requires-clause-sound : goal.on_appended-requires-clause-sound
on_appended-requires-clause-sound g c = rw (c.seat-seat.ensures, c.hear.ensures) (sound_heard c.requires.sound c.term.result (c.term.ensures.in_range.1))

pub returns-in-Vote-clause-sound : goal.returns-in-Vote-clause-sound
returns-in-Vote-clause-sound g c =
    let k = rw (← c.self.view_is) at c.requires.sound in
    rw (← c.self.view_is) (sound_done c.on_vote.result c.on_vote.new.state c.args.effects.now c.on_vote.new.effects
    (keeps_vote {s = c.hear.new.state} (rw (c.hear.ensures) (sound_heard k c.term.result (c.term.ensures.in_range.1))) (g.M.Machine.meaning c.self.inside.machine) c.args.from c.in-Vote.vote)
    (rw (c.seat-seat.ensures, ← c.self.view_is) at c.on_vote.ensures))

pub returns-in-Append-clause-sound : goal.returns-in-Append-clause-sound
returns-in-Append-clause-sound g c =
    let k = rw (← c.self.view_is) at c.requires.sound in
    rw (← c.self.view_is) (sound_done c.on_append.result c.on_append.new.state c.args.effects.now c.on_append.new.effects
    (keeps_append (rw (c.hear.ensures) (sound_heard k c.term.result (c.term.ensures.in_range.1))) (g.M.Machine.meaning c.self.inside.machine) c.args.from c.in-Append.append c.on_append.ensures.in_range)
    c.on_append.ensures.does)

pub returns-in-Appended-clause-sound : goal.returns-in-Appended-clause-sound
returns-in-Appended-clause-sound g c =
    let k = rw (← c.self.view_is) at c.requires.sound in
    rw (← c.self.view_is) (sound_done c.on_appended.result c.on_appended.new.state c.args.effects.now c.on_appended.new.effects
    (keeps_appended {s = c.hear.new.state} (rw (c.hear.ensures) (sound_heard k c.term.result (c.term.ensures.in_range.1))) (g.M.Machine.meaning c.self.inside.machine) c.args.from
    (rw (← c.self.view_is) at c.requires.from) c.in-Appended.appended) (rw (c.seat-seat.ensures, ← c.self.view_is) at c.on_appended.ensures))
