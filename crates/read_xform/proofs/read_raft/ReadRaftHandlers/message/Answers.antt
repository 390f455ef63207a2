use Rattle.std.proofs.Common.{◌≡◌, ◌∙◌, ap, sym, subst}
use Rattle.raft_xform.specs.Nodes.{is_leader}
use Rattle.raft_xform.specs.RaftLaws as laws
use Rattle.read_xform.specs.Sound.{AreSoundReads}
use Rattle.read_xform.proofs.Commits.{grows_message}
use Rattle.read_xform.proofs.Ending.{event_done, event_sound, few_fit}
use Rattle.raft_types.specs.Terms.{term_of}
use Rattle.raft_xform.specs.Raft.{on_message}
use Rattle.raft_reads.specs.ReadRaft.{acknowledged}
use Rattle.read_xform.proofs.Keeping.{sound_acked}
use Rattle.read_xform.proofs.read_raft.ReadRaftHandlers.message.Goals as goal

pub end-requires-clause-sound : goal.end-requires-clause-sound
end-requires-clause-sound g c =
    let m = g.M.Machine.meaning c.args.self.now.machine in
    let nodes = c.args.self.now.nodes in
    let before = c.args.state.now in
    let raft_is : c.state-2.inside.raft ≡ before.raft = ap (λ v. v.raft) c.state-2.view_is ∙ c.note.ensures.raft in
    let reads_is : c.state-2.inside.reads ≡ acknowledged before c.args.from c.args.message.now = ap (λ v. v.reads) c.state-2.view_is ∙ c.note.ensures.reads in
    event_sound m nodes c.args.node (g.M.Queries.reads c.args.self.now.machine) before.raft.commit (on_message m nodes c.args.node before.raft c.args.from c.args.message.now.raft) c.in_ok-within.within c.message.new.effects
    (record { raft = c.message.new.state; reads = c.state-2.inside.reads; answered = c.state-2.inside.answered.items }) (rw (c.self.view_is, raft_is, c.raft-2.ensures) at c.in_ok-message.ensures.does) (rw (c.self.view_is) at c.in_ok-message.ensures.sound)
    (subst (AreSoundReads (g.M.Queries.reads c.args.self.now.machine) nodes before.raft.commit) (sym reads_is)
    (sound_acked (g.M.Queries.reads c.args.self.now.machine) nodes before.raft.commit before.reads _ c.args.from c.args.message.now.round c.requires.sound.reads)) (grows_message m nodes c.args.node before.raft c.args.from c.args.message.now.raft)

pub end-requires-clause-room : goal.end-requires-clause-room
end-requires-clause-room g c =
    let m = g.M.Machine.meaning c.args.self.now.machine in
    let nodes = c.args.self.now.nodes in
    let before = c.args.state.now in
    let raft_is : c.state-2.inside.raft ≡ before.raft = ap (λ v. v.raft) c.state-2.view_is ∙ c.note.ensures.raft in
    let does = rw (c.self.view_is, raft_is, c.raft-2.ensures) at c.in_ok-message.ensures.does in
    few_fit c.in_ok-within.within.sends (on_message m nodes c.args.node before.raft c.args.from c.args.message.now.raft).sends c.message.new.effects.sends c.args.effects.now.send_places c.lend_outputs.new.self.send_places does.sends
    c.in_ok-within.ensures.no_sends (laws.modest_message nodes m c.args.node before.raft c.args.from c.args.message.now.raft c.requires.from c.requires.sound.raft).few c.requires.room c.lend_outputs.ensures.send_places

pub returns-clause-does : goal.returns-clause-does
returns-clause-does g c =
    let m = g.M.Machine.meaning c.args.self.now.machine in
    let nodes = c.args.self.now.nodes in
    let before = c.args.state.now in
    let raft_is : c.state-2.inside.raft ≡ before.raft = ap (λ v. v.raft) c.state-2.view_is ∙ c.note.ensures.raft in
    let reads_is : c.state-2.inside.reads ≡ acknowledged before c.args.from c.args.message.now = ap (λ v. v.reads) c.state-2.view_is ∙ c.note.ensures.reads in
    event_done m nodes c.args.node c.end.result c.standing-before.result.leads c.standing-before.result.term before.raft (on_message m nodes c.args.node before.raft c.args.from c.args.message.now.raft) c.state-2.inside.reads (acknowledged before c.args.from c.args.message.now) c.term.result (term_of c.args.message.now.raft) c.round.result c.args.message.now.round
    c.message.new.state c.in_ok-within.within c.message.new.effects c.end.new.state c.args.effects.now c.lend_outputs.new.self c.end.new.effects
    (ap (λ v. v.leads) c.standing-before.ensures ∙ ap (λ v. is_leader v.raft.role) c.state.view_is) (ap (λ v. v.term) c.standing-before.ensures ∙ ap (λ v. v.raft.ballot.term) c.state.view_is)
    (reads_is) (c.term.ensures.value ∙ ap term_of c.raft.ensures) c.round.ensures.value (rw (c.self.view_is, raft_is, c.raft-2.ensures) at c.in_ok-message.ensures.does) c.in_ok-within.ensures.outputs c.in_ok-within.ensures.no_sends c.lend_outputs.ensures.sends c.end.ensures.does
