use Rattle.std.proofs.Common.{◌≡◌, ◌∙◌, ap, false, sym, subst, refl}
use Rattle.raft_xform.specs.Nodes.{is_leader}
use Rattle.raft_xform.specs.RaftLaws as laws
use Rattle.read_xform.specs.Sound.{AreSoundReads}
use Rattle.read_xform.proofs.Commits.{grows_input}
use Rattle.read_xform.proofs.Ending.{event_done, event_sound, few_fit}
use Rattle.raft_xform.specs.Replicating.{on_input}
use Rattle.raft_reads.specs.ReadRaft.{waits}
use Rattle.read_xform.proofs.read_raft.ReadRaftHandlers.input.Goals as goal

pub end-requires-clause-sound : goal.end-requires-clause-sound
end-requires-clause-sound g c =
    let m = g.M.Machine.meaning c.args.self.now.machine in
    let nodes = c.args.self.now.nodes in
    let before = c.args.state.now in
    let raft_is : c.state.inside.raft ≡ before.raft = ap (λ v. v.raft) c.state.view_is in
    let reads_is : c.state.inside.reads ≡ before.reads = ap (λ v. v.reads) c.state.view_is in
    event_sound m nodes c.args.node (g.M.Queries.reads c.args.self.now.machine) before.raft.commit (on_input m nodes c.args.node before.raft c.args.input.now) c.in_ok-within.within c.input.new.effects
    (record { raft = c.input.new.state; reads = c.state.inside.reads; answered = c.state.inside.answered.items }) (rw (c.self.view_is, raft_is) at c.in_ok-input.ensures.does) (rw (c.self.view_is) at c.in_ok-input.ensures.sound)
    (subst (AreSoundReads (g.M.Queries.reads c.args.self.now.machine) nodes before.raft.commit) (sym reads_is) c.requires.sound.reads) (grows_input m nodes c.args.node before.raft c.args.input.now)

pub end-requires-clause-room : goal.end-requires-clause-room
end-requires-clause-room g c =
    let m = g.M.Machine.meaning c.args.self.now.machine in
    let nodes = c.args.self.now.nodes in
    let before = c.args.state.now in
    let raft_is : c.state.inside.raft ≡ before.raft = ap (λ v. v.raft) c.state.view_is in
    let does = rw (c.self.view_is, raft_is) at c.in_ok-input.ensures.does in
    few_fit c.in_ok-within.within.sends (on_input m nodes c.args.node before.raft c.args.input.now).sends c.input.new.effects.sends c.args.effects.now.send_places c.lend_outputs.new.self.send_places does.sends
    c.in_ok-within.ensures.no_sends (laws.modest_input nodes m c.args.node before.raft c.args.input.now c.requires.sound.raft).few c.requires.room c.lend_outputs.ensures.send_places

pub returns-clause-does : goal.returns-clause-does
returns-clause-does g c =
    let m = g.M.Machine.meaning c.args.self.now.machine in
    let nodes = c.args.self.now.nodes in
    let before = c.args.state.now in
    let raft_is : c.state.inside.raft ≡ before.raft = ap (λ v. v.raft) c.state.view_is in
    let reads_is : c.state.inside.reads ≡ before.reads = ap (λ v. v.reads) c.state.view_is in
    let no_wait : waits (g.M.Queries.reads c.args.self.now.machine) before c.args.input.now ≡ false = sym c.waits.ensures ∙ c.if-waits.false in
    rw no_wait (event_done m nodes c.args.node c.end.result c.standing-before.result.leads c.standing-before.result.term before.raft (on_input m nodes c.args.node before.raft c.args.input.now) c.state.inside.reads (before.reads) 0 0 0 0
    c.input.new.state c.in_ok-within.within c.input.new.effects c.end.new.state c.args.effects.now c.lend_outputs.new.self c.end.new.effects
    (ap (λ v. v.leads) c.standing-before.ensures ∙ ap (λ v. is_leader v.raft.role) c.state.view_is) (ap (λ v. v.term) c.standing-before.ensures ∙ ap (λ v. v.raft.ballot.term) c.state.view_is)
    (reads_is) refl refl (rw (c.self.view_is, raft_is) at c.in_ok-input.ensures.does) c.in_ok-within.ensures.outputs c.in_ok-within.ensures.no_sends c.lend_outputs.ensures.sends c.end.ensures.does)
