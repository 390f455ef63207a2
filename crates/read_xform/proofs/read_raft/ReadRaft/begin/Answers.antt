use Rattle.std.proofs.Common.{◌≡◌, ◌∙◌, ap, sym, subst, refl}
use Rattle.raft_xform.specs.Nodes.{is_leader}
use Rattle.raft_xform.specs.RaftLaws as laws
use Rattle.read_xform.specs.Sound.{AreSoundReads}
use Rattle.read_xform.proofs.Commits.{grows_tick}
use Rattle.read_xform.proofs.Ending.{event_done, event_sound, few_fit, begun}
use Rattle.std.proofs.Common.{arith}
use Rattle.std.proofs.lemmas.Bool.{and_parts}
use Rattle.raft_xform.specs.Electing.{tick}
use Rattle.raft_reads.specs.Reads.{with_read}
use Rattle.read_xform.proofs.Keeping.{sound_with_read}
use Rattle.read_xform.proofs.read_raft.ReadRaft.begin.Goals as goal

pub end-requires-clause-sound : goal.end-requires-clause-sound
end-requires-clause-sound g c =
    let m = g.M.Machine.meaning c.args.self.now.machine in
    let nodes = c.args.self.now.nodes in
    let before = c.args.state.now in
    let raft_is : c.state.inside.raft ≡ before.raft = ap (λ v. v.raft) c.state.view_is in
    let reads_is : c.wait.new.self ≡ with_read before.reads c.args.input.now before.raft.commit =
    c.in_ok-wait.ensures ∙ begun c.state.inside.reads before.reads c.in_ok-read.read c.args.input.now c.commit.result before.raft.commit (ap (λ v. v.reads) c.state.view_is)
    c.in_ok-read.ensures (c.commit.ensures ∙ ap (λ v. v.raft.commit) c.state.view_is) in
    event_sound m nodes c.args.node (g.M.Queries.reads c.args.self.now.machine) before.raft.commit (tick m nodes c.args.node before.raft) c.in_ok-within.within c.timeout.new.effects
    (record { raft = c.timeout.new.state; reads = c.wait.new.self; answered = c.state.inside.answered.items }) (rw (c.self.view_is, raft_is) at c.in_ok-timeout.ensures.does) (rw (c.self.view_is) at c.in_ok-timeout.ensures.sound)
    (subst (AreSoundReads (g.M.Queries.reads c.args.self.now.machine) nodes before.raft.commit) (sym reads_is)
    (sound_with_read (g.M.Queries.reads c.args.self.now.machine) nodes before.raft.commit before.raft.commit before.reads c.args.input.now (and_parts _ _ c.requires.waits).0 (omega arith) c.requires.sound.reads)) (grows_tick m nodes c.args.node before.raft)

pub end-requires-clause-room : goal.end-requires-clause-room
end-requires-clause-room g c =
    let m = g.M.Machine.meaning c.args.self.now.machine in
    let nodes = c.args.self.now.nodes in
    let before = c.args.state.now in
    let raft_is : c.state.inside.raft ≡ before.raft = ap (λ v. v.raft) c.state.view_is in
    let does = rw (c.self.view_is, raft_is) at c.in_ok-timeout.ensures.does in
    few_fit c.in_ok-within.within.sends (tick m nodes c.args.node before.raft).sends c.timeout.new.effects.sends c.args.effects.now.send_places c.lend_outputs.new.self.send_places does.sends
    c.in_ok-within.ensures.no_sends (laws.modest_timeout nodes m c.args.node before.raft c.requires.sound.raft).few c.requires.room c.lend_outputs.ensures.send_places

pub returns-clause-does : goal.returns-clause-does
returns-clause-does g c =
    let m = g.M.Machine.meaning c.args.self.now.machine in
    let nodes = c.args.self.now.nodes in
    let before = c.args.state.now in
    let raft_is : c.state.inside.raft ≡ before.raft = ap (λ v. v.raft) c.state.view_is in
    let reads_is : c.wait.new.self ≡ with_read before.reads c.args.input.now before.raft.commit =
    c.in_ok-wait.ensures ∙ begun c.state.inside.reads before.reads c.in_ok-read.read c.args.input.now c.commit.result before.raft.commit (ap (λ v. v.reads) c.state.view_is)
    c.in_ok-read.ensures (c.commit.ensures ∙ ap (λ v. v.raft.commit) c.state.view_is) in
    event_done m nodes c.args.node c.end.result c.standing-before.result.leads c.standing-before.result.term before.raft (tick m nodes c.args.node before.raft) c.wait.new.self (with_read before.reads c.args.input.now before.raft.commit) 0 0 0 0
    c.timeout.new.state c.in_ok-within.within c.timeout.new.effects c.end.new.state c.args.effects.now c.lend_outputs.new.self c.end.new.effects
    (ap (λ v. v.leads) c.standing-before.ensures ∙ ap (λ v. is_leader v.raft.role) c.state.view_is) (ap (λ v. v.term) c.standing-before.ensures ∙ ap (λ v. v.raft.ballot.term) c.state.view_is)
    (reads_is) refl refl (rw (c.self.view_is, raft_is) at c.in_ok-timeout.ensures.does) c.in_ok-within.ensures.outputs c.in_ok-within.ensures.no_sends c.lend_outputs.ensures.sends c.end.ensures.does
