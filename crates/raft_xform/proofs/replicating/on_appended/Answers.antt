use Rattle.std.proofs.Common.{◌≡◌, rules, true, eqb, [], ◌∷◌, ◌++◌, ap, ◌∙◌}
use Rattle.raft_commit.specs.declared.peer.Moved.TheVariants as moves
use Rattle.raft_xform.specs.Nodes.{RaftView, is_leader}
use Rattle.raft_xform.specs.Replicating.{moved_by}
use Rattle.raft_xform.specs.Sending.{append}
use Rattle.raft_xform.proofs.Doing.{goes_back, may_send_settled}
use Rattle.raft_xform.proofs.Sounding.{sound_known}
use Rattle.raft_xform.proofs.replicating.on_appended.Goals as goal

pub append_more-requires-clause-state : goal.append_more-requires-clause-state
append_more-requires-clause-state g c =
    let n = c.note.ensures.state in
    let s = c.in_ok-settle-in-Raised.ensures.does.state in
    rw (s, n) (may_send_settled (sound_known c.requires.sound (search rules) c.args.from c.requires.from c.args.appended.now) (search rules) (g.M.Machine.meaning c.args.machine.now))

pub returns-in_ok-append-in-Back : goal.returns-in_ok-append-in-Back
returns-in_ok-append-in-Back g c =
    let s = c.args.state.now in
    let a = c.args.appended.now in
    let leads : is_leader s.role ≡ true = search rules in
    let here : eqb a.term s.ballot.term ≡ true = search rules in
    let back : moves.Back ≡ moved_by s c.args.from a = search rules in
    rw (goes_back (g.M.Machine.meaning c.args.machine.now) c.args.seat.nodes c.args.seat.me s c.args.from a leads here back) (record {
      state = c.note.ensures.state;
      outputs = search rules;
      sends = c.send.ensures.added ∙ ap (λ p. c.args.effects.now.sends ++ (c.args.from, p) ∷ []) (c.in_ok-append-in-Back.ensures ∙ ap (λ (t : RaftView _ _ _). append t c.args.from) c.note.ensures.state);
    })
