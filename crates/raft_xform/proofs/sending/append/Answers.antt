use Rattle.std.proofs.Common.{◌≡◌, ◌∙◌, ap, arith, length}
use Rattle.raft_xform.specs.Sound.{IsPeer}
use Rattle.raft_xform.proofs.Doing.{peer_there}
use Rattle.raft_xform.proofs.sending.append.Goals as goal

pub next_batch-requires-clause-to_the_end : goal.next_batch-requires-clause-to_the_end
next_batch-requires-clause-to_the_end g c =
    let s = c.args.state.now in
    let peers : c.state.inside.peers.items ≡ s.peers = ap (λ v. v.peers) c.state.view_is in
    let log : length c.state.inside.log ≡ length s.log = ap (λ v. length v.log) c.state.view_is in
    let peer : IsPeer (length s.log) c.index-2.result.now = peer_there (length s.log) c.state.inside.peers.items s.peers c.from.result c.args.to c.index-2.result.now peers (c.from.ensures ∙ c.index.ensures) c.requires.to c.index-2.ensures c.requires.state.peers in
    omega (arith, peer.1, c.next-next.ensures.value, ap length c.entries.ensures.entries, log)

pub new-requires-2-clause-last_index : goal.new-requires-2-clause-last_index
new-requires-2-clause-last_index g c =
    omega (arith, c.next_batch.ensures.within, c.entries.ensures.in_range, ap length c.in_ok-entries.ensures, ap length c.new.ensures)
