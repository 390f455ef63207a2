-- From where on a leader sends each node entries.
use Rattle.std.proofs.Common.{◌≡◌, ◌≢◌, ℕ, zero, suc, ◌<◌, ◌≤◌, List, length, replicate, eqb, set, ◌⊎◌, inl, inr, true, false, arith}
use Rattle.std.proofs.lemmas.Bool.Decides.{eqb_tells}
use Rattle.std.proofs.lemmas.List.{get_or-set_other, get_or-set_same}
use Rattle.raft_commit.specs.Peers.{PeerView, new_peer}
use Rattle.raft_xform.specs.Nodes.{peer_at}

-- where it sends each node entries from
pub next_new : (n len j : ℕ) → (peer_at (replicate n (new_peer len)) j).next ≤ suc len
next_new zero len j = omega arith
next_new (suc n) len zero = omega arith
next_new (suc n) len (suc j) = next_new n len j

pub next_set : (peers : List PeerView) (k : ℕ) (p : PeerView) (most : ℕ) → k < length peers → p.next ≤ most → ((j : ℕ) → (peer_at peers j).next ≤ most) →
    (j : ℕ) → (peer_at (set peers k p) j).next ≤ most
next_set peers k p most below le all j = go (eqb_tells j k)
  where
    go : ((eqb j k ≡ true) × (j ≡ k)) ⊎ ((eqb j k ≡ false) × (j ≢ k)) → (peer_at (set peers k p) j).next ≤ most
    go (inl t) = rw (t.1, get_or-set_same peers k p (new_peer 0) below) le
    go (inr t) = rw (get_or-set_other peers k j p (new_peer 0) t.1) (all j)
