-- What a kind of Raft has to show, for its nodes to be mirrored by free choices over whole logs; and ways of free choices.
use Rattle.std.proofs.Common.{◌≡◌, ◌≢◌, ℕ, suc, ◌<◌, ◌≤◌, true, false, List, [], ◌∷◌, ◌++◌, length, sym, refl, arith}
use Rattle.std.proofs.lemmas.Bool.{false≢true}
use Rattle.vst_base.specs.Machines.{MachineMeaning}
use Rattle.vst_base.specs.declared.entry.Entry.{Entry}
use Rattle.raft_commit.specs.Peers.{PeerView}
use Rattle.raft_free.specs.Events.{Allowed, Event, In, becomes, says}
use Rattle.raft_free.specs.Nodes as free
use Rattle.raft_types.specs.declared.msg.RaftMsg.{RaftMsg}
use Rattle.raft_snapshots.specs.Logs.{last_index}
use Rattle.raft_safety.specs.Mirrors.{free_packet, free_role}
use Rattle.raft_xform.specs.declared.role.Role.TheVariants.{Candidate, Follower, Leader}
use Rattle.raft_snapshots.specs.Nodes.{Kind, NodeView}
use Rattle.raft_xform.specs.declared.role.Role.{Role}
use Rattle.raft_xform.specs.Nodes.{is_candidate, is_leader, peer_at}
use Rattle.raft_xform.specs.Sending.{to_others}
use Rattle.raft_snapshots.proofs.Fronts.{IsGone}
use Rattle.snap_safety.specs.Mirrors.{HoldsNode, free_node}
use Rattle.snap_safety.proofs.Acting.{Does, IsOf, Kept, does_at, does_each, does_nothing, does_one, does_say, does_then}
use Rattle.snap_safety.proofs.Telling.{did_all}

pub leads_true : (r : Role) → is_leader r ≡ true → free_role r ≡ free.Leader
leads_true Leader e = refl
leads_true Candidate e = absurd (false≢true e)
leads_true Follower e = absurd (false≢true e)

pub leads_false : (r : Role) → is_leader r ≡ false → free_role r ≢ free.Leader
leads_false Leader e h = absurd (false≢true (sym e))
leads_false Candidate e h = absurd (cc (h))
leads_false Follower e h = absurd (cc (h))

pub stands_true : (r : Role) → is_candidate r ≡ true → free_role r ≡ free.Candidate
stands_true Candidate e = refl
stands_true Leader e = absurd (false≢true e)
stands_true Follower e = absurd (false≢true e)

-- a node that is up
abbrev pub up : {S C O X : Type 0} → List (Entry C) → NodeView S C O X → free.NodeState C
up front s = free_node front true s

-- what a leader knows of the nodes, when its log ends there
pub record KnowsPeers (n last : ℕ) (peers : List PeerView) : Type 0 where
  pub each : length peers ≡ n
  pub next : (j : ℕ) → (peer_at peers j).next ≤ suc last

abbrev pub Knows : {S C O X : Type 0} → ℕ → NodeView S C O X → Type 0
Knows n s = is_leader s.role ≡ true → KnowsPeers n (last_index s.log) s.peers

-- what a node becomes that has applied entries, and then does what its kind does
pub record Settled {S C O X : Type 0} (m : MachineMeaning S C O) (Own : List (Entry C) → X → Type 0) (notes : List (Entry C) → X → Type 0) (front : List (Entry C))
    (s : NodeView S C O X) (es : List (Entry C)) (t : NodeView S C O X) : Type 0 where
  pub after : List (Entry C)
  pub is : up after t ≡ up front s
  pub holds : HoldsNode m Own after t
  pub role : t.role ≡ s.role
  pub last : last_index t.log ≡ last_index s.log
  pub peers : t.peers ≡ s.peers
  pub did : did_all after t ≡ did_all front s
  pub noted : notes es t.more
  pub applied : t.applied ≡ s.applied

-- of the node i of so many, where these packets were sent: which free packets mirror its messages, what its kind holds and notes
-- of its own, and which messages are such as it may send once it has applied so much
pub record Law {S C O X M : Type 0} (m : MachineMeaning S C O) (kind : Kind S C O X M) (n i : ℕ) (P : Entry C → Type 0) : Type 1 where
  pub Is : List (free.Packet C) → ℕ → M → Type 0
  pub Own : List (Entry C) → X → Type 0
  pub notes : List (Entry C) → X → Type 0
  pub Fits : ℕ → M → Type 0
  pub mono : (sent new : List (free.Packet C)) (to : ℕ) (message : M) → Kept sent new → Is sent to message → Is new to message
  pub raft : (sent : List (free.Packet C)) (to : ℕ) (r : RaftMsg C) → In (free_packet i to r) sent → Is sent to (kind.message r)
  pub raft_fits : (applied : ℕ) (r : RaftMsg C) → Fits applied (kind.message r)
  pub says : (front : List (Entry C)) (s : NodeView S C O X) → HoldsNode m Own front s → is_leader s.role ≡ true → Knows n s → (j : ℕ) → j ≢ i →
      (sent : List (free.Packet C)) → Does n i P Is sent (up front s) (up front s) ((j, kind.says s j) ∷ [])
  pub says_fits : (front : List (Entry C)) (s : NodeView S C O X) → HoldsNode m Own front s → (j : ℕ) → Fits s.applied (kind.says s j)
  pub leads : (front : List (Entry C)) (x : X) → Own front x → Own front (kind.leads n x)
  pub leads_notes : (x : X) → notes [] x → notes [] (kind.leads n x)
  pub settles : (front : List (Entry C)) (s : NodeView S C O X) (es : List (Entry C)) → HoldsNode m Own front s → Settled m Own notes front s es (kind.settles es s)

module _ {S C O X M : Type 0} {m : MachineMeaning S C O} {kind : Kind S C O X M} {n i : ℕ} {P : Entry C → Type 0} (law : Law m kind n i P) (packets : List (free.Packet C)) where
  abbrev pub Goes : List (free.Packet C) → free.NodeState C → free.NodeState C → List (ℕ × M) → Type 0
  Goes sent x y out = Does n i P law.Is sent x y out

  -- where these packets were sent, and maybe more, the node goes so
  abbrev pub Moves : free.NodeState C → free.NodeState C → List (ℕ × M) → Type 0
  Moves x y out = (sent : List (free.Packet C)) → Kept packets sent → Goes sent x y out

  pub nowhere : {x y : free.NodeState C} → y ≡ x → Moves x y []
  nowhere e = λ sent k. does_nothing n i P law.Is law.mono e

  pub by_one : {x y : free.NodeState C} (e : Event C) → IsOf i P e → ((sent : List (free.Packet C)) → Kept packets sent → Allowed n sent x e) → y ≡ becomes x e → Moves x y []
  by_one e a ok is = λ sent k. does_one n i P law.Is law.mono e a (ok sent k) is

  pub by_say : {x y : free.NodeState C} (e : Event C) (to : ℕ) (message : M) → IsOf i P e → ((sent : List (free.Packet C)) → Kept packets sent → Allowed n sent x e) → y ≡ becomes x e →
      ((sent : List (free.Packet C)) → law.Is (says x e ++ sent) to message) → Moves x y ((to, message) ∷ [])
  by_say e to message a ok is said = λ sent k. does_say n i P law.Is law.mono e to message a (ok sent k) is (said sent)

  -- a message of Raft
  pub by_raft : {x y : free.NodeState C} (e : Event C) (to : ℕ) (r : RaftMsg C) → IsOf i P e → ((sent : List (free.Packet C)) → Kept packets sent → Allowed n sent x e) → y ≡ becomes x e →
      ((sent : List (free.Packet C)) → In (free_packet i to r) (says x e ++ sent)) → Moves x y ((to, kind.message r) ∷ [])
  by_raft {x = x} e to r a ok is said = by_say e to (kind.message r) a ok is (λ sent. law.raft (says x e ++ sent) to r (said sent))

  pub on : {x y z : free.NodeState C} {out more : List (ℕ × M)} → Moves x y out → Moves y z more → Moves x z (out ++ more)
  on a b = λ sent k. does_then n i P law.Is law.mono (a sent k) (λ mid old. b mid (λ p h. old p (k p h)))

  pub at_last : {x y z : free.NodeState C} {out : List (ℕ × M)} → z ≡ y → Moves x y out → Moves x z out
  at_last e a = λ sent k. does_at n i P law.Is law.mono e (a sent k)

  pub gone : (front : List (Entry C)) (s : NodeView S C O X) → HoldsNode m law.Own front s → IsGone front s.log
  gone front s h = record { gone = h.gone; gone_term = h.gone_term }

  -- a message to each other node
  pub each_other : {x : free.NodeState C} (f : ℕ → M) → ((j : ℕ) → j < n → j ≢ i → (sent : List (free.Packet C)) → Goes sent x x ((j, f j) ∷ [])) → Moves x x (to_others n i f)
  each_other f each = λ sent k. does_each n i P law.Is law.mono f each n (omega arith) sent
