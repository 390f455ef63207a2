-- How leaders are elected and what they begin with (the Raft paper, sections 5.1, 5.2 and 5.4.1, and Figure 2).
use Rattle.std.specs.Prelude.{ℕ, Bool, true, false, ◌&&◌, [], ◌∷◌, ◌++◌, nat_lt, ◌==◌, replicate, if◌then◌else◌}
use Rattle.vst_base.specs.Elections.{is_majority}
use Rattle.vst_base.specs.Machines.{MachineMeaning}
use Rattle.vst_base.specs.declared.what.What.{What}
use Rattle.vst_base.specs.declared.what.What.TheVariants.{Noop}
use Rattle.raft_commit.specs.Peers.{new_peer}
use Rattle.raft_election.specs.Ballots.{counted, grants, has_vote, learned, may_start, started, voted_for}
use Rattle.raft_types.specs.Messages.{RequestVoteView, VoteView}
use Rattle.raft_types.specs.declared.limits.TheConstants.{MAX_INDEX}
use Rattle.raft_types.specs.declared.msg.RaftMsg.TheVariants as msg
use Rattle.raft_xform.specs.declared.role.Role.TheVariants as role
use Rattle.raft_xform.specs.Nodes.{is_candidate, is_leader}
use Rattle.raft_xform.specs.Sending.{to_others}
use Rattle.raft_snapshots.specs.Applying.{settled}
use Rattle.raft_snapshots.specs.Logs.{is_up_to_date, last_index, with_entries}
use Rattle.raft_snapshots.specs.Nodes.{Kind, NodeView, RaftEffect, and_sending, sending, stays}
use Rattle.raft_snapshots.specs.Sending.{request, says_all}

module _ {S C O X : Type 0} where
  -- it adds an entry of its term, which holds this, at the end of its log
  abbrev pub with_entry : NodeView S C O X → What C → NodeView S C O X
  with_entry s what = record s { log = with_entries s.log (s.log.entries ++ record { term = s.ballot.term; what = what } ∷ []) }

  -- a new leader has a no-op at the end of its log, where that has room: once most nodes have it, all before it is committed
  abbrev pub with_noop : NodeView S C O X → NodeView S C O X
  with_noop s = if nat_lt (last_index s.log) MAX_INDEX then with_entry s Noop else s

  -- votes received from a majority of servers
  abbrev pub has_won : ℕ → NodeView S C O X → Bool
  has_won nodes s = is_majority nodes (has_vote s.ballot.votes)

  -- on conversion to candidate: increment the term, vote for self
  abbrev pub candidate : ℕ → NodeView S C O X → NodeView S C O X
  candidate me s = record s { role = role.Candidate; ballot = started me s.ballot }

  -- a message of a greater term, whatever it says: go on to the term, and follow
  abbrev pub heard : ℕ → NodeView S C O X → NodeView S C O X
  heard term s = if nat_lt s.ballot.term term then record s { role = role.Follower; ballot = learned term s.ballot } else s

  -- the candidate's log is at least as up-to-date as this one
  abbrev pub sees_up_to_date : NodeView S C O X → RequestVoteView → Bool
  sees_up_to_date s r = is_up_to_date s.log r.last_index r.last_term

  -- a vote more is counted
  abbrev pub voted : NodeView S C O X → ℕ → NodeView S C O X
  voted s from = record s { ballot = counted from s.ballot }

module _ {S C O X M : Type 0} (kind : Kind S C O X M) where
  -- it commits and applies what it may, and then has something for each other node
  abbrev pub broadcasts : MachineMeaning S C O → ℕ → ℕ → NodeView S C O X → RaftEffect S C O X M
  broadcasts m nodes me s = let e = settled kind m nodes me s in and_sending e (says_all kind nodes me e.state)

  -- a new leader knows nothing of the other nodes' logs
  abbrev pub led : ℕ → NodeView S C O X → NodeView S C O X
  led nodes s = record s { role = role.Leader; peers = replicate nodes (new_peer (last_index s.log)); more = kind.leads nodes s.more }

  -- upon election: add the no-op, commit and apply what may be, and send it
  abbrev pub lead : MachineMeaning S C O → ℕ → ℕ → NodeView S C O X → RaftEffect S C O X M
  lead m nodes me s = broadcasts m nodes me (with_noop (led nodes s))

  -- send RequestVote to all other servers, or lead where its own vote is a majority
  abbrev pub campaign : MachineMeaning S C O → ℕ → ℕ → NodeView S C O X → RaftEffect S C O X M
  campaign m nodes me s =
      if has_won nodes s then lead m nodes me s else sending s (to_others nodes me (λ _. kind.message (request s)))

  -- a leader's timer: repeat what it has for the others. Of any other node: start an election, unless there is no next term
  abbrev pub tick : MachineMeaning S C O → ℕ → ℕ → NodeView S C O X → RaftEffect S C O X M
  tick m nodes me s =
      if is_leader s.role then sending s (says_all kind nodes me s)
      else (if may_start s.ballot then campaign m nodes me (candidate me s) else stays s)

  -- a node in this state answers a candidate
  abbrev pub vote : NodeView S C O X → Bool → ℕ → RaftEffect S C O X M
  vote s granted to = sending s ((to, kind.message (msg.Vote (record { term = s.ballot.term; granted = granted }))) ∷ [])

  -- RequestVote: grant it in the node's own term, where no other candidate has the vote and the log is up to date
  abbrev pub on_request : NodeView S C O X → ℕ → RequestVoteView → RaftEffect S C O X M
  on_request s from r =
      if grants s.ballot r.term from (sees_up_to_date s r)
      then vote (record s { ballot = voted_for from s.ballot }) true from
      else vote s false from

  -- Vote: a candidate counts one that was granted in its term, and leads once it has a majority
  abbrev pub on_vote : MachineMeaning S C O → ℕ → ℕ → NodeView S C O X → ℕ → VoteView → RaftEffect S C O X M
  on_vote m nodes me s from v =
      if is_candidate s.role && v.term == s.ballot.term && v.granted
      then (if has_won nodes (voted s from) then lead m nodes me (voted s from) else stays (voted s from))
      else stays s
