-- How leaders are elected and what they begin with (the Raft paper, sections 5.1, 5.2 and 5.4.1, and Figure 2).
use Rattle.std.specs.Prelude.{ℕ, Bool, true, false, ◌&&◌, [], ◌∷◌, nat_lt, ◌==◌, if◌then◌else◌, List, ◌++◌, length, replicate}
use Rattle.vst_base.specs.Elections.{is_majority, is_up_to_date}
use Rattle.vst_base.specs.Machines.{MachineMeaning}
use Rattle.raft_election.specs.Ballots.{counted, grants, learned, may_start, started, voted_for, has_vote}
use Rattle.raft_types.specs.Messages.{RequestVoteView, VoteView}
use Rattle.raft_types.specs.declared.msg.RaftMsg.TheVariants as msg
use Rattle.raft_xform.specs.declared.role.Role.TheVariants as role
use Rattle.raft_xform.specs.Nodes.{RaftEffect, RaftView, is_candidate, is_leader, sending, stays}
use Rattle.raft_xform.specs.Sending.{appends, request, to_others}
use Rattle.vst_base.specs.declared.what.What.{What}
use Rattle.vst_base.specs.declared.what.What.TheVariants.{Noop}
use Rattle.raft_commit.specs.Peers.{new_peer}
use Rattle.raft_types.specs.declared.limits.TheConstants.{MAX_INDEX}
use Rattle.raft_types.specs.declared.msg.RaftMsg.{RaftMsg}
use Rattle.raft_xform.specs.Applying.{settled}

module _ {S C O : Type 0} where
  -- packets with what else happens
  abbrev pub and_sending : RaftEffect S C O → List (ℕ × RaftMsg C) → RaftEffect S C O
  and_sending e packets = record { state = e.state; outputs = e.outputs; sends = packets }

  -- it adds an entry of its term, which holds this, at the end of its log
  abbrev pub with_entry : RaftView S C O → What C → RaftView S C O
  with_entry s what = record s { log = s.log ++ record { term = s.ballot.term; what = what } ∷ [] }

  -- it commits and applies what it may, and then sends every other node entries from its next index on, with that commit
  abbrev pub broadcasts : MachineMeaning S C O → ℕ → ℕ → RaftView S C O → RaftEffect S C O
  broadcasts m nodes me s = let e = settled m nodes me s in and_sending e (appends nodes me e.state)

  -- a new leader knows nothing of the other nodes' logs
  abbrev pub led : ℕ → RaftView S C O → RaftView S C O
  led nodes s = record s { role = role.Leader; peers = replicate nodes (new_peer (length s.log)) }

  -- and has a no-op at the end of its log, where that has room: once most nodes have it, all before it is committed
  abbrev pub with_noop : RaftView S C O → RaftView S C O
  with_noop s = if nat_lt (length s.log) MAX_INDEX then with_entry s Noop else s

  -- upon election: add the no-op, commit and apply what may be, and send it
  abbrev pub lead : MachineMeaning S C O → ℕ → ℕ → RaftView S C O → RaftEffect S C O
  lead m nodes me s = broadcasts m nodes me (with_noop (led nodes s))

module _ {S C O : Type 0} where
  -- votes received from a majority of servers
  abbrev pub has_won : ℕ → RaftView S C O → Bool
  has_won nodes s = is_majority nodes (has_vote s.ballot.votes)

  -- on conversion to candidate: increment the term, vote for self
  abbrev pub candidate : ℕ → RaftView S C O → RaftView S C O
  candidate me s = record s { role = role.Candidate; ballot = started me s.ballot }

  -- send RequestVote to all other servers, or lead where its own vote is a majority
  abbrev pub campaign : MachineMeaning S C O → ℕ → ℕ → RaftView S C O → RaftEffect S C O
  campaign m nodes me s = if has_won nodes s then lead m nodes me s else sending s (to_others nodes me (λ _. request s))

  -- a leader's timer: repeat heartbeats. Of any other node: start an election, unless there is no next term
  abbrev pub tick : MachineMeaning S C O → ℕ → ℕ → RaftView S C O → RaftEffect S C O
  tick m nodes me s =
      if is_leader s.role then sending s (appends nodes me s)
      else (if may_start s.ballot then campaign m nodes me (candidate me s) else stays s)

  -- a message of a greater term, whatever it says: go on to the term, and follow
  abbrev pub heard : ℕ → RaftView S C O → RaftView S C O
  heard term s = if nat_lt s.ballot.term term then record s { role = role.Follower; ballot = learned term s.ballot } else s

  -- a node in this state answers a candidate
  abbrev pub vote : RaftView S C O → Bool → ℕ → RaftEffect S C O
  vote s granted to = sending s ((to, msg.Vote (record { term = s.ballot.term; granted = granted })) ∷ [])

  -- the candidate's log is at least as up-to-date as this one
  abbrev pub sees_up_to_date : RaftView S C O → RequestVoteView → Bool
  sees_up_to_date s r = is_up_to_date s.log r.last_index r.last_term

  -- RequestVote: grant it in the node's own term, where no other candidate has the vote and the log is up to date
  abbrev pub on_request : RaftView S C O → ℕ → RequestVoteView → RaftEffect S C O
  on_request s from r =
      if grants s.ballot r.term from (sees_up_to_date s r)
      then vote (record s { ballot = voted_for from s.ballot }) true from
      else vote s false from

  -- a vote more is counted
  abbrev pub voted : RaftView S C O → ℕ → RaftView S C O
  voted s from = record s { ballot = counted from s.ballot }

  -- Vote: a candidate counts one that was granted in its term, and leads once it has a majority
  abbrev pub on_vote : MachineMeaning S C O → ℕ → ℕ → RaftView S C O → ℕ → VoteView → RaftEffect S C O
  on_vote m nodes me s from v =
      if is_candidate s.role && v.term == s.ballot.term && v.granted
      then (if has_won nodes (voted s from) then lead m nodes me (voted s from) else stays (voted s from))
      else stays s
