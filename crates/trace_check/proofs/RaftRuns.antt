-- What clients see of a cluster has a text, where they ask in texts: each node's log holds commands that have texts, and so do the
-- entries that are sent, to nodes that exist.
use Rattle.std.specs.Prelude.{ℕ, zero, suc, ◌-◌, ◌<◌, ◌≤◌, Bool, true, false, not, ◌==◌, ◌&&◌, List, [], ◌∷◌, drop, take, length, nat_le, nat_lt, cond}
use Rattle.std.proofs.Common.{arith}
use Rattle.raft_clients.specs.Sessions.{applied_all}
use Rattle.raft_commit.specs.declared.peer.Moved.{Moved}
use Rattle.raft_commit.specs.declared.peer.Moved.TheVariants as moves
use Rattle.raft_election.specs.Ballots.{grants, learned, may_start, voted_for}
use Rattle.raft_text.specs.RaftTexts.{IsRaftInput, IsRaftOutput}
use Rattle.raft_types.specs.Messages.{AppendView, AppendedView, RequestVoteView, VoteView}
use Rattle.raft_types.specs.Terms.{term_of}
use Rattle.raft_types.specs.declared.client.RaftInput.{RaftInput}
use Rattle.raft_types.specs.declared.client.RaftOut.{RaftOut}
use Rattle.raft_types.specs.declared.client.RaftOut.TheVariants as told
use Rattle.raft_types.specs.declared.limits.TheConstants.{MAX_BATCH, MAX_INDEX}
use Rattle.raft_types.specs.declared.msg.RaftMsg.{RaftMsg}
use Rattle.raft_types.specs.declared.msg.RaftMsg.TheVariants as msg
use Rattle.raft_xform.specs.declared.role.Role.TheVariants as role
use Rattle.raft_xform.specs.Applying.{caught_up, committed, due, settled}
use Rattle.raft_xform.specs.Electing.{campaign, candidate, has_won, heard, on_request, on_vote, sees_up_to_date, tick, vote, voted, and_sending, lead, led, broadcasts, with_entry, with_noop}
use Rattle.raft_xform.specs.Nodes.{RaftEffect, RaftView, is_candidate, is_leader, peer_at, sending, stays}
use Rattle.raft_xform.specs.Raft.{by_message, raft, raft_recovery}
use Rattle.raft_xform.specs.Replicating.{answer, follower, known, last_new, may_take, moved_by, on_append, on_appended, on_input, on_moved, proposed, proposes, taken, takes, telling}
use Rattle.raft_xform.specs.Sending.{append, append_rest, appends, request, to_others}
use Rattle.vst_base.specs.Logs.{merged}
use Rattle.vst_base.specs.Machines.{MachineMeaning}
use Rattle.vst_base.specs.declared.entry.Entry.{Entry}
use Rattle.vst_base.specs.declared.net.Net.TheVariants as net
use Rattle.vst_base.specs.declared.what.What.{What}
use Rattle.vst_base.specs.declared.what.What.TheVariants.{Noop, Request}
use Rattle.trace_check.proofs.Eaches.{either}
use Rattle.trace_check.proofs.Machines.{MachineKeeps}
use Rattle.trace_check.proofs.RaftApplying.{AreTextSessions, IsTextEntry, all-text, no-sessions, replies-text}
use Rattle.trace_check.proofs.Runs.{IsFine, KeepsTexts}
use Rattle.lists.specs.Each.{Each, each_append, each_drop, each_take}

-- old entries and new ones
merged-each : {C : Type 0} (P : Entry C → Type 0) (old es : List (Entry C)) → Each P old → Each P es → Each P (merged old es)
merged-each P old [] first second = first
merged-each P [] (e ∷ es) first second = second
merged-each P (o ∷ os) (e ∷ es) first second = either (Each P) (o.term == e.term) (o ∷ merged os es) (e ∷ es) (first.0, merged-each P os es first.1 second.1) second

module _ {S C O : Type 0} (m : MachineMeaning S C O) (HasIn : C → Type 0) (HasOut : O → Type 0) (Sound : S → Type 0) (keeps : MachineKeeps m HasIn HasOut Sound) (nodes : ℕ) where
  abbrev IsText : Entry C → Type 0
  IsText e = IsTextEntry m HasIn HasOut Sound keeps e

  -- the log of a node, its machine, and what it keeps of clients
  abbrev pub IsTextNode : ℕ → RaftView S C O → Type 0
  IsTextNode n s = Each IsText s.log × Sound s.machine × AreTextSessions m HasIn HasOut Sound keeps s.sessions

  abbrev pub IsTextRaftMsg : RaftMsg C → Type 0
  IsTextRaftMsg (msg.RequestVote r) = Unit {0}
  IsTextRaftMsg (msg.Vote v) = Unit {0}
  IsTextRaftMsg (msg.Append a) = Each IsText a.entries
  IsTextRaftMsg (msg.Appended a) = Unit {0}

  abbrev IsRaftFine : ℕ → RaftEffect S C O → Type 0
  IsRaftFine n e = IsFine net.Fail (raft nodes m) (raft_recovery m) (IsRaftInput HasIn) (IsRaftOutput HasOut) IsTextNode IsTextRaftMsg n e

  abbrev IsSentText : ℕ × RaftMsg C → Type 0
  IsSentText p = (p.0 < nodes) × IsTextRaftMsg p.1

  stays-fine : (n : ℕ) (s : RaftView S C O) → IsTextNode n s → IsRaftFine n (stays s)
  stays-fine n s text = record { state = text; outputs = tt; sends = tt }

  sending-fine : (n : ℕ) (s : RaftView S C O) (packets : List (ℕ × RaftMsg C)) → IsTextNode n s → Each IsSentText packets → IsRaftFine n (sending s packets)
  sending-fine n s packets text sent = record { state = text; outputs = tt; sends = sent }

  telling-fine : (n : ℕ) (s : RaftView S C O) (o : RaftOut O) → IsTextNode n s → IsRaftOutput HasOut o → IsRaftFine n (telling s o)
  telling-fine n s o text has = record { state = text; outputs = (has, tt); sends = tt }

  and-sending-fine : (n : ℕ) (e : RaftEffect S C O) (packets : List (ℕ × RaftMsg C)) → IsRaftFine n e → Each IsSentText packets → IsRaftFine n (and_sending e packets)
  and-sending-fine n e packets fine sent = record { state = fine.state; outputs = fine.outputs; sends = sent }

  -- what is sent to each other node, and to one
  others-sent : (n me : ℕ) (message : ℕ → RaftMsg C) → n ≤ nodes → ((k : ℕ) → IsTextRaftMsg (message k)) → Each IsSentText (to_others n me message)
  others-sent zero me message within text = tt
  others-sent (suc n) me message within text =
      each_append IsSentText (to_others n me message) (cond (n == me) [] ((n, message n) ∷ [])) (others-sent n me message (omega (arith, within)) text) (either (Each IsSentText) (n == me) [] ((n, message n) ∷ []) tt ((omega (arith, within), text n), tt))

  append-text : (n : ℕ) (s : RaftView S C O) (k : ℕ) → IsTextNode n s → IsTextRaftMsg (append s k)
  append-text n s k text = each_take IsText MAX_BATCH (drop ((peer_at s.peers k).next - 1) s.log) (each_drop IsText ((peer_at s.peers k).next - 1) s.log text.0)

  appends-sent : (n me : ℕ) (s : RaftView S C O) → IsTextNode n s → Each IsSentText (appends nodes me s)
  appends-sent n me s text = others-sent nodes me (append s) (omega arith) (λ k. append-text n s k text)

  rest-sent : (n : ℕ) (s : RaftView S C O) (to : ℕ) → to < nodes → IsTextNode n s → Each IsSentText (append_rest s to)
  rest-sent n s to below text = either (Each IsSentText) (nat_le (peer_at s.peers to).next (length s.log)) ((to, append s to) ∷ []) [] ((below, append-text n s to text), tt) tt

  -- applying what is committed
  caught-up-fine : (me : ℕ) (s : RaftView S C O) → IsTextNode me s → IsRaftFine me (caught_up m me s)
  caught-up-fine me s text =
      let after = all-text m HasIn HasOut Sound keeps s.machine s.sessions (due s) text.1 text.2 (each_take IsText (s.commit - s.applied) (drop s.applied s.log) (each_drop IsText s.applied s.log text.0)) in
      record { state = (text.0, after.state, after.sessions); outputs = replies-text m HasIn HasOut Sound keeps me (applied_all m s.machine s.sessions (due s)).answers after.answers; sends = tt }

  settled-fine : (me : ℕ) (s : RaftView S C O) → IsTextNode me s → IsRaftFine me (settled m nodes me s)
  settled-fine me s text = caught-up-fine me (committed nodes me s) text

  -- a leader with one more entry, that broadcasts its log
  with-entry-text : (me : ℕ) (s : RaftView S C O) (what : What C) → IsTextNode me s → IsText (record { term = s.ballot.term; what = what }) → IsTextNode me (with_entry s what)
  with-entry-text me s what text has = (each_append IsText s.log (record { term = s.ballot.term; what = what } ∷ []) text.0 (has, tt), text.1, text.2)

  broadcasts-fine : (me : ℕ) (s : RaftView S C O) → IsTextNode me s → IsRaftFine me (broadcasts m nodes me s)
  broadcasts-fine me s text =
      let fine = settled-fine me s text in
      and-sending-fine me (settled m nodes me s) (appends nodes me (settled m nodes me s).state) fine (appends-sent me me (settled m nodes me s).state fine.state)

  proposes-fine : (me : ℕ) (s : RaftView S C O) (i : RaftInput C) → IsTextNode me s → IsRaftInput HasIn i → IsRaftFine me (proposes m nodes me s i)
  proposes-fine me s i text has = broadcasts-fine me (proposed me s i) (with-entry-text me s (Request i.client i.request me i.cmd) text has)

  input-fine : (me : ℕ) (s : RaftView S C O) (i : RaftInput C) → IsTextNode me s → IsRaftInput HasIn i → IsRaftFine me (on_input m nodes me s i)
  input-fine me s i text has =
      either (IsRaftFine me) (not (is_leader s.role)) (telling s (told.NotLeader i.client i.request)) (cond (length s.log == MAX_INDEX) (telling s (told.Full i.client i.request)) (proposes m nodes me s i))
      (telling-fine me s (told.NotLeader i.client i.request) text (has.0, has.1))
      (either (IsRaftFine me) (length s.log == MAX_INDEX) (telling s (told.Full i.client i.request)) (proposes m nodes me s i) (telling-fine me s (told.Full i.client i.request) text (has.0, has.1)) (proposes-fine me s i text has))

  -- elections
  lead-fine : (me : ℕ) (s : RaftView S C O) → IsTextNode me s → IsRaftFine me (lead m nodes me s)
  lead-fine me s text =
      broadcasts-fine me (with_noop (led nodes s))
      (either (IsTextNode me) (nat_lt (length s.log) MAX_INDEX) (with_entry (led nodes s) Noop) (led nodes s) (with-entry-text me (led nodes s) Noop text tt) text)

  campaign-fine : (me : ℕ) (s : RaftView S C O) → IsTextNode me s → IsRaftFine me (campaign m nodes me s)
  campaign-fine me s text =
      either (IsRaftFine me) (has_won nodes s) (lead m nodes me s) (sending s (to_others nodes me (λ _. request s))) (lead-fine me s text)
      (sending-fine me s (to_others nodes me (λ _. request s)) text (others-sent nodes me (λ _. request s) (omega arith) (λ k. tt)))

  tick-fine : (me : ℕ) (s : RaftView S C O) → IsTextNode me s → IsRaftFine me (tick m nodes me s)
  tick-fine me s text =
      either (IsRaftFine me) (is_leader s.role) (sending s (appends nodes me s)) (cond (may_start s.ballot) (campaign m nodes me (candidate me s)) (stays s)) (sending-fine me s (appends nodes me s) text (appends-sent me me s text))
      (either (IsRaftFine me) (may_start s.ballot) (campaign m nodes me (candidate me s)) (stays s) (campaign-fine me (candidate me s) text) (stays-fine me s text))

  vote-fine : (me : ℕ) (s : RaftView S C O) (granted : Bool) (to : ℕ) → to < nodes → IsTextNode me s → IsRaftFine me (vote s granted to)
  vote-fine me s granted to below text = record { state = text; outputs = tt; sends = ((below, tt), tt) }

  request-fine : (me : ℕ) (s : RaftView S C O) (from : ℕ) (r : RequestVoteView) → from < nodes → IsTextNode me s → IsRaftFine me (on_request s from r)
  request-fine me s from r below text =
      either (IsRaftFine me) (grants s.ballot r.term from (sees_up_to_date s r)) (vote (record s { ballot = voted_for from s.ballot }) true from) (vote s false from)
      (vote-fine me (record s { ballot = voted_for from s.ballot }) true from below text) (vote-fine me s false from below text)

  voted-fine : (me : ℕ) (s : RaftView S C O) (from : ℕ) (v : VoteView) → IsTextNode me s → IsRaftFine me (on_vote m nodes me s from v)
  voted-fine me s from v text =
      either (IsRaftFine me) (is_candidate s.role && v.term == s.ballot.term && v.granted) (cond (has_won nodes (voted s from)) (lead m nodes me (voted s from)) (stays (voted s from))) (stays s)
      (either (IsRaftFine me) (has_won nodes (voted s from)) (lead m nodes me (voted s from)) (stays (voted s from)) (lead-fine me (voted s from) text) (stays-fine me (voted s from) text)) (stays-fine me s text)

  -- entries of a leader
  answer-sent : (s : RaftView S C O) (ok : Bool) (index to : ℕ) → to < nodes → Each IsSentText (answer s ok index to)
  answer-sent s ok index to below = ((below, tt), tt)

  takes-fine : (me : ℕ) (s : RaftView S C O) (from : ℕ) (a : AppendView C) → from < nodes → IsTextNode me s → Each IsText a.entries → IsRaftFine me (takes m me s from a)
  takes-fine me s from a below text has =
      let log = each_append IsText (take a.prev_index s.log) (merged (drop a.prev_index s.log) a.entries) (each_take IsText a.prev_index s.log text.0)
      (merged-each IsText (drop a.prev_index s.log) a.entries (each_drop IsText a.prev_index s.log text.0) has) in
      and-sending-fine me (caught_up m me (taken s a)) (answer s true (last_new a) from) (caught-up-fine me (taken s a) (log, text.1, text.2)) (answer-sent s true (last_new a) from below)

  append-fine : (me : ℕ) (s : RaftView S C O) (from : ℕ) (a : AppendView C) → from < nodes → IsTextNode me s → Each IsText a.entries → IsRaftFine me (on_append m me s from a)
  append-fine me s from a below text has =
      let refused = sending (follower s) (answer s false a.prev_index from) in
      let takes_or_not = cond (may_take s a) (takes m me s from a) refused in
      either (IsRaftFine me) (nat_lt a.term s.ballot.term) (sending s (answer s false a.prev_index from)) (cond (is_leader s.role) (stays s) takes_or_not)
      (sending-fine me s (answer s false a.prev_index from) text (answer-sent s false a.prev_index from below))
      (either (IsRaftFine me) (is_leader s.role) (stays s) takes_or_not (stays-fine me s text)
      (either (IsRaftFine me) (may_take s a) (takes m me s from a) refused (takes-fine me s from a below text has) (sending-fine me (follower s) (answer s false a.prev_index from) text (answer-sent s false a.prev_index from below))))

  -- and what becomes of them
  moved-fine : (me : ℕ) (s : RaftView S C O) (from : ℕ) (moved : Moved) → from < nodes → IsTextNode me s → IsRaftFine me (on_moved m nodes me s from moved)
  moved-fine me s from moves.Raised below text =
      let fine = settled-fine me s text in
      and-sending-fine me (settled m nodes me s) (append_rest (settled m nodes me s).state from) fine (rest-sent me (settled m nodes me s).state from below fine.state)
  moved-fine me s from moves.Back below text = sending-fine me s ((from, append s from) ∷ []) text ((below, append-text me s from text), tt)
  moved-fine me s from moves.Nothing below text = stays-fine me s text

  appended-fine : (me : ℕ) (s : RaftView S C O) (from : ℕ) (a : AppendedView) → from < nodes → IsTextNode me s → IsRaftFine me (on_appended m nodes me s from a)
  appended-fine me s from a below text =
      either (IsRaftFine me) (is_leader s.role && a.term == s.ballot.term) (on_moved m nodes me (known s from a) from (moved_by s from a)) (stays s) (moved-fine me (known s from a) from (moved_by s from a) below text) (stays-fine me s text)

  by-message-fine : (me : ℕ) (s : RaftView S C O) (from : ℕ) (message : RaftMsg C) → from < nodes → IsTextNode me s → IsTextRaftMsg message → IsRaftFine me (by_message m nodes me s from message)
  by-message-fine me s from (msg.RequestVote r) below text has = request-fine me s from r below text
  by-message-fine me s from (msg.Vote v) below text has = voted-fine me s from v text
  by-message-fine me s from (msg.Append a) below text has = append-fine me s from a below text has
  by-message-fine me s from (msg.Appended a) below text has = appended-fine me s from a below text

  heard-text : (me term : ℕ) (s : RaftView S C O) → IsTextNode me s → IsTextNode me (heard term s)
  heard-text me term s text = either (IsTextNode me) (nat_lt s.ballot.term term) (record s { role = role.Follower; ballot = learned term s.ballot }) s text text

  pub raft-keeps : KeepsTexts net.Fail (raft nodes m) (raft_recovery m) (IsRaftInput HasIn) (IsRaftOutput HasOut) IsTextNode IsTextRaftMsg
  raft-keeps = record {
    init = λ n. (tt, keeps.init, no-sessions m HasIn HasOut Sound keeps);
    input = λ n s i below text has. input-fine n s i text has;
    message = λ n s from message below from_below text has. by-message-fine n (heard (term_of message) s) from message from_below (heard-text n (term_of message) s text) has;
    timeout = λ n s below text. tick-fine n s text;
    reboot = λ n s text. (text.0, keeps.init, no-sessions m HasIn HasOut Sound keeps);
  }
