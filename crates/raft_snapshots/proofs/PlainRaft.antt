-- The kind that keeps its whole log is Raft.
use Rattle.std.proofs.Common.{◌≡◌, ℕ, ◌-◌, Bool, true, false, not, ◌&&◌, List, [], ◌∷◌, length, cond, eqb, leb, ltb, replicate, refl, ap, ◌∙◌, inl, inr, arith}
use Rattle.std.proofs.lemmas.Bool.{cases_Bool, ltb-true}
use Rattle.vst_base.specs.Elections.{learned_commit}
use Rattle.vst_base.specs.Machines.{MachineMeaning}
use Rattle.vst_base.specs.declared.entry.Entry.{Entry}
use Rattle.vst_base.specs.declared.what.What.TheVariants.{Noop}
use Rattle.raft_clients.specs.Sessions.{applied_all}
use Rattle.raft_commit.specs.Peers.{matched_of, moved, new_peer, peer_after}
use Rattle.raft_commit.specs.declared.peer.Moved.{Moved}
use Rattle.raft_commit.specs.declared.peer.Moved.TheVariants as moves
use Rattle.raft_election.specs.Ballots.{grants, learned, may_start, voted_for}
use Rattle.raft_types.specs.Messages.{AppendView, AppendedView, RequestVoteView, VoteView}
use Rattle.raft_types.specs.Terms.{term_of}
use Rattle.raft_types.specs.declared.client.RaftInput.{RaftInput}
use Rattle.raft_types.specs.declared.client.RaftOut.TheVariants as told
use Rattle.raft_types.specs.declared.limits.TheConstants.{MAX_BATCH, MAX_INDEX}
use Rattle.raft_types.specs.declared.msg.RaftMsg.{RaftMsg}
use Rattle.raft_types.specs.declared.msg.RaftMsg.TheVariants as msg
use Rattle.raft_xform.specs.Applying as raft_applying
use Rattle.raft_xform.specs.Electing as raft_electing
use Rattle.raft_xform.specs.Nodes as raft
use Rattle.raft_xform.specs.Raft as raft_messages
use Rattle.raft_xform.specs.Replicating as raft_replicating
use Rattle.raft_xform.specs.Sending as raft_sending
use Rattle.raft_xform.specs.Sending.{to_others}
use Rattle.raft_xform.specs.declared.role.Role.TheVariants as role
use Rattle.raft_snapshots.specs.Applying.{caught_up, committed, settled}
use Rattle.raft_snapshots.specs.Electing.{broadcasts, campaign, heard, lead, on_request, on_vote, tick, with_noop}
use Rattle.raft_snapshots.specs.Logs.{advance}
use Rattle.raft_snapshots.specs.Nodes.{RaftEffect, and_sending, sending, with_peer}
use Rattle.raft_snapshots.specs.Raft.{by_raft_message, plain}
use Rattle.raft_snapshots.specs.Replicating.{may_take, on_append, on_appended, on_input, on_moved, takes}
use Rattle.raft_snapshots.specs.Sending.{append, request, says_all, says_rest}
use Rattle.raft_snapshots.specs.Whole.{PlainIsRaft, whole_effect, whole_log, whole_node}
use Rattle.raft_snapshots.proofs.Plain.{plain_accepted, plain_advance, plain_after, plain_conflict, plain_last, plain_length, plain_matches, plain_term, plain_up_to_date}

none_below_zero : (n : ℕ) → ltb n 0 ≡ false
none_below_zero n = elim (cases_Bool (ltb n 0)) [ inl e ↦ (let h = ltb-true _ _ e in absurd (omega arith)) | inr e ↦ e ]

abbrev PlainEffect : Type 0 → Type 0 → Type 0 → Type 0
PlainEffect S C O = RaftEffect S C O (Unit {0}) (RaftMsg C)

module _ {S C O : Type 0} where
  node_either : (b : Bool) (x y : raft.RaftView S C O) → cond b (whole_node x) (whole_node y) ≡ whole_node (cond b x y)
  node_either true x y = refl
  node_either false x y = refl

  either : (b : Bool) (x y : PlainEffect S C O) (u v : raft.RaftEffect S C O) → x ≡ whole_effect u → y ≡ whole_effect v → cond b x y ≡ whole_effect (cond b u v)
  either true x y u v a b = a
  either false x y u v a b = b

  -- what is sent
  request_is : (s : raft.RaftView S C O) → request (whole_node s) ≡ raft_sending.request s
  request_is s = λ i. msg.RequestVote (record { term = s.ballot.term; last_index = plain_length s.log i; last_term = plain_last s.log i })

  append_is : (s : raft.RaftView S C O) (j : ℕ) → append (whole_node s) j ≡ raft_sending.append s j
  append_is s j =
      let prev = (raft.peer_at s.peers j).next - 1 in
      λ i. msg.Append (record {
        term = s.ballot.term;
        prev_index = prev;
        prev_term = plain_term s.log prev i;
        commit = s.commit;
        entries = plain_after s.log prev MAX_BATCH i;
      })

  says_all_is : (nodes me : ℕ) (s : raft.RaftView S C O) → says_all plain nodes me (whole_node s) ≡ raft_sending.appends nodes me s
  says_all_is nodes me s = λ i. to_others nodes me (λ j. append_is s j i)

  says_rest_is : (s : raft.RaftView S C O) (j : ℕ) → says_rest plain (whole_node s) j ≡ raft_sending.append_rest s j
  says_rest_is s j = λ i. cond (leb (raft.peer_at s.peers j).next (plain_length s.log i)) ((j, append_is s j i) ∷ []) []

module _ {S C O : Type 0} (m : MachineMeaning S C O) (nodes me : ℕ) where
  -- what is committed and applied
  caught_is : (s : raft.RaftView S C O) → caught_up plain m me (whole_node s) ≡ whole_effect (raft_applying.caught_up m me s)
  caught_is s = ap applying (plain_after s.log s.applied (s.commit - s.applied))
    where
      applying : List (Entry C) → PlainEffect S C O
      applying es =
          let all = applied_all m s.machine s.sessions es in
          record {
            state = record (whole_node s) { applied = s.commit; machine = all.state; sessions = all.sessions };
            outputs = raft_applying.replies me all.answers;
            sends = [];
          }

  committed_is : (s : raft.RaftView S C O) → committed nodes me (whole_node s) ≡ whole_node (raft_applying.committed nodes me s)
  committed_is s =
      ap (λ k. record (whole_node s) { commit = advance nodes me (matched_of s.peers) (whole_log s.log) s.ballot.term s.commit k }) (plain_length s.log)
      ∙ ap (λ c. record (whole_node s) { commit = c }) (plain_advance s.log nodes me (matched_of s.peers) s.ballot.term s.commit (length s.log))

  settled_is : (s : raft.RaftView S C O) → settled plain m nodes me (whole_node s) ≡ whole_effect (raft_applying.settled m nodes me s)
  settled_is s = ap (caught_up plain m me) (committed_is s) ∙ caught_is (raft_applying.committed nodes me s)

  -- what a leader does
  broadcasts_is : (s : raft.RaftView S C O) → broadcasts plain m nodes me (whole_node s) ≡ whole_effect (raft_electing.broadcasts m nodes me s)
  broadcasts_is s =
      let e = raft_applying.settled m nodes me s in
      ap (λ (x : PlainEffect S C O). and_sending x (says_all plain nodes me x.state)) (settled_is s)
      ∙ ap (λ ps. and_sending (whole_effect e) ps) (says_all_is nodes me e.state)

  with_noop_is : (s : raft.RaftView S C O) → with_noop (whole_node s) ≡ whole_node (raft_electing.with_noop s)
  with_noop_is s =
      ap (λ k. cond (ltb k MAX_INDEX) (whole_node (raft_electing.with_entry s Noop)) (whole_node s)) (plain_length s.log)
      ∙ node_either (ltb (length s.log) MAX_INDEX) (raft_electing.with_entry s Noop) s

  lead_is : (s : raft.RaftView S C O) → lead plain m nodes me (whole_node s) ≡ whole_effect (raft_electing.lead m nodes me s)
  lead_is s =
      let l = raft_electing.led nodes s in
      ap (λ k. broadcasts plain m nodes me (with_noop (record (whole_node s) { role = role.Leader; peers = replicate nodes (new_peer k) }))) (plain_length s.log)
      ∙ (ap (broadcasts plain m nodes me) (with_noop_is l) ∙ broadcasts_is (raft_electing.with_noop l))

  -- elections
  campaign_is : (s : raft.RaftView S C O) → campaign plain m nodes me (whole_node s) ≡ whole_effect (raft_electing.campaign m nodes me s)
  campaign_is s =
      either (raft_electing.has_won nodes s) _ _ (raft_electing.lead m nodes me s) (raft.sending s (to_others nodes me (λ _. raft_sending.request s))) (lead_is s)
      (ap (λ r. sending (whole_node s) (to_others nodes me (λ _. r))) (request_is s))

  tick_is : (s : raft.RaftView S C O) → tick plain m nodes me (whole_node s) ≡ whole_effect (raft_electing.tick m nodes me s)
  tick_is s =
      either (raft.is_leader s.role) _ _ (raft.sending s (raft_sending.appends nodes me s))
      (cond (may_start s.ballot) (raft_electing.campaign m nodes me (raft_electing.candidate me s)) (raft.stays s))
      (ap (sending (whole_node s)) (says_all_is nodes me s))
      (either (may_start s.ballot) _ _ (raft_electing.campaign m nodes me (raft_electing.candidate me s)) (raft.stays s) (campaign_is (raft_electing.candidate me s)) refl)

  heard_is : (term : ℕ) (s : raft.RaftView S C O) → heard term (whole_node s) ≡ whole_node (raft_electing.heard term s)
  heard_is term s = node_either (ltb s.ballot.term term) (record s { role = role.Follower; ballot = learned term s.ballot }) s

  request_came : (s : raft.RaftView S C O) (from : ℕ) (r : RequestVoteView) → on_request plain (whole_node s) from r ≡ whole_effect (raft_electing.on_request s from r)
  request_came s from r =
      let yes = raft_electing.vote (record s { ballot = voted_for from s.ballot }) true from in
      let no = raft_electing.vote s false from in
      ap (λ b. cond (grants s.ballot r.term from b) (whole_effect yes) (whole_effect no)) (plain_up_to_date s.log r.last_index r.last_term)
      ∙ either (grants s.ballot r.term from (raft_electing.sees_up_to_date s r)) _ _ yes no refl refl

  vote_came : (s : raft.RaftView S C O) (from : ℕ) (v : VoteView) → on_vote plain m nodes me (whole_node s) from v ≡ whole_effect (raft_electing.on_vote m nodes me s from v)
  vote_came s from v =
      let t = raft_electing.voted s from in
      either (raft.is_candidate s.role && eqb v.term s.ballot.term && v.granted) _ _ (cond (raft_electing.has_won nodes t) (raft_electing.lead m nodes me t) (raft.stays t)) (raft.stays s)
      (either (raft_electing.has_won nodes t) _ _ (raft_electing.lead m nodes me t) (raft.stays t) (lead_is t) refl) refl

  -- entries come
  may_take_is : (s : raft.RaftView S C O) (a : AppendView C) → may_take (whole_node s) a ≡ raft_replicating.may_take s a
  may_take_is s a = λ i. plain_matches s.log a.prev_index a.prev_term i && not (plain_conflict s.log s.commit a.prev_index a.entries i)

  takes_is : (s : raft.RaftView S C O) (from : ℕ) (a : AppendView C) → takes plain m me (whole_node s) from a ≡ whole_effect (raft_replicating.takes m me s from a)
  takes_is s from a =
      let t = raft_replicating.taken s a in
      let answers = raft_replicating.answer s true (raft_replicating.last_new a) from in
      ap (λ log. and_sending (caught_up plain m me (record (whole_node s) {
        role = role.Follower;
        log = log;
        commit = learned_commit s.commit a.commit (raft_replicating.last_new a);
      })) answers) (plain_accepted s.log a.prev_index a.entries)
      ∙ ap (λ (e : PlainEffect S C O). and_sending e answers) (caught_is t)

  append_came : (s : raft.RaftView S C O) (from : ℕ) (a : AppendView C) → on_append plain m me (whole_node s) from a ≡ whole_effect (raft_replicating.on_append m me s from a)
  append_came s from a = rw (none_below_zero (raft_replicating.last_new a), none_below_zero a.prev_index) (
      either (ltb a.term s.ballot.term) _ _ refused (cond (raft.is_leader s.role) (raft.stays s) (cond (raft_replicating.may_take s a) takes_it refuses)) refl
      (either (raft.is_leader s.role) _ _ (raft.stays s) (cond (raft_replicating.may_take s a) takes_it refuses) refl
      (ap (λ b. cond b (takes plain m me (whole_node s) from a) (whole_effect refuses)) (may_take_is s a)
      ∙ either (raft_replicating.may_take s a) _ _ takes_it refuses (takes_is s from a) refl)))
    where
      refused : raft.RaftEffect S C O
      refused = raft.sending s (raft_replicating.answer s false a.prev_index from)

      refuses : raft.RaftEffect S C O
      refuses = raft.sending (raft_replicating.follower s) (raft_replicating.answer s false a.prev_index from)

      takes_it : raft.RaftEffect S C O
      takes_it = raft_replicating.takes m me s from a

  -- answers come
  moved_is : (s : raft.RaftView S C O) (from : ℕ) (how : Moved) → on_moved plain m nodes me (whole_node s) from how ≡ whole_effect (raft_replicating.on_moved m nodes me s from how)
  moved_is s from moves.Raised =
      let e = raft_applying.settled m nodes me s in
      ap (λ (x : PlainEffect S C O). and_sending x (says_rest plain x.state from)) (settled_is s)
      ∙ ap (λ ps. and_sending (whole_effect e) ps) (says_rest_is e.state from)
  moved_is s from moves.Back = ap (λ r. sending (whole_node s) ((from, r) ∷ [])) (append_is s from)
  moved_is s from moves.Nothing = refl

  appended_came : (s : raft.RaftView S C O) (from : ℕ) (a : AppendedView) →
      on_appended plain m nodes me (whole_node s) from a ≡ whole_effect (raft_replicating.on_appended m nodes me s from a)
  appended_came s from a =
      let before = raft.peer_at s.peers from in
      let how = raft_replicating.moved_by s from a in
      let s_known = raft_replicating.known s from a in
      either (raft.is_leader s.role && eqb a.term s.ballot.term) _ _ (raft_replicating.on_moved m nodes me s_known from how) (raft.stays s)
      (ap (λ k. on_moved plain m nodes me (with_peer (whole_node s) from (peer_after before a.index (moved before a.ok a.index k))) from (moved before a.ok a.index k)) (plain_length s.log)
      ∙ moved_is s_known from how)
      refl

  input_is : (s : raft.RaftView S C O) (i : RaftInput C) → on_input plain m nodes me (whole_node s) i ≡ whole_effect (raft_replicating.on_input m nodes me s i)
  input_is s i =
      let no = raft_replicating.telling s (told.NotLeader i.client i.request) in
      let full = raft_replicating.telling s (told.Full i.client i.request) in
      let yes = raft_replicating.proposes m nodes me s i in
      either (not (raft.is_leader s.role)) _ _ no (cond (eqb (length s.log) MAX_INDEX) full yes) refl
      (ap (λ k. cond (eqb k MAX_INDEX) (whole_effect full) (broadcasts plain m nodes me (whole_node (raft_replicating.proposed me s i)))) (plain_length s.log)
      ∙ either (eqb (length s.log) MAX_INDEX) _ _ full yes refl (broadcasts_is (raft_replicating.proposed me s i)))

  by_message_is : (s : raft.RaftView S C O) (from : ℕ) (r : RaftMsg C) → by_raft_message plain m nodes me (whole_node s) from r ≡ whole_effect (raft_messages.by_message m nodes me s from r)
  by_message_is s from (msg.RequestVote r) = request_came s from r
  by_message_is s from (msg.Vote v) = vote_came s from v
  by_message_is s from (msg.Append a) = append_came s from a
  by_message_is s from (msg.Appended a) = appended_came s from a

pub plain_is_raft : (S C O : Type 0) → PlainIsRaft S C O
plain_is_raft S C O = record {
  input = λ m nodes me s i. input_is m nodes me s i;
  message = λ m nodes me s from r.
      ap (λ x. by_raft_message plain m nodes me x from r) (heard_is m nodes me (term_of r) s) ∙ by_message_is m nodes me (raft_electing.heard (term_of r) s) from r;
  timeout = λ m nodes me s. tick_is m nodes me s;
}
