-- What is done in parts is what a rule says, and each part may be done.
use Rattle.std.proofs.Common.{◌≡◌, ℕ, suc, ◌+◌, ◌<◌, ◌≤◌, max, min, Bool, true, false, List, [], ◌∷◌, ◌++◌, length, Some, None, IsTrue, cond, eqb, get_or, ap, refl, subst, sym, ◌∙◌, arith, ltb, rules}
use Rattle.std.proofs.lemmas.Bool.{and_parts, false≢true, leb-true}
use Rattle.std.proofs.lemmas.List.{append_assoc}
use Rattle.std.proofs.lemmas.List.Elements.{All-get_or}
use Rattle.std.specs.List.{All}
use Rattle.vst_base.specs.Elections.{advance}
use Rattle.vst_base.specs.Logs.{accepted, has_conflict, matches}
use Rattle.vst_base.specs.Machines.{MachineMeaning}
use Rattle.vst_base.specs.declared.entry.Entry.{Entry}
use Rattle.raft_commit.specs.Peers.{PeerView, matched_of}
use Rattle.raft_commit.specs.declared.peer.Moved.TheVariants as moves
use Rattle.raft_log.specs.Accepting.{answer, first_conflict, log_after}
use Rattle.raft_log.specs.declared.accept.Accept.TheVariants.{Taken, Below}
use Rattle.raft_xform.specs.declared.role.Role.{Role}
use Rattle.raft_xform.specs.declared.role.Role.TheVariants as role
use Rattle.raft_xform.specs.Applying.{caught_up, settled}
use Rattle.handler_trait.specs.Handling.{Gathered, Does}
use Rattle.raft_types.specs.Messages.{AppendView, AppendedView}
use Rattle.raft_types.specs.declared.client.RaftOut.{RaftOut}
use Rattle.raft_types.specs.declared.msg.RaftMsg.{RaftMsg}
use Rattle.raft_xform.specs.Nodes.{RaftView, is_leader, sending}
use Rattle.raft_xform.specs.Replicating.{follower, known, last_new, may_take, moved_by, on_append, on_appended, taken, takes}
use Rattle.raft_xform.specs.Replicating.{answer as telling_leader}
use Rattle.raft_xform.specs.Sending.{append, to_others}
use Rattle.raft_xform.specs.Sound.{HasTerm, IsPeer, IsSoundNode, MaySend}
use Rattle.raft_xform.proofs.Lengths.{accepted_has_new, committed_stay}
use Rattle.raft_xform.proofs.Sounding.{sound_caught_up, sound_committed}

leader_in_a_term : (r : Role) (term : ℕ) → is_leader r ≡ true → HasTerm r term → 1 ≤ term
leader_in_a_term role.Follower term e h = absurd (false≢true e)
leader_in_a_term role.Candidate term e h = h
leader_in_a_term role.Leader term e h = h

-- none of the entries conflicts with a committed one where all are taken
pub no_conflict : {C : Type 0} (log : List (Entry C)) (commit prev : ℕ) (es : List (Entry C)) (last : ℕ) → Taken last ≡ answer log commit prev es →
    (has_conflict log commit prev es ≡ false) × (last ≡ prev + length es)
no_conflict log commit prev es last e = go (has_conflict log commit prev es) e
  where
    go : (b : Bool) → Taken last ≡ cond b (Below (first_conflict log prev es)) (Taken (prev + length es)) → (b ≡ false) × (last ≡ prev + length es)
    go true e = absurd (cc e)
    go false e = (refl, cc e)

-- and one does where none is taken
pub conflict : {C : Type 0} (log : List (Entry C)) (commit prev : ℕ) (es : List (Entry C)) (at : ℕ) → Below at ≡ answer log commit prev es →
    has_conflict log commit prev es ≡ true
conflict log commit prev es at e = go (has_conflict log commit prev es) e
  where
    go : (b : Bool) → Below at ≡ cond b (Below (first_conflict log prev es)) (Taken (prev + length es)) → b ≡ true
    go true e = refl
    go false e = absurd (cc e)

-- what is committed then is in the log
pub learned_in_log : {C : Type 0} (log : List (Entry C)) (commit prev prev_term theirs : ℕ) (es new : List (Entry C)) (last : ℕ) → commit ≤ length log →
    matches log prev prev_term ≡ true → Taken last ≡ answer log commit prev es → new ≡ log_after log commit prev es → max commit (min theirs last) ≤ length new
learned_in_log log commit prev prev_term theirs es new last l m a n =
    let there : prev ≤ length log = leb-true _ _ (and_parts _ _ m).0 in
    let none = no_conflict log commit prev es last a in
    let is : new ≡ accepted log prev es = n ∙ rw (none.0) refl in
    rw is (omega (arith, none.1, committed_stay log commit prev es l there none.0, accepted_has_new log prev es there))

-- what is read of node n keeps to what all do
pub peer_there : (len : ℕ) (ps qs : List PeerView) (i n : ℕ) (p : PeerView) → ps ≡ qs → i ≡ n → n < length qs → p ≡ get_or ps i p → All (IsPeer len) qs → IsPeer len p
peer_there len ps qs i n p e f lt at all =
    subst (IsPeer len) (sym (at ∙ (ap (λ xs. get_or xs i p) e ∙ ap (λ k. get_or qs k p) f))) (All-get_or (IsPeer len) qs n p lt all)

-- with a packet for node n, if it is another one, each other node up to n has its message
pub sent_to : {M : Type 0} (n me to : ℕ) (message : ℕ → M) (first before after : List (ℕ × M)) → Some to ≡ cond (eqb n me) None (Some n) →
    before ≡ first ++ to_others n me message → after ≡ before ++ (to, message to) ∷ [] → after ≡ first ++ to_others (n + 1) me message
sent_to {M} n me to message first before after is b a = let one : n + 1 ≡ suc n = omega arith in rw one (go (eqb n me) is)
  where
    go : (same : Bool) → Some to ≡ cond same None (Some n) → after ≡ first ++ (to_others n me message ++ cond same [] ((n, message n) ∷ []))
    go true e = absurd (cc e)
    go false e =
        let here : to ≡ n = cc e in
        a ∙ (ap (λ ps. ps ++ (to, message to) ∷ []) b ∙ (append_assoc first (to_others n me message) ((to, message to) ∷ []) ∙ rw here refl))

module _ {S C O : Type 0} where
  -- what may be committed is applied
  pub settles : (m : MachineMeaning S C O) (me : ℕ) (s : RaftView S C O) (commit : ℕ) → commit ≡ advance (length s.peers) me (matched_of s.peers) s.log s.ballot.term s.commit (length s.log) →
      caught_up m me (record s { commit = commit }) ≡ settled m (length s.peers) me s
  settles m me s commit e = ap (λ n. caught_up m me (record s { commit = n })) e

  pub may_send : {nodes me : ℕ} {s : RaftView S C O} → IsSoundNode nodes me s → IsTrue (is_leader s.role) → MaySend s
  may_send {s = s} k leads = record { term = (leader_in_a_term s.role s.ballot.term leads k.in_a_term, k.term); commit = omega (arith, k.committed, k.short); peers = (k.peers leads).within }

  pub may_send_settled : {nodes me : ℕ} {s : RaftView S C O} → IsSoundNode nodes me s → IsTrue (is_leader s.role) → (m : MachineMeaning S C O) → MaySend (settled m (length s.peers) me s).state
  may_send_settled {nodes} {me} {s} k leads m = rw ((k.peers leads).each) (may_send (sound_caught_up (sound_committed k) m) leads)

  -- entries that come to a node that does not lead, in its term, and conflict with what it has
  pub refuses : (m : MachineMeaning S C O) (me : ℕ) (s : RaftView S C O) (from : ℕ) (a : AppendView C) → ltb a.term s.ballot.term ≡ false → is_leader s.role ≡ false →
      may_take s a ≡ false → on_append m me s from a ≡ sending (follower s) (telling_leader s false a.prev_index from)
  refuses m me s from a t r n = rw (t, r, n) refl

  -- and that don't
  pub takes_them : (m : MachineMeaning S C O) (me : ℕ) (s : RaftView S C O) (from : ℕ) (a : AppendView C) → ltb a.term s.ballot.term ≡ false → is_leader s.role ≡ false →
      may_take s a ≡ true → on_append m me s from a ≡ takes m me s from a
  takes_them m me s from a t r n = rw (t, r, n) refl

  -- a node refused entries of a leader in its term
  pub goes_back : (m : MachineMeaning S C O) (nodes me : ℕ) (s : RaftView S C O) (from : ℕ) (a : AppendedView) → is_leader s.role ≡ true → eqb a.term s.ballot.term ≡ true →
      moves.Back ≡ moved_by s from a → on_appended m nodes me s from a ≡ sending (known s from a) ((from, append (known s from a) from) ∷ [])
  goes_back m nodes me s from a r t b = rw (r, t, ← b) refl

  -- once they are taken, and what is committed then is applied
  pub took : (m : MachineMeaning S C O) (me : ℕ) (s t new : RaftView S C O) (from last : ℕ) (a : AppendView C) (before mid after : Gathered (RaftOut O) (RaftMsg C)) → t ≡ taken s a →
      last ≡ last_new a → Does (caught_up m me t) new before mid → after.outputs ≡ mid.outputs → after.sends ≡ mid.sends ++ telling_leader new true last from → Does (takes m me s from a) new before after
  took m me s t new from last a before mid after e l d o n =
      let k : Does (caught_up m me (taken s a)) new before mid = rw e at d in
      record {
        state = k.state;
        outputs = o ∙ k.outputs;
        sends = search (n, k.sends, k.state, l, rules);
      }
