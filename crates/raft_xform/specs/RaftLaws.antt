-- An event of Raft sends few packets, each to a node of the cluster, tells clients at most one thing an entry of its log, and uses
-- nothing up.
use Rattle.std.specs.Prelude.{◌≡◌, ℕ, zero, suc, ◌-◌, ◌<◌, ◌≤◌, max, Bool, true, false, not, ◌&&◌, ◌==◌, List, [], ◌∷◌, ◌++◌, length, drop, Option, Some, None, nat_lt, cond}
use Rattle.std.proofs.Common.{arith, length-append, length-drop, refl}
use Rattle.std.proofs.lemmas.List.{length-take}
use Rattle.std.proofs.lemmas.Bool.{eqb-false}
use Rattle.handler_trait.specs.Handling.{AreSentBelow, IsModest}
use Rattle.vst_base.specs.Machines.{MachineMeaning}
use Rattle.handler_trait.specs.declared.handlers.TheConstants.{MAX_SENDS}
use Rattle.vst_base.specs.declared.entry.Entry.{Entry}
use Rattle.vst_base.specs.declared.node.TheConstants.{MAX_NODES}
use Rattle.vst_base.specs.declared.what.What.{What}
use Rattle.vst_base.specs.declared.what.What.TheVariants.{Noop, Request}
use Rattle.raft_clients.specs.Sessions.{Sessions, answer, applied, applied_all}
use Rattle.raft_commit.specs.declared.peer.Moved.{Moved}
use Rattle.raft_commit.specs.declared.peer.Moved.TheVariants as moves
use Rattle.raft_election.specs.Ballots.{grants, may_start}
use Rattle.raft_types.specs.Messages.{AppendView, VoteView}
use Rattle.raft_types.specs.Terms.{term_of}
use Rattle.raft_types.specs.declared.client.RaftInput.{RaftInput}
use Rattle.raft_types.specs.declared.client.RaftOut.TheVariants as told
use Rattle.raft_types.specs.declared.limits.TheConstants.{MAX_INDEX}
use Rattle.raft_types.specs.declared.msg.RaftMsg.{RaftMsg}
use Rattle.raft_types.specs.declared.msg.RaftMsg.TheVariants as msg
use Rattle.raft_xform.specs.Electing.{campaign, candidate, has_won, heard, on_vote, sees_up_to_date, tick, voted, broadcasts, lead, led, with_noop}
use Rattle.raft_xform.specs.Applying.{caught_up, committed, due, replies, reply}
use Rattle.raft_xform.specs.Nodes.{RaftEffect, RaftView, is_candidate, is_leader, stays}
use Rattle.raft_xform.specs.Raft.{by_message, raft}
use Rattle.raft_xform.specs.Replicating.{known, may_take, moved_by, on_append, on_moved, proposed, taken}
use Rattle.raft_xform.specs.Sending.{to_others}
use Rattle.raft_xform.specs.Sound.{IsSoundNode}

below_both : {M : Type 0} (nodes : ℕ) (xs ys : List (ℕ × M)) → AreSentBelow nodes xs → AreSentBelow nodes ys → AreSentBelow nodes (xs ++ ys)
below_both nodes [] ys a b = b
below_both nodes (x ∷ xs) ys a b = (a.0, below_both nodes xs ys a.1 b)

-- packets, of which there are few
pub record AreFew {M : Type 0} (nodes : ℕ) (packets : List (ℕ × M)) : Type 0 where
  pub few : length packets ≤ MAX_SENDS
  pub to_nodes : AreSentBelow nodes packets

-- as many packets as there are nodes, and one less where this node is among them
length_to_others : {M : Type 0} (n me : ℕ) (message : ℕ → M) → (length (to_others n me message) ≤ n) × (me < n → length (to_others n me message) < n)
length_to_others zero me message = (omega arith, λ h. absurd (omega arith))
length_to_others {M = M} (suc n) me message = go (n == me) refl (length_to_others n me message)
  where
    go : (b : Bool) → (n == me) ≡ b → (length (to_others n me message) ≤ n) × (me < n → length (to_others n me message) < n) →
        (length (to_others n me message ++ cond b [] ((n, message n) ∷ [])) ≤ suc n) × (me < suc n → length (to_others n me message ++ cond b [] ((n, message n) ∷ [])) < suc n)
    go true e h = let l = length-append (to_others n me message) [] in (omega (arith, h.0), λ _. omega (arith, h.0))
    go false e h =
        let l = length-append (to_others n me message) ((n, message n) ∷ []) in
        let other = eqb-false n me e in
        (omega (arith, h.0), λ le. let few = h.1 (omega arith) in omega arith)

below_to_others : {M : Type 0} (nodes n me : ℕ) (message : ℕ → M) → n ≤ nodes → AreSentBelow nodes (to_others n me message)
below_to_others nodes zero me message h = tt
below_to_others {M = M} nodes (suc n) me message h = below_both nodes (to_others n me message) _ (below_to_others nodes n me message (omega arith)) (go (n == me))
  where
    go : (b : Bool) → AreSentBelow nodes (cond b [] ((n, message n) ∷ []))
    go true = tt
    go false = (omega arith, tt)

-- a node of a cluster, of so many nodes
pub record IsSeat (nodes me : ℕ) : Type 0 where
  pub few : nodes ≤ MAX_NODES
  pub here : me < nodes

few_to_others : {M : Type 0} (nodes me : ℕ) (message : ℕ → M) → IsSeat nodes me → AreFew nodes (to_others nodes me message)
few_to_others nodes me message h = record {
  few = let l = (length_to_others nodes me message).1 h.here in omega (arith, h.few);
  to_nodes = below_to_others nodes nodes me message (omega arith);
}

few_none : {M : Type 0} (nodes : ℕ) → AreFew {M = M} nodes []
few_none nodes = record { few = omega arith; to_nodes = tt }

few_one : {M : Type 0} (nodes to : ℕ) (message : M) → to < nodes → AreFew nodes ((to, message) ∷ [])
few_one nodes to message below = record { few = omega arith; to_nodes = (below, tt) }

few_rest : {M : Type 0} (nodes to : ℕ) (message : M) (b : Bool) → to < nodes → AreFew nodes (cond b ((to, message) ∷ []) [])
few_rest nodes to message true below = few_one nodes to message below
few_rest nodes to message false below = few_none nodes

-- each entry is answered at most once
answer_few : {C O : Type 0} (e : Entry C) (o : Option O) (rest : List (Entry C × O)) (n : ℕ) → length rest ≤ n → length (answer e o ++ rest) ≤ suc n
answer_few e None rest n few = omega arith
answer_few e (Some output) rest n few = omega arith

answers_few : {S C O : Type 0} (m : MachineMeaning S C O) (state : S) (sessions : Sessions O) (es : List (Entry C)) → length (applied_all m state sessions es).answers ≤ length es
answers_few m state sessions [] = omega arith
answers_few m state sessions (e ∷ es) =
    let a = applied m state sessions e in
    answer_few e a.output (applied_all m a.state a.sessions es).answers (length es) (answers_few m a.state a.sessions es)

reply_few : {C O : Type 0} (me : ℕ) (what : What C) (output : O) → length (reply me what output) ≤ 1
reply_few me Noop output = omega arith
reply_few {C = C} {O = O} me (Request client request origin cmd) output = go (origin == me)
  where
    go : (b : Bool) → length (cond b (told.Reply client request output ∷ []) []) ≤ 1
    go true = omega arith
    go false = omega arith

replies_few : {C O : Type 0} (me : ℕ) (answers : List (Entry C × O)) → length (replies me answers) ≤ length answers
replies_few me [] = omega arith
replies_few me (a ∷ rest) =
    let both = length-append (reply me a.0.what a.1) (replies me rest) in
    omega (arith, both, reply_few me a.0.what a.1, replies_few me rest)

-- an effect whose packets are few, and which tells clients one thing, or one for each entry of the log
pub record DoesLittle {S C O : Type 0} (nodes : ℕ) (e : RaftEffect S C O) : Type 0 where
  pub sends : AreFew nodes e.sends
  pub told : length e.outputs ≤ max 1 (length e.state.log)

few_either : {S C O : Type 0} {nodes : ℕ} (b : Bool) {e f : RaftEffect S C O} → DoesLittle nodes e → DoesLittle nodes f → DoesLittle nodes (cond b e f)
few_either true k l = k
few_either false k l = l

module _ {S C O : Type 0} where
  few_nothing : (nodes : ℕ) (s : RaftView S C O) → DoesLittle nodes (stays s)
  few_nothing nodes s = record { sends = few_none nodes; told = omega arith }

  -- what is applied is in the log
  told_few : (m : MachineMeaning S C O) (me : ℕ) (s : RaftView S C O) → length (caught_up m me s).outputs ≤ max 1 (length s.log)
  told_few m me s =
      let answers = (applied_all m s.machine s.sessions (due s)).answers in
      let taken = length-take (s.commit - s.applied) (drop s.applied s.log) in
      let left = length-drop s.applied s.log in
      omega (arith, replies_few me answers, answers_few m s.machine s.sessions (due s), taken, left)

  few_broadcast : (m : MachineMeaning S C O) (nodes me : ℕ) (s : RaftView S C O) → IsSeat nodes me → DoesLittle nodes (broadcasts m nodes me s)
  few_broadcast m nodes me s h = record { sends = few_to_others nodes me _ h; told = told_few m me (committed nodes me s) }

  few_lead : (m : MachineMeaning S C O) (nodes me : ℕ) (s : RaftView S C O) → IsSeat nodes me → DoesLittle nodes (lead m nodes me s)
  few_lead m nodes me s h = few_broadcast m nodes me (with_noop (led nodes s)) h

  few_campaign : (m : MachineMeaning S C O) (nodes me : ℕ) (s : RaftView S C O) → IsSeat nodes me → DoesLittle nodes (campaign m nodes me s)
  few_campaign m nodes me s h = few_either (has_won nodes s) (few_lead m nodes me s h) (record { sends = few_to_others nodes me _ h; told = omega arith })

  few_tick : (m : MachineMeaning S C O) (nodes me : ℕ) (s : RaftView S C O) → IsSeat nodes me → DoesLittle nodes (tick m nodes me s)
  few_tick m nodes me s h = few_either (is_leader s.role) (record { sends = few_to_others nodes me _ h; told = omega arith })
      (few_either (may_start s.ballot) (few_campaign m nodes me (candidate me s) h) (few_nothing nodes s))

  few_input : (nodes : ℕ) (m : MachineMeaning S C O) (me : ℕ) (s : RaftView S C O) (i : RaftInput C) → IsSeat nodes me → DoesLittle nodes ((raft nodes m).input me s i)
  few_input nodes m me s i h = few_either (not (is_leader s.role)) (record { sends = few_none nodes; told = omega arith })
      (few_either (length s.log == MAX_INDEX) (record { sends = few_none nodes; told = omega arith }) (few_broadcast m nodes me (proposed me s i) h))

  few_vote : (m : MachineMeaning S C O) (nodes me : ℕ) (s : RaftView S C O) (from : ℕ) (v : VoteView) → IsSeat nodes me → DoesLittle nodes (on_vote m nodes me s from v)
  few_vote m nodes me s from v h = few_either (is_candidate s.role && v.term == s.ballot.term && v.granted)
      (few_either (has_won nodes (voted s from)) (few_lead m nodes me (voted s from) h) (few_nothing nodes (voted s from))) (few_nothing nodes s)

  few_append : (nodes : ℕ) (m : MachineMeaning S C O) (me : ℕ) (s : RaftView S C O) (from : ℕ) (a : AppendView C) → from < nodes → DoesLittle nodes (on_append m me s from a)
  few_append nodes m me s from a below = few_either (nat_lt a.term s.ballot.term) (record { sends = few_one nodes from _ below; told = omega arith })
      (few_either (is_leader s.role) (few_nothing nodes s)
      (few_either (may_take s a) (record { sends = few_one nodes from _ below; told = told_few m me (taken s a) }) (record { sends = few_one nodes from _ below; told = omega arith })))

  few_moved : (nodes : ℕ) (m : MachineMeaning S C O) (me : ℕ) (s : RaftView S C O) (from : ℕ) (moved : Moved) → from < nodes → DoesLittle nodes (on_moved m nodes me s from moved)
  few_moved nodes m me s from moves.Raised below = record { sends = few_rest nodes from _ _ below; told = told_few m me (committed nodes me s) }
  few_moved nodes m me s from moves.Back below = record { sends = few_one nodes from _ below; told = omega arith }
  few_moved nodes m me s from moves.Nothing below = few_nothing nodes s

  few_by_message : (nodes : ℕ) (m : MachineMeaning S C O) (me : ℕ) (s : RaftView S C O) (from : ℕ) (message : RaftMsg C) → IsSeat nodes me → from < nodes → DoesLittle nodes (by_message m nodes me s from message)
  few_by_message nodes m me s from (msg.RequestVote r) h below =
      few_either (grants s.ballot r.term from (sees_up_to_date s r)) (record { sends = few_one nodes from _ below; told = omega arith }) (record { sends = few_one nodes from _ below; told = omega arith })
  few_by_message nodes m me s from (msg.Vote v) h below = few_vote m nodes me s from v h
  few_by_message nodes m me s from (msg.Append a) h below = few_append nodes m me s from a below
  few_by_message nodes m me s from (msg.Appended a) h below =
      few_either (is_leader s.role && a.term == s.ballot.term) (few_moved nodes m me (known s from a) from (moved_by s from a) below) (few_nothing nodes s)

  abbrev pub IsModestHere : ℕ → ℕ → RaftView S C O → RaftEffect S C O → Type 0
  IsModestHere nodes n s e = IsModest nodes 8 (IsSoundNode nodes n) (λ _. 0) s e

  modest : (nodes n : ℕ) (s : RaftView S C O) (e : RaftEffect S C O) → DoesLittle nodes e → IsModestHere nodes n s e
  modest nodes n s e f = record { few = f.sends.few; to_nodes = f.sends.to_nodes; cheap = omega arith; few_outputs = λ after. omega (arith, f.told, after.short) }

  seat : {nodes n : ℕ} {s : RaftView S C O} → IsSoundNode nodes n s → IsSeat nodes n
  seat k = record { few = k.cluster.1; here = k.here }

  pub modest_input : (nodes : ℕ) (m : MachineMeaning S C O) (n : ℕ) (s : RaftView S C O) (i : RaftInput C) → IsSoundNode nodes n s → IsModestHere nodes n s ((raft nodes m).input n s i)
  modest_input nodes m n s i k = modest nodes n s ((raft nodes m).input n s i) (few_input nodes m n s i (seat k))

  pub modest_message : (nodes : ℕ) (m : MachineMeaning S C O) (n : ℕ) (s : RaftView S C O) (from : ℕ) (message : RaftMsg C) → from < nodes → IsSoundNode nodes n s
      → IsModestHere nodes n s ((raft nodes m).message n s from message)
  modest_message nodes m n s from message below k =
      modest nodes n s ((raft nodes m).message n s from message) (few_by_message nodes m n (heard (term_of message) s) from message (seat k) below)

  pub modest_timeout : (nodes : ℕ) (m : MachineMeaning S C O) (n : ℕ) (s : RaftView S C O) → IsSoundNode nodes n s → IsModestHere nodes n s ((raft nodes m).timeout n s)
  modest_timeout nodes m n s k = modest nodes n s ((raft nodes m).timeout n s) (few_tick m nodes n s (seat k))
