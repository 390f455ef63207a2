-- Raft with free choices: what may happen next, and what comes of it. Each event is the act of one node, and looks at
-- that node and at the packets alone. A rule of Raft is a list of such events, and each of them may come at any time.
use Rattle.std.specs.Prelude.{◌≡◌, ◌≢◌, ℕ, suc, ◌+◌, ◌<◌, ◌≤◌, true, false, Some, None, List, [], ◌∷◌, ◌++◌, length, take, drop, ◌==◌, if◌then◌else◌, ◌⊎◌, IsTrue, IsFalse}
use Rattle.vst_base.specs.declared.entry.Entry.{Entry}
use Rattle.vst_base.specs.Logs.{accepted, has_conflict, last_term, matches, term_at}
use Rattle.vst_base.specs.Elections.{is_free_for, is_majority, is_up_to_date, nobody, with_node, learned_commit, may_commit}
use Rattle.raft_free.specs.Nodes.{Append, Appended, Candidate, Follower, FreeWorld, Leader, Message, NodeState, Packet, RequestVote, Vote, nothing}

-- the node i acts
pub data Event (C : Type 0) : Type 0 where
  Timeout : (i : ℕ) → Event C  -- becomes a candidate of the next term
  Ask : (i j : ℕ) → Event C  -- asks j for its vote
  Learn : (i : ℕ) → (p : Packet C) → Event C  -- learns of a greater term
  Grant : (i candidate last last_term : ℕ) → Event C  -- votes
  Refuse : (i j : ℕ) → (m : Message C) → Event C  -- says no, to whatever it was
  Count : (i voter : ℕ) → Event C  -- counts a vote
  Lead : (i : ℕ) → Event C  -- becomes the leader
  Propose : (i : ℕ) → (e : Entry C) → Event C  -- adds an entry to its log
  Replicate : (i j prev many commit : ℕ) → Event C  -- sends j so many entries after prev, and a commit
  StepDown : (i leader prev prev_term : ℕ) → (entries : List (Entry C)) → (commit : ℕ) → Event C  -- sees that another leads
  Accept : (i leader prev prev_term : ℕ) → (entries : List (Entry C)) → (commit : ℕ) → Event C  -- takes entries
  Match : (i j index : ℕ) → Event C  -- notes how much of its log j has
  Commit : (i index : ℕ) → Event C
  Apply : (i index : ℕ) → Event C  -- applies entries, in order, up to the index
  Crash : (i : ℕ) → Event C
  Reboot : (i commit applied : ℕ) → Event C

abbrev pub actor : {C : Type 0} → Event C → ℕ
actor (Timeout i) = i
actor (Ask i j) = i
actor (Learn i p) = i
actor (Grant i c last last_t) = i
actor (Refuse i j m) = i
actor (Count i v) = i
actor (Lead i) = i
actor (Propose i e) = i
actor (Replicate i j prev many commit) = i
actor (StepDown i l prev prev_t es commit) = i
actor (Accept i l prev prev_t es commit) = i
actor (Match i j index) = i
actor (Commit i index) = i
actor (Apply i index) = i
actor (Crash i) = i
actor (Reboot i commit applied) = i

abbrev pub In : {X : Type 0} → X → List X → Type 0
In x [] = ⊥
In x (y ∷ ys) = (x ≡ y) ⊎ In x ys

-- a packet of the term of the node x was sent to it
abbrev pub Comes : {C : Type 0} → List (Packet C) → NodeState C → ℕ → ℕ → Message C → Type 0
Comes sent x source destination m = In (record { source = source; destination = destination; term = x.term; message = m }) sent

abbrev pub IsRefusal : {C : Type 0} → Message C → Type 0
IsRefusal (RequestVote last last_t) = ⊥
IsRefusal (Vote granted) = IsFalse granted
IsRefusal (Append prev prev_t es commit) = ⊥
IsRefusal (Appended taken index) = IsFalse taken

-- in a cluster of so many nodes, where these packets were sent, the node x may do this
abbrev pub Allowed : {C : Type 0} → ℕ → List (Packet C) → NodeState C → Event C → Type 0
Allowed nodes sent x (Timeout i) = IsTrue x.is_up × (x.role ≢ Leader)
Allowed nodes sent x (Ask i j) = IsTrue x.is_up × (x.role ≡ Candidate)
Allowed nodes sent x (Learn i p) = IsTrue x.is_up × In p sent × (p.destination ≡ i) × (x.term < p.term)
Allowed nodes sent x (Grant i c last last_t) =
    IsTrue x.is_up × Comes sent x c i (RequestVote last last_t) × IsTrue (is_free_for x.voted c) × IsTrue (is_up_to_date x.log last last_t)
Allowed nodes sent x (Refuse i j m) = IsTrue x.is_up × IsRefusal m
Allowed nodes sent x (Count i v) = IsTrue x.is_up × Comes sent x v i (Vote true) × (x.role ≡ Candidate)
Allowed nodes sent x (Lead i) = IsTrue x.is_up × (x.role ≡ Candidate) × IsTrue (is_majority nodes x.votes)
Allowed nodes sent x (Propose i e) = IsTrue x.is_up × (x.role ≡ Leader) × (e.term ≡ x.term)
Allowed nodes sent x (Replicate i j prev many commit) =
    IsTrue x.is_up × (x.role ≡ Leader) × (j ≢ i) × (prev ≤ length x.log) × (commit ≤ x.commit)
Allowed nodes sent x (StepDown i l prev prev_t es commit) =
    IsTrue x.is_up × Comes sent x l i (Append prev prev_t es commit) × (x.role ≢ Leader)
Allowed nodes sent x (Accept i l prev prev_t es commit) =
    IsTrue x.is_up × Comes sent x l i (Append prev prev_t es commit) × (x.role ≢ Leader)
    × IsTrue (matches x.log prev prev_t) × IsFalse (has_conflict x.log x.commit prev es)
Allowed nodes sent x (Match i j index) =
    IsTrue x.is_up × Comes sent x j i (Appended true index) × (x.role ≡ Leader) × (x.matched j < index) × (index ≤ length x.log)
Allowed nodes sent x (Commit i index) =
    IsTrue x.is_up × (x.role ≡ Leader) × (index ≤ length x.log) × IsTrue (may_commit nodes i x.matched x.log x.term x.commit index)
Allowed nodes sent x (Apply i index) = IsTrue x.is_up × (x.applied ≤ index) × (index ≤ x.commit)
Allowed nodes sent x (Crash i) = IsTrue x.is_up
Allowed nodes sent x (Reboot i commit applied) = IsFalse x.is_up × (commit ≤ x.commit) × (applied ≤ commit)

-- the acting node afterwards
abbrev pub becomes : {C : Type 0} → NodeState C → Event C → NodeState C
becomes x (Timeout i) = record x { term = suc x.term; voted = Some i; role = Candidate; votes = with_node i nobody }
becomes x (Ask i j) = x
becomes x (Learn i p) = record x { term = p.term; voted = None; role = Follower }
becomes x (Grant i c last last_t) = record x { voted = Some c }
becomes x (Refuse i j m) = x
becomes x (Count i v) = record x { votes = with_node v x.votes }
becomes x (Lead i) = record x { role = Leader; matched = nothing }
becomes x (Propose i e) = record x { log = x.log ++ e ∷ [] }
becomes x (Replicate i j prev many commit) = x
becomes x (StepDown i l prev prev_t es commit) = record x { role = Follower }
becomes x (Accept i l prev prev_t es commit) =
    record x { role = Follower; log = accepted x.log prev es; commit = learned_commit x.commit commit (prev + length es) }
becomes x (Match i j index) = record x { matched = λ k. if k == j then index else x.matched k }
becomes x (Commit i index) = record x { commit = index }
becomes x (Apply i index) = record x { applied = index }
becomes x (Crash i) = record x { is_up = false; role = Follower }
becomes x (Reboot i commit applied) =
    record x { is_up = true; role = Follower; votes = nobody; matched = nothing; commit = commit; applied = applied }

-- the packets that it sends
abbrev pub says : {C : Type 0} → NodeState C → Event C → List (Packet C)
says x (Ask i j) =
    record { source = i; destination = j; term = x.term; message = RequestVote (length x.log) (last_term x.log) } ∷ []
says x (Grant i c last last_t) = record { source = i; destination = c; term = x.term; message = Vote true } ∷ []
says x (Refuse i j m) = record { source = i; destination = j; term = x.term; message = m } ∷ []
says x (Replicate i j prev many commit) =
    record {
      source = i;
      destination = j;
      term = x.term;
      message = Append prev (term_at x.log prev) (take many (drop prev x.log)) commit;
    }
    ∷ []
says x (Accept i l prev prev_t es commit) =
    record { source = i; destination = l; term = x.term; message = Appended true (prev + length es) } ∷ []
says x e = []

-- f with this value at i
abbrev pub put : {C : Type 0} → (ℕ → NodeState C) → ℕ → NodeState C → ℕ → NodeState C
put f i x j = if j == i then x else f j

-- the world after an event
abbrev pub effect : {C : Type 0} → FreeWorld C → Event C → FreeWorld C
effect w e = record {
  node = put w.node (actor e) (becomes (w.node (actor e)) e);
  sent = says (w.node (actor e)) e ++ w.sent;
}
