-- What is kept of clients, and what an entry of the log does with it and a machine (the extended Raft paper,
-- section 8).
use Rattle.std.specs.Prelude.{◌≡◌, ℕ, Bool, true, List, [], ◌∷◌, ◌++◌, Option, Some, None, nat_lt, ◌==◌, if◌then◌else◌, refl}
use Rattle.std.specs.Coded.{Coded, code_by, coded×, coded_ℕ}
use Rattle.std.specs.FinMap.{FinMap, code, get, insert}
use Rattle.std.specs.Ordering.{nat_cmp}
use Rattle.vst_base.specs.Machines.{MachineMeaning}
use Rattle.vst_base.specs.declared.entry.Entry.{Entry}
use Rattle.raft_clients.specs.Executed.{request_of}
use Rattle.raft_clients.specs.declared.session.Session.{Session}
use Rattle.raft_types.specs.declared.client.RaftInput.{RaftInput}

-- from the numbers of clients to their last executed request and its output
abbrev pub Sessions : Type 0 → Type 0
Sessions O = FinMap nat_cmp (Session O)

abbrev pub session_code : {O : Type 0} → Coded O → Coded (Session O)
session_code {O} output = code_by (ℕ × O) (coded× coded_ℕ output) (λ s. (s.request, s.output)) (λ p. record { request = p.0; output = p.1 }) (λ _. refl)

abbrev pub sessions_code : {O : Type 0} → Coded O → Coded (Sessions O)
sessions_code output = code coded_ℕ (session_code output)

-- whether a request is new to a client with this session: its number is over the session's, if there is one
abbrev pub is_new : {O : Type 0} → Option (Session O) → ℕ → Bool
is_new None request = true
is_new (Some session) request = nat_lt session.request request

-- what a session answers to a request that is not new: to its own the output that is kept, to an earlier one
-- nothing
abbrev pub kept_output : {O : Type 0} → Session O → ℕ → Option O
kept_output session request = if request == session.request then Some session.output else None

-- the machine's state and the sessions after an entry, and what its client is answered
pub record Applied (S O : Type 0) : Type 0 where
  pub state : S
  pub sessions : Sessions O
  pub output : Option O

-- the state, the sessions and the output are these
pub record Makes {S O : Type 0} (a : Applied S O) (new_state : S) (new_sessions : Sessions O) (told : Option O) : Type 0 where
  pub state : new_state ≡ a.state
  pub sessions : new_sessions ≡ a.sessions
  pub output : told ≡ a.output

-- nothing happens, and nobody is answered but with an output that was kept
abbrev pub passes : {S O : Type 0} → S → Sessions O → Option O → Applied S O
passes state sessions kept = record { state = state; sessions = sessions; output = kept }

-- the machine takes the command; the number and the output are kept for the client
abbrev pub executes : {S C O : Type 0} → MachineMeaning S C O → S → Sessions O → RaftInput C → Applied S O
executes m state sessions r = record {
  state = (m.apply state r.cmd).0;
  sessions = insert sessions r.client (record { request = r.request; output = (m.apply state r.cmd).1 });
  output = Some (m.apply state r.cmd).1;
}

-- what a request does, by its client's session: it is executed where it is new to the client, and else changes nothing
abbrev pub applied_by : {S C O : Type 0} → MachineMeaning S C O → S → Sessions O → RaftInput C → Option (Session O) → Applied S O
applied_by m state sessions r None = executes m state sessions r
applied_by m state sessions r (Some session) =
    if is_new (Some session) r.request then executes m state sessions r else passes state sessions (kept_output session r.request)

-- what an entry does by its request, if it holds one: a no-op does nothing
abbrev pub applied_request : {S C O : Type 0} → MachineMeaning S C O → S → Sessions O → Option (RaftInput C) → Applied S O
applied_request m state sessions None = passes state sessions None
applied_request m state sessions (Some r) = applied_by m state sessions r (get sessions r.client)

abbrev pub applied : {S C O : Type 0} → MachineMeaning S C O → S → Sessions O → Entry C → Applied S O
applied m state sessions e = applied_request m state sessions (request_of e)

-- an entry with its output, if it is answered
abbrev pub answer : {C O : Type 0} → Entry C → Option O → List (Entry C × O)
answer e None = []
answer e (Some output) = (e, output) ∷ []

-- the machine's state and the sessions after several entries, and their answers
pub record AppliedAll (S C O : Type 0) : Type 0 where
  pub state : S
  pub sessions : Sessions O
  pub answers : List (Entry C × O)

-- an entry before those
abbrev pub with_answer : {S C O : Type 0} → Entry C → Option O → AppliedAll S C O → AppliedAll S C O
with_answer e output rest = record rest { answers = answer e output ++ rest.answers }

abbrev pub applied_all : {S C O : Type 0} → MachineMeaning S C O → S → Sessions O → List (Entry C) → AppliedAll S C O
applied_all m state sessions [] = record { state = state; sessions = sessions; answers = [] }
applied_all m state sessions (e ∷ es) =
    with_answer e (applied m state sessions e).output (applied_all m (applied m state sessions e).state (applied m state sessions e).sessions es)

-- further entries after them
abbrev pub applied_after : {S C O : Type 0} → MachineMeaning S C O → AppliedAll S C O → List (Entry C) → AppliedAll S C O
applied_after m before es =
    record (applied_all m before.state before.sessions es) { answers = before.answers ++ (applied_all m before.state before.sessions es).answers }
