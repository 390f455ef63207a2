-- What a machine answers to the executed requests, and what of it is kept and told.
use Rattle.std.specs.Prelude.{◌≡◌, ℕ, List, [], ◌∷◌, Option, Some, None, ◌==◌, slice_get, if◌then◌else◌}
use Rattle.std.specs.List.{zip}
use Rattle.std.specs.Option.{option_or}
use Rattle.vst_base.specs.Machines.{MachineMeaning, fold}
use Rattle.vst_base.specs.declared.entry.Entry.{Entry}
use Rattle.raft_clients.specs.Executed.{executed, commands, request_of}
use Rattle.raft_clients.specs.declared.session.Session.{Session}
use Rattle.raft_types.specs.declared.client.RaftInput.{RaftInput}

-- the executed requests, each with the output of the machine that takes their commands alone
abbrev pub executions : {S C O : Type 0} → MachineMeaning S C O → List (RaftInput C) → List (RaftInput C × O)
executions m rs = zip (executed rs) (fold m (commands (executed rs)))

-- the last of a client, as a session
abbrev pub last_session : {C O : Type 0} → List (RaftInput C × O) → ℕ → Option (Session O)
last_session [] client = None
last_session (x ∷ xs) client = option_or (last_session xs client) (if x.0.client == client then Some (record { request = x.0.request; output = x.1 }) else None)

-- one of the executions is that of this client's request of this number, and has this output
pub record IsExecution {C O : Type 0} (executions : List (RaftInput C × O)) (who number : ℕ) (output : O) : Type 0 where
  pub place : ℕ
  pub executed : RaftInput C
  pub there : slice_get executions place ≡ Some (executed, output)
  pub client : executed.client ≡ who
  pub request : executed.request ≡ number

-- an entry is answered with the output of the execution of its request
pub record IsAnswered {C O : Type 0} (executions : List (RaftInput C × O)) (answered : Entry C × O) : Type 0 where
  pub asked : RaftInput C
  pub by : request_of answered.0 ≡ Some asked
  pub execution : IsExecution executions asked.client asked.request answered.1
