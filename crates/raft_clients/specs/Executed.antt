-- What clients ask for by a log, and which requests are executed. It knows nothing of machines and sessions.
use Rattle.std.specs.Prelude.{ℕ, Bool, false, not, ◌||◌, List, [], ◌∷◌, ◌++◌, Option, Some, None, map, nat_lt, ◌==◌, if◌then◌else◌}
use Rattle.std.specs.List.{enumerate_from, list_all, filter_map}
use Rattle.std.specs.Option.{option_to_list}
use Rattle.vst_base.specs.declared.entry.Entry.{Entry}
use Rattle.raft_types.specs.declared.client.RaftInput.{RaftInput}
use Rattle.vst_base.specs.declared.what.What.{What}
use Rattle.vst_base.specs.declared.what.What.TheVariants.{Noop, Request}

-- what a client asks for by what an entry holds
abbrev pub asked_by : {C : Type 0} → What C → Option (RaftInput C)
asked_by Noop = None
asked_by (Request client request origin cmd) = Some (record { client = client; request = request; cmd = cmd })

-- the request of an entry, if it holds one
abbrev pub request_of : {C : Type 0} → Entry C → Option (RaftInput C)
request_of e = asked_by e.what

-- the requests of a log, in order
abbrev pub requests : {C : Type 0} → List (Entry C) → List (RaftInput C)
requests es = filter_map request_of es

-- what they ask of the machine
abbrev pub commands : {C : Type 0} → List (RaftInput C) → List C
commands rs = map (λ r. r.cmd) rs

-- whether a request number of the client exceeds each of its numbers in these requests
abbrev pub exceeds : {C : Type 0} → List (RaftInput C) → ℕ → ℕ → Bool
exceeds earlier client request = list_all (λ r. not (r.client == client) || nat_lt r.request request) earlier

-- whether a request is executed after these: one that exceeds them. Where there is none, none is
abbrev pub is_executed : {C : Type 0} → List (RaftInput C) → Option (RaftInput C) → Bool
is_executed earlier None = false
is_executed earlier (Some r) = exceeds earlier r.client r.request

-- of things that may hold a request each, after these requests, those whose request is executed
abbrev pub executed_after : {A C : Type 0} → (A → Option (RaftInput C)) → List (RaftInput C) → List A → List A
executed_after asks earlier [] = []
executed_after asks earlier (x ∷ xs) =
    if is_executed earlier (asks x) then x ∷ executed_after asks (earlier ++ option_to_list (asks x)) xs
    else executed_after asks (earlier ++ option_to_list (asks x)) xs

-- the requests whose number exceeds every earlier one of their client
abbrev pub executed : {C : Type 0} → List (RaftInput C) → List (RaftInput C)
executed rs = executed_after Some [] rs

-- the entries of a log that hold them, each with its term and the node that took it
abbrev pub executed_entries : {C : Type 0} → List (Entry C) → List (Entry C)
executed_entries es = executed_after request_of [] es

-- the places of these entries, from 0
abbrev pub executed_places : {C : Type 0} → List (Entry C) → List ℕ
executed_places es = map (λ p. p.0) (executed_after (λ p. request_of p.1) [] (enumerate_from 0 es))
