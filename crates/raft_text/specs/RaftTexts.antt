-- The texts of what a cluster's clients ask and are told, by the texts of a machine's commands and outputs.
use Rattle.std.specs.Prelude.{ℕ, Bool, true, false, ◌≤◌, List, ◌∷◌, ◌++◌, Option, None, codes, option_map, option_and_then, if◌then◌else◌}
use Rattle.std.specs.Fmt.{decimal}
use Rattle.raft_types.specs.declared.client.RaftInput.{RaftInput}
use Rattle.raft_types.specs.declared.client.RaftOut.{RaftOut}
use Rattle.raft_types.specs.declared.client.RaftOut.TheVariants.{Reply, NotLeader, Full}
use Rattle.schedule_text.specs.Words.{cut, is_text, number_up_to}

-- the numbers of clients and requests
abbrev pub IsNumber : ℕ → Type 0
IsNumber n = n ≤ 18446744073709551615

abbrev pub number_of : List ℕ → Option ℕ
number_of w = number_up_to 18446744073709551615 w

-- a client's and a request's number, alone and before a text
abbrev pub names_text : ℕ → ℕ → List ℕ
names_text client request = decimal client ++ 32 ∷ decimal request

abbrev pub named_text : ℕ → ℕ → List ℕ → List ℕ
named_text client request text = decimal client ++ 32 ∷ (decimal request ++ 32 ∷ text)

-- the number before the first space, and what stands after it
abbrev pub front_number : List ℕ → Option (ℕ × List ℕ)
front_number bs = option_and_then (λ p. option_map (λ n. (n, p.1)) (number_of p.0)) (cut bs)

-- the client and the request that a text names, alone and before another text
abbrev pub names_of : List ℕ → Option (ℕ × ℕ)
names_of bs = option_and_then (λ p. option_map (λ request. (p.0, request)) (number_of p.1)) (front_number bs)

abbrev pub named_of : List ℕ → Option (ℕ × ℕ × List ℕ)
named_of bs = option_and_then (λ p. option_map (λ q. (p.0, q.0, q.1)) (front_number p.1)) (front_number bs)

-- a request: its client's number, its own, and the command
abbrev pub asked : {C : Type 0} → ℕ → ℕ → C → RaftInput C
asked client request cmd = record { client = client; request = request; cmd = cmd }

abbrev pub IsRaftInput : {C : Type 0} → (C → Type 0) → RaftInput C → Type 0
IsRaftInput IsCommand q = IsNumber q.client × IsNumber q.request × IsCommand q.cmd

abbrev pub raft_input_of : {C : Type 0} → (List ℕ → Option C) → List ℕ → Option (RaftInput C)
raft_input_of command_of bs = option_and_then (λ p. option_map (λ cmd. asked p.0 p.1 cmd) (command_of p.2)) (named_of bs)

abbrev pub raft_input_text : {C : Type 0} → (C → List ℕ) → RaftInput C → List ℕ
raft_input_text command_text q = named_text q.client q.request (command_text q.cmd)

-- an answer: its word, the two numbers of the request, and of a reply the output
abbrev pub IsRaftOutput : {O : Type 0} → (O → Type 0) → RaftOut O → Type 0
IsRaftOutput IsOutput (Reply client request o) = IsNumber client × IsNumber request × IsOutput o
IsRaftOutput IsOutput (NotLeader client request) = IsNumber client × IsNumber request
IsRaftOutput IsOutput (Full client request) = IsNumber client × IsNumber request

abbrev pub reply_of : {O : Type 0} → (List ℕ → Option O) → List ℕ → Option (RaftOut O)
reply_of output_of bs = option_and_then (λ p. option_map (λ o. Reply p.0 p.1 o) (output_of p.2)) (named_of bs)

abbrev pub answer_of : {O : Type 0} → (List ℕ → Option O) → List ℕ → List ℕ → Option (RaftOut O)
answer_of output_of word rest =
    if is_text word (codes "reply") then reply_of output_of rest
    else if is_text word (codes "notleader") then option_map (λ p. NotLeader p.0 p.1) (names_of rest)
    else if is_text word (codes "full") then option_map (λ p. Full p.0 p.1) (names_of rest)
    else None

abbrev pub raft_output_of : {O : Type 0} → (List ℕ → Option O) → List ℕ → Option (RaftOut O)
raft_output_of output_of bs = option_and_then (λ p. answer_of output_of p.0 p.1) (cut bs)

abbrev pub raft_output_text : {O : Type 0} → (O → List ℕ) → RaftOut O → List ℕ
raft_output_text output_text (Reply client request o) = codes "reply " ++ named_text client request (output_text o)
raft_output_text output_text (NotLeader client request) = codes "notleader " ++ names_text client request
raft_output_text output_text (Full client request) = codes "full " ++ names_text client request

-- the answers that have the machine's output
abbrev pub raft_replies : {O : Type 0} → RaftOut O → Bool
raft_replies (Reply client request o) = true
raft_replies (NotLeader client request) = false
raft_replies (Full client request) = false

-- a request's place in the order of all: the word, and its text
abbrev pub order_text : {C : Type 0} → (C → List ℕ) → RaftInput C → List ℕ
order_text command_text q = codes "order " ++ raft_input_text command_text q
