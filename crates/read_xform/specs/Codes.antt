-- A code for what a node knows, as the state's view needs one.
use Rattle.std.specs.Prelude.{ℕ, List, refl}
use Rattle.std.specs.Coded.{Coded, code_by, coded×, coded_list, coded_ℕ}
use Rattle.raft_types.specs.declared.client.RaftInput.{RaftInput}
use Rattle.raft_xform.specs.Codes.{raft_code}
use Rattle.raft_xform.specs.Nodes.{RaftView}
use Rattle.raft_reads.specs.Reads.{ReadView, Reads, Waiting}

abbrev input_code : {C : Type 0} → Coded C → Coded (RaftInput C)
input_code {C} cmd =
    code_by (ℕ × (ℕ × C)) (coded× coded_ℕ (coded× coded_ℕ cmd))
    (λ i. (i.client, (i.request, i.cmd))) (λ p. record { client = p.0; request = p.1.0; cmd = p.1.1 }) (λ _. refl)

abbrev pub waiting_code : {C : Type 0} → Coded C → Coded (Waiting C)
waiting_code {C} cmd =
    code_by (RaftInput C × (ℕ × ℕ)) (coded× (input_code cmd) (coded× coded_ℕ coded_ℕ))
    (λ x. (x.input, (x.round, x.read_index))) (λ p. record { input = p.0; round = p.1.0; read_index = p.1.1 }) (λ _. refl)

abbrev pub reads_code : {C : Type 0} → Coded C → Coded (Reads C)
reads_code {C} cmd =
    code_by (ℕ × (List ℕ × List (Waiting C))) (coded× coded_ℕ (coded× (coded_list coded_ℕ) (coded_list (waiting_code cmd))))
    (λ r. (r.round, (r.acked, r.waiting))) (λ p. record { round = p.0; acked = p.1.0; waiting = p.1.1 }) (λ _. refl)

abbrev pub reader_code : {S C O : Type 0} → Coded S → Coded C → Coded O → Coded (ReadView S C O)
reader_code {S} {C} {O} machine cmd output =
    code_by (RaftView S C O × (Reads C × List (Waiting C)))
    (coded× (raft_code machine cmd output) (coded× (reads_code cmd) (coded_list (waiting_code cmd))))
    (λ s. (s.raft, (s.reads, s.answered))) (λ p. record { raft = p.0; reads = p.1.0; answered = p.1.1 }) (λ _. refl)
