-- What is kept of what a cluster has applied, as it grows.
use Rattle.std.specs.Prelude.{◌≡◌, ℕ, ◌+◌, Bool, false, List, [], ◌∷◌, ◌++◌, length, map, Option, Some, None, if◌then◌else◌, refl}
use base.Stored.{coded_unit}
use Rattle.std.specs.Coded.{Coded, code_by, coded×, coded_list, coded_ℕ}
use Rattle.std.specs.FinMap.{get, insert}
use Rattle.std.specs.List.{enumerate_from}
use Rattle.vst_base.specs.declared.entry.Entry.{Entry}
use Rattle.raft_clients.specs.Executed.{exceeds, executed, executed_after, request_of, requests as asked}
use Rattle.raft_clients.specs.Sessions.{Sessions, is_new, sessions_code}
use Rattle.raft_types.specs.declared.client.RaftInput.{RaftInput}

-- the indexes of the entries whose request is executed, from 1
abbrev pub executed_indexes : {C : Type 0} → List (Entry C) → List ℕ
executed_indexes es = map (λ p. p.0) (executed_after (λ p. request_of p.1) [] (enumerate_from 1 es))

-- how many entries there are, the last request of each client that was executed, as a session with no output, and the
-- executed requests in order, with the indexes of their entries
pub record OrderView (C : Type 0) : Type 0 where
  pub entries : ℕ
  pub sessions : Sessions (Unit {0})
  pub requests : List (RaftInput C)
  pub indexes : List ℕ

abbrev request_code : {C : Type 0} → Coded C → Coded (RaftInput C)
request_code {C} cmd =
    code_by (ℕ × (ℕ × C)) (coded× coded_ℕ (coded× coded_ℕ cmd)) (λ r. (r.client, (r.request, r.cmd)))
    (λ p. record { client = p.0; request = p.1.0; cmd = p.1.1 }) (λ _. refl)

abbrev pub order_code : {C : Type 0} → Coded C → Coded (OrderView C)
order_code {C} cmd =
    code_by (ℕ × (Sessions (Unit {0}) × (List (RaftInput C) × List ℕ)))
    (coded× coded_ℕ (coded× (sessions_code coded_unit) (coded× (coded_list (request_code cmd)) (coded_list coded_ℕ))))
    (λ o. (o.entries, (o.sessions, (o.requests, o.indexes))))
    (λ p. record { entries = p.0; sessions = p.1.0; requests = p.1.1.0; indexes = p.1.1.1 }) (λ _. refl)

-- it is what is kept of these entries: it tells of each further request whether its number exceeds all of its client
pub record HasFollowed {C : Type 0} (o : OrderView C) (es : List (Entry C)) : Type 0 where
  pub entries : o.entries ≡ length es
  pub sessions : (client request : ℕ) → is_new (get o.sessions client) request ≡ exceeds (asked es) client request
  pub requests : o.requests ≡ executed (asked es)
  pub indexes : o.indexes ≡ executed_indexes es

-- whether the next entry executes a request, by what is kept of its client. Where it holds none, none is
abbrev pub is_executed_by : {C : Type 0} → Sessions (Unit {0}) → Option (RaftInput C) → Bool
is_executed_by sessions None = false
is_executed_by sessions (Some r) = is_new (get sessions r.client) r.request

-- the next entry is counted
abbrev pub counted : {C : Type 0} → OrderView C → OrderView C
counted o = record o { entries = o.entries + 1 }

-- and this request of it is executed
abbrev pub with_executed : {C : Type 0} → OrderView C → RaftInput C → OrderView C
with_executed o r = record {
  entries = o.entries + 1;
  sessions = insert o.sessions r.client (record { request = r.request; output = tt });
  requests = o.requests ++ r ∷ [];
  indexes = o.indexes ++ (o.entries + 1) ∷ [];
}

-- what is kept once there is a next entry, by its request, if it holds one
abbrev pub with_entry : {C : Type 0} → OrderView C → Option (RaftInput C) → OrderView C
with_entry o None = counted o
with_entry o (Some r) = if is_new (get o.sessions r.client) r.request then with_executed o r else counted o
