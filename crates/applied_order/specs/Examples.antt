-- What the definitions are computed on.
use Rattle.std.specs.Prelude.{ℕ, List, [], ◌∷◌, ◌++◌}
use Rattle.std.specs.FinMap.{empty, insert}
use Rattle.vst_base.specs.declared.entry.Entry.{Entry}
use Rattle.raft_clients.specs.Examples.{asked, asks, noop}
use Rattle.raft_clients.specs.declared.session.Session.{Session}
use Rattle.applied_order.specs.Orders.{OrderView}

-- a client's last number
abbrev pub number : ℕ → Session (Unit {0})
number request = record { request = request; output = tt }

abbrev pub nothing : OrderView ℕ
nothing = record { entries = 0; sessions = empty; requests = []; indexes = [] }

-- two clients and a no-op; 7 begins with number 0, asks it again with another command, and goes on past a number
abbrev pub five_entries : List (Entry ℕ)
five_entries = asks 7 0 3 ∷ noop ∷ asks 7 0 4 ∷ asks 9 5 1 ∷ asks 7 2 5 ∷ []

abbrev pub kept_of_five : OrderView ℕ
kept_of_five = record {
  entries = 5;
  sessions = insert (insert (insert empty 7 (number 0)) 9 (number 5)) 7 (number 2);
  requests = asked 7 0 3 ∷ asked 9 5 1 ∷ asked 7 2 5 ∷ [];
  indexes = 1 ∷ 4 ∷ 5 ∷ [];
}

-- 9 asks late
abbrev pub six_entries : List (Entry ℕ)
six_entries = five_entries ++ asks 9 4 8 ∷ []

abbrev pub kept_of_six : OrderView ℕ
kept_of_six = record kept_of_five { entries = 6 }

-- or goes on, in the place of that
abbrev pub kept_of_another : OrderView ℕ
kept_of_another = record {
  entries = 6;
  sessions = insert kept_of_five.sessions 9 (number 6);
  requests = kept_of_five.requests ++ asked 9 6 2 ∷ [];
  indexes = kept_of_five.indexes ++ 6 ∷ [];
}
