-- The world of a network (Verdi, PLDI 2015): the nodes, and every packet that was ever sent.
use Rattle.std.specs.Prelude.{ℕ, zero, suc, Bool, true, nat_lt, ◌+◌, ◌-◌, ◌==◌, List, [], ◌∷◌, map, count_by, Option, Some, None, if◌then◌else◌, slice_get}
use Rattle.handler_trait.specs.Handling.{Meaning}

-- a packet: its ends, its content, and how many copies of it are in flight
pub record Packet (M : Type 0) : Type 0 where
  pub source : ℕ
  pub destination : ℕ
  pub content : M
  pub copies : ℕ

-- a state and an up flag for each node, what a node that is down has kept, and all packets in the order of sending
pub record World (S K M : Type 0) : Type 0 where
  pub state : ℕ → S
  pub is_up : ℕ → Bool
  pub kept : ℕ → Option K
  pub packets : List (Packet M)

-- at first all nodes are up in their first states, and no packet exists
abbrev pub first_world : {S K I O M : Type 0} → Meaning S I O M → World S K M
first_world m = record { state = m.init; is_up = λ _. true; kept = λ _. None; packets = [] }

-- f with this value at n
abbrev pub put : {A : Type 0} → (ℕ → A) → ℕ → A → ℕ → A
put f n a k = if k == n then a else f k

-- the packets with the k-th changed
abbrev pub change_at : {P : Type 0} → (P → P) → ℕ → List P → List P
change_at f k [] = []
change_at f zero (p ∷ ps) = f p ∷ ps
change_at f (suc k) (p ∷ ps) = p ∷ change_at f k ps

abbrev pub one_more : {M : Type 0} → Packet M → Packet M
one_more p = record { source = p.source; destination = p.destination; content = p.content; copies = p.copies + 1 }

abbrev pub one_less : {M : Type 0} → Packet M → Packet M
one_less p = record { source = p.source; destination = p.destination; content = p.content; copies = p.copies - 1 }

-- what a node sends, with one copy of each in flight
abbrev pub sent_by : {M : Type 0} → ℕ → List (ℕ × M) → List (Packet M)
sent_by n sends = map (λ p. record { source = n; destination = p.0; content = p.1; copies = 1 }) sends

abbrev pub copies_of : {M : Type 0} → Option (Packet M) → ℕ
copies_of None = 0
copies_of (Some p) = p.copies

abbrev pub ends_of : {M : Type 0} → Option (Packet M) → Option (ℕ × ℕ)
ends_of None = None
ends_of (Some p) = Some (p.source, p.destination)

-- how many copies of packet k are in flight; its source and destination, if it was sent
abbrev pub copies : {S K M : Type 0} → World S K M → ℕ → ℕ
copies w k = copies_of (slice_get w.packets k)

abbrev pub ends : {S K M : Type 0} → World S K M → ℕ → Option (ℕ × ℕ)
ends w k = ends_of (slice_get w.packets k)

-- how many packets have a copy in flight
abbrev pub held : {S K M : Type 0} → World S K M → ℕ
held w = count_by (λ p. nat_lt 0 p.copies) w.packets
