-- Packets whose order a network keeps, as they were sent. Each is its ends, source and destination, while a copy of it is in flight, and
-- nothing once none is.
use Rattle.std.specs.Prelude.{◌≡◌, ℕ, ◌+◌, ◌*◌, ◌<◌, ◌^◌, Bool, false, ◌&&◌, eqb, List, [], length, get_or, take, Option, Some, None, IfSome, is_some, if◌then◌else◌}
use Rattle.std.specs.List.{filter, list_any, range_with_len}
use Rattle.vst_base.specs.declared.node.TheConstants.{MAX_NODES}
use Rattle.flight_index.specs.Flights.{Flights, numbers_of}

-- whether a copy goes between these ends
abbrev pub goes_between : ℕ × ℕ → Option (ℕ × ℕ) → Bool
goes_between e None = false
goes_between e (Some x) = eqb x.0 e.0 && eqb x.1 e.1

-- where it goes, if it is in flight and none of these goes between its ends
abbrev pub turn_after : List (Option (ℕ × ℕ)) → Option (ℕ × ℕ) → Option ℕ
turn_after before None = None
turn_after before (Some e) = if list_any (goes_between e) before then None else Some e.1

-- where packet k goes, if it is in flight and no packet that was sent before it has the same ends and is in flight
abbrev pub turn_of : List (Option (ℕ × ℕ)) → ℕ → Option ℕ
turn_of ps k = turn_after (take k ps) (get_or ps k None)

-- whether it is the first in flight of its source and destination
abbrev pub is_first : List (Option (ℕ × ℕ)) → ℕ → Bool
is_first ps k = is_some (turn_of ps k)

-- the packets that are, ascending
abbrev pub firsts : List (Option (ℕ × ℕ)) → List ℕ
firsts ps = filter (is_first ps) (range_with_len 0 (length ps))

-- the packets in flight between these ends, ascending
abbrev pub between : ℕ × ℕ → List (Option (ℕ × ℕ)) → List ℕ
between e ps = numbers_of (goes_between e) 0 ps

-- the number of the queue of these ends
abbrev pub queue_of : ℕ → ℕ → ℕ
queue_of source destination = MAX_NODES * source + destination

-- the packets are in queues by their ends, and in an index those that are first
pub record IsQueued (ps : List (Option (ℕ × ℕ))) (queues : List (List ℕ)) (index : Flights) : Type 0 where
  pub few : length ps < 2 ^ 32
  pub number : length index.packets ≡ length ps
  pub within : (k : ℕ) → IfSome (get_or ps k None) (λ e. e.1 < MAX_NODES)
  pub queued : (s d : ℕ) → d < MAX_NODES → get_or queues (queue_of s d) [] ≡ between (s, d) ps
  pub first : (k : ℕ) → get_or index.packets k None ≡ turn_of ps k
