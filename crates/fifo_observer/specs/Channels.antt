-- The packets of each channel, the way from one node to another, in the order of sending. Here a packet is its ends, source and
-- destination.
use Rattle.std.specs.Prelude.{◌≡◌, ℕ, suc, ◌<◌, List, [], ◌∷◌, length, map, take, count_by, Option, option_map, slice_get, if◌then◌else◌}
use Rattle.lanes.specs.Lanes.{is_same, lane}
use Rattle.net_semantics.specs.Worlds.{Packet}
use Rattle.observer_parts.specs.PacketLists.{list_at}

-- packets by their ends
abbrev pub ends_in : {M : Type 0} → List (Packet M) → List (ℕ × ℕ)
ends_in ps = map (λ p. (p.source, p.destination)) ps

-- the packets of one channel, each by its place among all
abbrev pub channel : ℕ × ℕ → List (ℕ × ℕ) → List ℕ
channel e [] = []
channel e (x ∷ xs) = if is_same e x then 0 ∷ map suc (channel e xs) else map suc (channel e xs)

-- the packet of a channel with this number, from 0 on
abbrev pub packet_with : ℕ × ℕ → ℕ → List (ℕ × ℕ) → Option ℕ
packet_with e number es = slice_get (channel e es) number

-- the number of packet k: how many earlier packets have its ends
abbrev pub number_of : List (ℕ × ℕ) → ℕ → Option ℕ
number_of es k = option_map (λ e. count_by (is_same e) (take k es)) (slice_get es k)

-- what is kept: the packets of each channel, by the number of its lane, and the number of each packet
pub record ChannelsView : Type 0 where
  pub lists : List (List ℕ)
  pub numbers : List ℕ

-- what is kept follows these packets
pub record Follows (c : ChannelsView) (es : List (ℕ × ℕ)) : Type 0 where
  pub count : length c.numbers ≡ length es
  pub numbers : (k : ℕ) → slice_get c.numbers k ≡ number_of es k
  pub lists : (s d : ℕ) → s < 256 → d < 256 → list_at c.lists (lane s d) ≡ channel (s, d) es
