-- What a node keeps of each node of its network, to number the packets that go there and to put in order those that come from there.
use Rattle.std.specs.Prelude.{ℕ, zero, suc, ◌+◌, Bool, not, ◌&&◌, nat_lt, List, [], ◌∷◌, Option, Some, None, option_map, sum_by, refl}
use Rattle.std.proofs.Common.{get_or}
use Rattle.std.specs.Coded.{Coded, code_by, coded×, coded_ℕ}
use Rattle.std.specs.FinMap as map
use Rattle.std.specs.FinMap.{FinMap}
use Rattle.std.specs.Ordering.{nat_cmp}

-- the number of the next packet that goes there, the number that is expected next from there, and the contents that came from there
-- early, by number
pub record Peer (M : Type 0) : Type 0 where
  pub next : ℕ
  pub expected : ℕ
  pub held : FinMap nat_cmp M

abbrev pub peer_code : {M : Type 0} → Coded M → Coded (Peer M)
peer_code {M} code =
    code_by (ℕ × (ℕ × FinMap nat_cmp M)) (coded× coded_ℕ (coded× coded_ℕ (map.code coded_ℕ code)))
    (λ p. (p.next, (p.expected, p.held))) (λ p. record { next = p.0; expected = p.1.0; held = p.1.1 }) (λ _. refl)

-- of a node to which nothing went, and from which nothing came
abbrev pub new_peer : {M : Type 0} → Peer M
new_peer = record { next = 0; expected = 0; held = map.empty }

-- by node, from node 0 on; a node after the last is a new one
abbrev pub Peers : Type 0 → Type 0
Peers M = List (Peer M)

abbrev pub peer_of : {M : Type 0} → Peers M → ℕ → Peer M
peer_of ps n = get_or ps n new_peer

-- with what is kept of one node put anew
abbrev pub with_peer : {M : Type 0} → Peers M → ℕ → Peer M → Peers M
with_peer [] zero p = p ∷ []
with_peer [] (suc n) p = new_peer ∷ with_peer [] n p
with_peer (q ∷ qs) zero p = p ∷ qs
with_peer (q ∷ qs) (suc n) p = q ∷ with_peer qs n p

-- one packet more has its number
abbrev pub counts : {M : Type 0} → Peer M → Peer M
counts p = record { next = p.next + 1; expected = p.expected; held = p.held }

-- the expected number is passed: a content that is held under it goes
abbrev pub passes : {M : Type 0} → Peer M → Peer M
passes p = record { next = p.next; expected = p.expected + 1; held = map.remove p.held p.expected }

-- a content is held under its number
abbrev pub holds : {M : Type 0} → Peer M → ℕ → M → Peer M
holds p n content = record { next = p.next; expected = p.expected; held = map.insert p.held n content }

-- whether a number is above the expected one, and nothing is held under it
abbrev pub is_early : {M : Type 0} → Peer M → ℕ → Bool
is_early p n = nat_lt p.expected n && not (map.contains_key p.held n)

-- the same of one node among all
abbrev pub counting : {M : Type 0} → Peers M → ℕ → Peers M
counting ps n = with_peer ps n (counts (peer_of ps n))

abbrev pub passing : {M : Type 0} → Peers M → ℕ → Peers M
passing ps n = with_peer ps n (passes (peer_of ps n))

abbrev pub holding : {M : Type 0} → Peers M → ℕ → ℕ → M → Peers M
holding ps n number content = with_peer ps n (holds (peer_of ps n) number content)

-- what is held of a node under the number that is expected next
abbrev pub held_next : {M : Type 0} → Peer M → Option M
held_next p = map.get p.held p.expected

-- the least of the nodes below `nodes` of which something is held under the expected number, and what; from node n on among so many
abbrev pub ready_or : {M : Type 0} → ℕ → Option M → Option (ℕ × M) → Option (ℕ × M)
ready_or n None later = later
ready_or n (Some content) later = Some (n, content)

abbrev pub ready_among : {M : Type 0} → ℕ → ℕ → Peers M → Option (ℕ × M)
ready_among zero n ps = None
ready_among (suc left) n ps = ready_or n (held_next (peer_of ps n)) (ready_among left (suc n) ps)

abbrev pub ready : {M : Type 0} → ℕ → Peers M → Option (ℕ × M)
ready nodes ps = ready_among nodes 0 ps

-- that node, and the number under which it is held
abbrev pub ready_number : {M : Type 0} → ℕ → Peers M → Option (ℕ × ℕ)
ready_number nodes ps = option_map (λ r. (r.0, (peer_of ps r.0).expected)) (ready nodes ps)

-- how many packets were numbered, and how many numbers were passed, over all nodes
abbrev pub numbered_packets : {M : Type 0} → Peers M → ℕ
numbered_packets ps = sum_by (λ p. p.next) ps

abbrev pub passed_numbers : {M : Type 0} → Peers M → ℕ
passed_numbers ps = sum_by (λ p. p.expected) ps
