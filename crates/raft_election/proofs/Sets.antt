-- A vote more, to the tests on nodes.
use Rattle.std.proofs.Common.{◌≡◌, ℕ, ◌==◌, inl, inr, max, ap, arith, refl, ◌∙◌, ◌≢◌, ◌^◌, ◌<◌}
use Rattle.std.specs.Int.{bit_at}
use Rattle.std.proofs.lemmas.Bool.Decides.{eqb_tells}
use Rattle.std.proofs.lemmas.Nat.Bits.{bit_at-lt, bit_at-pow_other, bit_at-pow_same, bit_at-zero, bit_at_or}
use Rattle.vst_base.specs.Elections.{with_node}
use Rattle.raft_election.specs.Ballots.{VotesAreSets, has_vote, with_vote}

-- the node's own bit is 1
added : (node votes : ℕ) → bit_at (with_vote node votes) node ≡ 1
added node votes =
    let both : bit_at (with_vote node votes) node ≡ max (bit_at votes node) 1 = bit_at_or votes (2 ^ node) node ∙ ap (max (bit_at votes node)) (bit_at-pow_same node) in
    let a : bit_at votes node < 2 = bit_at-lt votes node in
    let one : max (bit_at votes node) 1 ≡ 1 = go (bit_at votes node) a in
    both ∙ one
  where
    go : (b : ℕ) → b < 2 → max b 1 ≡ 1
    go b below = omega arith

-- the other bits stay
kept : (node votes k : ℕ) → k ≢ node → bit_at (with_vote node votes) k ≡ bit_at votes k
kept node votes k differ =
    let both : bit_at (with_vote node votes) k ≡ max (bit_at votes k) 0 = bit_at_or votes (2 ^ node) k ∙ ap (max (bit_at votes k)) (bit_at-pow_other node k differ) in
    both ∙ go (bit_at votes k)
  where
    go : (b : ℕ) → max b 0 ≡ b
    go b = omega arith

at : (node votes k : ℕ) → has_vote (with_vote node votes) k ≡ with_node node (has_vote votes) k
at node votes k = elim (eqb_tells k node) [
  | inl t ↦ rw (t.0, t.1, added node votes) refl
  | inr t ↦ rw (t.0, kept node votes k t.1) refl
]

pub votes_are_sets : VotesAreSets
votes_are_sets = record { none = λ i k. ap (λ b. b == 1) (bit_at-zero k) i; one_more = λ node votes i k. at node votes k i }
