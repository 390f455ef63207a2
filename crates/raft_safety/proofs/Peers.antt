-- How much of a leader's log it knows each node to have.
use Rattle.std.proofs.Common.{◌≡◌, ◌≢◌, ℕ, zero, suc, ◌<◌, List, length, map, replicate, eqb, cond, get_or, set, refl, sym, ap, ◌∙◌, ◌⊎◌, inl, inr, true, false}
use Rattle.std.proofs.lemmas.Bool.Decides.{eqb_tells}
use Rattle.std.proofs.lemmas.List.{get_or-map, get_or-set_other, get_or-set_same, length-map, map-set, set-get_or}
use Rattle.raft_commit.specs.Peers.{PeerView, matched_of, new_peer}
use Rattle.raft_free.specs.Nodes.{nothing}
use Rattle.raft_xform.specs.Nodes.{peer_at}

abbrev matches : PeerView → ℕ
matches p = p.matched

new_matches : (n len k : ℕ) → matched_of (replicate n (new_peer len)) k ≡ 0
new_matches zero len k = refl
new_matches (suc n) len zero = refl
new_matches (suc n) len (suc k) = new_matches n len k

-- a new leader knows of nothing
pub matched_new : (n len : ℕ) → matched_of (replicate n (new_peer len)) ≡ nothing
matched_new n len = λ i k. new_matches n len k i

-- what a leader knows of a node is the same, and so is all that it knows
pub matched_same : (peers : List PeerView) (j : ℕ) (p : PeerView) → j < length peers → p.matched ≡ (peer_at peers j).matched → matched_of (set peers j p) ≡ matched_of peers
matched_same peers j p below e =
    let here : p.matched ≡ get_or (map matches peers) j 0 = e ∙ sym (get_or-map matches peers j (new_peer 0) 0 below) in
    λ i k. get_or (whole here i) k 0
  where
    whole : p.matched ≡ get_or (map matches peers) j 0 → map matches (set peers j p) ≡ map matches peers
    whole here = map-set matches peers j p ∙ (ap (set (map matches peers) j) here ∙ set-get_or (map matches peers) j 0)

-- it learns something of one node
pub matched_set : (peers : List PeerView) (j : ℕ) (p : PeerView) → j < length peers → matched_of (set peers j p) ≡ (λ k. cond (eqb k j) p.matched (matched_of peers k))
matched_set peers j p below = λ i k. (ap (λ (xs : List ℕ). get_or xs k 0) (map-set matches peers j p) ∙ go k (eqb_tells k j)) i
  where
    go : (k : ℕ) → ((eqb k j ≡ true) × (k ≡ j)) ⊎ ((eqb k j ≡ false) × (k ≢ j)) → get_or (set (map matches peers) j p.matched) k 0 ≡ cond (eqb k j) p.matched (matched_of peers k)
    go k (inl t) = rw (t.0, t.1) (get_or-set_same (map matches peers) j p.matched 0 (rw (length-map peers matches) below))
    go k (inr t) = rw (t.0) (get_or-set_other (map matches peers) j k p.matched 0 t.1)
