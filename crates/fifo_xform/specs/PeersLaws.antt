-- What is kept of each node, once that of one is put anew.
use Rattle.std.specs.Prelude.{◌≡◌, ◌≢◌, ℕ, zero, suc, ◌+◌, ◌<◌, ◌≤◌, max, [], ◌∷◌, length, Option, Some, None, sum_by, refl}
use Rattle.std.proofs.Common.{ap, arith, subst}
use Rattle.std.proofs.lemmas.List.Sums.{sum_by-cons}
use Rattle.std.proofs.lemmas.Option.{none-some, same_Some}
use Rattle.fifo_xform.specs.Peers.{Peer, Peers, new_peer, peer_of, with_peer, counts, passes, holds, counting, passing, holding, held_next, ready, ready_among, ready_or, numbered_packets, passed_numbers}

module _ {M : Type 0} where
  pub peer-there : (ps : Peers M) (n : ℕ) (p : Peer M) → peer_of (with_peer ps n p) n ≡ p
  peer-there [] zero p = refl
  peer-there [] (suc n) p = peer-there [] n p
  peer-there (q ∷ qs) zero p = refl
  peer-there (q ∷ qs) (suc n) p = peer-there qs n p

  pub peer-elsewhere : (ps : Peers M) (n k : ℕ) (p : Peer M) → k ≢ n → peer_of (with_peer ps n p) k ≡ peer_of ps k
  peer-elsewhere [] zero zero p ne = absurd (ne refl)
  peer-elsewhere [] zero (suc k) p ne = refl
  peer-elsewhere [] (suc n) zero p ne = refl
  peer-elsewhere [] (suc n) (suc k) p ne = peer-elsewhere [] n k p (λ e. ne (ap suc e))
  peer-elsewhere (q ∷ qs) zero zero p ne = absurd (ne refl)
  peer-elsewhere (q ∷ qs) zero (suc k) p ne = refl
  peer-elsewhere (q ∷ qs) (suc n) zero p ne = refl
  peer-elsewhere (q ∷ qs) (suc n) (suc k) p ne = peer-elsewhere qs n k p (λ e. ne (ap suc e))

  -- there is a place for the node now, and none after it that was not there
  pub length-with_peer : (ps : Peers M) (n : ℕ) (p : Peer M) → length (with_peer ps n p) ≡ max (length ps) (suc n)
  length-with_peer [] zero p = refl
  length-with_peer [] (suc n) p = let e = length-with_peer [] n p in omega (arith, e)
  length-with_peer (q ∷ qs) zero p = omega arith
  length-with_peer (q ∷ qs) (suc n) p = let e = length-with_peer qs n p in omega (arith, e)

  -- a sum over all nodes changes by what changes of the one
  module _ (f : Peer M → ℕ) (new : f new_peer ≡ 0) where
    pub sum-with_peer : (ps : Peers M) (n : ℕ) (p : Peer M) → sum_by f (with_peer ps n p) + f (peer_of ps n) ≡ sum_by f ps + f p
    sum-with_peer [] zero p = omega (arith, new, sum_by-cons f p [])
    sum-with_peer [] (suc n) p = omega (arith, new, sum_by-cons f new_peer (with_peer [] n p), sum-with_peer [] n p)
    sum-with_peer (q ∷ qs) zero p = omega (arith, sum_by-cons f p qs, sum_by-cons f q qs)
    sum-with_peer (q ∷ qs) (suc n) p = omega (arith, sum_by-cons f q (with_peer qs n p), sum_by-cons f q qs, sum-with_peer qs n p)

    -- and what is kept of one is no more than all
    pub part-of_sum : (ps : Peers M) (n : ℕ) → f (peer_of ps n) ≤ sum_by f ps
    part-of_sum [] n = omega (arith, new)
    part-of_sum (q ∷ qs) zero = omega (arith, sum_by-cons f q qs)
    part-of_sum (q ∷ qs) (suc n) = omega (arith, sum_by-cons f q qs, part-of_sum qs n)

  pub numbered-counting : (ps : Peers M) (n : ℕ) → numbered_packets (counting ps n) ≡ numbered_packets ps + 1
  numbered-counting ps n = omega (arith, sum-with_peer (λ p. p.next) refl ps n (counts (peer_of ps n)))

  pub passed-counting : (ps : Peers M) (n : ℕ) → passed_numbers (counting ps n) ≡ passed_numbers ps
  passed-counting ps n = omega (arith, sum-with_peer (λ p. p.expected) refl ps n (counts (peer_of ps n)))

  pub numbered-passing : (ps : Peers M) (n : ℕ) → numbered_packets (passing ps n) ≡ numbered_packets ps
  numbered-passing ps n = omega (arith, sum-with_peer (λ p. p.next) refl ps n (passes (peer_of ps n)))

  pub passed-passing : (ps : Peers M) (n : ℕ) → passed_numbers (passing ps n) ≡ passed_numbers ps + 1
  passed-passing ps n = omega (arith, sum-with_peer (λ p. p.expected) refl ps n (passes (peer_of ps n)))

  pub numbered-holding : (ps : Peers M) (n number : ℕ) (content : M) → numbered_packets (holding ps n number content) ≡ numbered_packets ps
  numbered-holding ps n number content = omega (arith, sum-with_peer (λ p. p.next) refl ps n (holds (peer_of ps n) number content))

  pub passed-holding : (ps : Peers M) (n number : ℕ) (content : M) → passed_numbers (holding ps n number content) ≡ passed_numbers ps
  passed-holding ps n number content = omega (arith, sum-with_peer (λ p. p.expected) refl ps n (holds (peer_of ps n) number content))

  -- no number that was given out is over all of them
  pub next-most : (ps : Peers M) (n : ℕ) → (peer_of ps n).next ≤ numbered_packets ps
  next-most ps n = part-of_sum (λ p. p.next) refl ps n

  pub expected-most : (ps : Peers M) (n : ℕ) → (peer_of ps n).expected ≤ passed_numbers ps
  expected-most ps n = part-of_sum (λ p. p.expected) refl ps n

  -- what is ready is held of one of the nodes
  pub record IsReady (nodes : ℕ) (ps : Peers M) (a : ℕ) (content : M) : Type 0 where
    pub exists : a < nodes
    pub held : held_next (peer_of ps a) ≡ Some content

  ready-here : (nodes left n : ℕ) (ps : Peers M) (a : ℕ) (content : M) (o : Option M) → n < nodes → held_next (peer_of ps n) ≡ o
      → (ready_among left (suc n) ps ≡ Some (a, content) → IsReady nodes ps a content) → ready_or n o (ready_among left (suc n) ps) ≡ Some (a, content) → IsReady nodes ps a content
  ready-here nodes left n ps a content (Some c) exists is later e =
      let pair : ◌≡◌ {A = ℕ × M} (n, c) (a, content) = same_Some (n, c) (a, content) e in
      let here : IsReady nodes ps n c = record { exists = exists; held = is } in
      subst (λ (x : ℕ × M). IsReady nodes ps x.0 x.1) pair here
  ready-here nodes left n ps a content None exists is later e = later e

  ready-from : (nodes left n : ℕ) (ps : Peers M) (a : ℕ) (content : M) → n + left ≡ nodes → ready_among left n ps ≡ Some (a, content) → IsReady nodes ps a content
  ready-from nodes zero n ps a content all e = absurd (none-some (a, content) e)
  ready-from nodes (suc left) n ps a content all e =
      ready-here nodes left n ps a content (held_next (peer_of ps n)) (omega (arith, all)) refl (ready-from nodes left (suc n) ps a content (omega (arith, all))) e

  pub ready-is : (nodes : ℕ) (ps : Peers M) (a : ℕ) (content : M) → ready nodes ps ≡ Some (a, content) → IsReady nodes ps a content
  ready-is nodes ps a content e = ready-from nodes nodes 0 ps a content (omega arith) e
