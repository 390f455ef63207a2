-- What is kept of one node after a packet was numbered, a number passed, or a content held: numbers, expected numbers and held contents.
use Rattle.std.specs.Prelude.{◌≡◌, ◌≢◌, ◌⊎◌, ℕ, suc, ◌≤◌, cond, Some, None, refl}
use Rattle.std.specs.FinMap as map
use Rattle.std.proofs.Common.{ap, arith, sym, ◌∙◌, inl, inr}
use Rattle.std.proofs.lemmas.Bool.{cases_eq, eq-eqb, ne_eqb}
use Rattle.std.proofs.lemmas.Option.{none-some, same_Some}
use Rattle.fifo_xform.specs.Peers.{Peer, Peers, peer_of, with_peer, counts, passes, holds, counting, passing, holding}
use Rattle.fifo_xform.specs.PeersLaws.{peer-there, peer-elsewhere}
use Rattle.fifo_xform.proofs.Views.{get-written, get-taken}

module _ {M : Type 0} where
  -- what is known of every node once that of one is put anew
  pub peer-cases : (P : Peer M → Peer M → Type 0) (ps : Peers M) (n : ℕ) (p : Peer M) → P (peer_of ps n) p → ((q : Peer M) → P q q) → (k : ℕ) → P (peer_of ps k) (peer_of (with_peer ps n p) k)
  peer-cases P ps n p changed same k = elim (cases_eq k n) [
    | inl here ↦ let is : peer_of (with_peer ps n p) k ≡ p = ap (peer_of (with_peer ps n p)) here ∙ peer-there ps n p in rw (is, here) changed
    | inr ne ↦ rw (peer-elsewhere ps n k p ne) (same (peer_of ps k))
  ]

  -- a content that is held now was held before, or is the one that was just held
  held-before : (p : Peer M) (number x : ℕ) (content c : M) → map.get (holds p number content).held x ≡ Some c → (map.get p.held x ≡ Some c) ⊎ ((x ≡ number) × (content ≡ c))
  held-before p number x content c e = elim (cases_eq number x) [
    | inl same ↦
        let here : map.get (map.insert p.held number content) x ≡ Some content = get-written p.held number content x ∙ ap (λ b. cond b (Some content) (map.get p.held x)) (eq-eqb number x same) in
        inr (sym same, same_Some content c (sym here ∙ e))
    | inr ne ↦
        let there : map.get (map.insert p.held number content) x ≡ map.get p.held x = get-written p.held number content x ∙ ap (λ b. cond b (Some content) (map.get p.held x)) (ne_eqb number x ne) in
        inl (sym there ∙ e)
  ]

  kept-before : (p : Peer M) (x : ℕ) (c : M) → map.get (passes p).held x ≡ Some c → map.get p.held x ≡ Some c
  kept-before p x c e = elim (cases_eq p.expected x) [
    | inl same ↦
        let gone : map.get (map.remove p.held p.expected) x ≡ None = get-taken p.held p.expected x ∙ ap (λ b. cond b None (map.get p.held x)) (eq-eqb p.expected x same) in
        absurd (none-some c (sym gone ∙ e))
    | inr ne ↦
        let there : map.get (map.remove p.held p.expected) x ≡ map.get p.held x = get-taken p.held p.expected x ∙ ap (λ b. cond b None (map.get p.held x)) (ne_eqb p.expected x ne) in
        sym there ∙ e
  ]

  module _ (ps : Peers M) (n k : ℕ) where
    pub next-counting : (peer_of ps k).next ≤ (peer_of (counting ps n) k).next
    next-counting = peer-cases (λ p q. p.next ≤ q.next) ps n (counts (peer_of ps n)) (omega arith) (λ q. omega arith) k

    pub expected-counting : (peer_of (counting ps n) k).expected ≡ (peer_of ps k).expected
    expected-counting = peer-cases (λ p q. q.expected ≡ p.expected) ps n (counts (peer_of ps n)) refl (λ q. refl) k

    pub held-counting : (peer_of (counting ps n) k).held ≡ (peer_of ps k).held
    held-counting = peer-cases (λ p q. q.held ≡ p.held) ps n (counts (peer_of ps n)) refl (λ q. refl) k

    pub next-passing : (peer_of (passing ps n) k).next ≡ (peer_of ps k).next
    next-passing = peer-cases (λ p q. q.next ≡ p.next) ps n (passes (peer_of ps n)) refl (λ q. refl) k

    pub held-passing : (x : ℕ) (c : M) → map.get (peer_of (passing ps n) k).held x ≡ Some c → map.get (peer_of ps k).held x ≡ Some c
    held-passing x c = peer-cases (λ p q. map.get q.held x ≡ Some c → map.get p.held x ≡ Some c) ps n (passes (peer_of ps n)) (kept-before (peer_of ps n) x c) (λ q e. e) k

    module _ (number : ℕ) (content : M) where
      pub next-holding : (peer_of (holding ps n number content) k).next ≡ (peer_of ps k).next
      next-holding = peer-cases (λ p q. q.next ≡ p.next) ps n (holds (peer_of ps n) number content) refl (λ q. refl) k

      pub expected-holding : (peer_of (holding ps n number content) k).expected ≡ (peer_of ps k).expected
      expected-holding = peer-cases (λ p q. q.expected ≡ p.expected) ps n (holds (peer_of ps n) number content) refl (λ q. refl) k

      pub held-holding : (x : ℕ) (c : M) → map.get (peer_of (holding ps n number content) k).held x ≡ Some c → (map.get (peer_of ps k).held x ≡ Some c) ⊎ ((k ≡ n) × (x ≡ number) × (content ≡ c))
      held-holding x c e = elim (cases_eq k n) [
        | inl here ↦
            let is : peer_of (holding ps n number content) k ≡ holds (peer_of ps n) number content = ap (peer_of (holding ps n number content)) here ∙ peer-there ps n _ in
            elim (held-before (peer_of ps n) number x content c (ap (λ (p : Peer M). map.get p.held x) (sym is) ∙ e)) [
              | inl old ↦ inl (ap (λ j. map.get (peer_of ps j).held x) here ∙ old)
              | inr new ↦ inr (here, new.0, new.1)
            ]
        | inr ne ↦ inl (ap (λ (p : Peer M). map.get p.held x) (sym (peer-elsewhere ps n k _ ne)) ∙ e)
      ]

  pub next-counted : (ps : Peers M) (n : ℕ) → (peer_of (counting ps n) n).next ≡ suc (peer_of ps n).next
  next-counted ps n = ap (λ (p : Peer M). p.next) (peer-there ps n (counts (peer_of ps n))) ∙ omega arith

  pub expected-passed : (ps : Peers M) (n : ℕ) → (peer_of (passing ps n) n).expected ≡ suc (peer_of ps n).expected
  expected-passed ps n = ap (λ (p : Peer M). p.expected) (peer-there ps n (passes (peer_of ps n))) ∙ omega arith

  pub expected-others : (ps : Peers M) (n k : ℕ) → k ≢ n → (peer_of (passing ps n) k).expected ≡ (peer_of ps k).expected
  expected-others ps n k ne = ap (λ (p : Peer M). p.expected) (peer-elsewhere ps n k (passes (peer_of ps n)) ne)
