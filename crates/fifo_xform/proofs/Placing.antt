-- What is kept of each node, in its place.
use Rattle.std.specs.Prelude.{◌≡◌, ℕ, zero, suc, ◌+◌, ◌-◌, ◌<◌, ◌≤◌, Bool, true, false, not, ◌&&◌, [], ◌∷◌, ◌++◌, length, nat_lt, Option, Some, None, is_some, option_map, slice_get, refl}
use Rattle.std.specs.FinMap.{get-empty}
use Rattle.std.specs.Ordering.{nat_cmp}
use Rattle.std.proofs.Common.{ap, arith, get_or, sym, ◌∙◌}
use Rattle.std.proofs.Common.{set as put_at}
use Rattle.fifo_xform.specs.Peers.{Peer, Peers, new_peer, peer_of, with_peer, is_early, held_next, ready, ready_among, ready_number, ready_or}
use Rattle.fifo_xform.specs.PeersLaws.{expected-most, numbered-passing}

module _ {M : Type 0} where
  -- a new node may have a place or none
  pub with_peer-reached : (ps : Peers M) (n : ℕ) (p : Peer M) → length ps ≤ n → with_peer (ps ++ new_peer ∷ []) n p ≡ with_peer ps n p
  with_peer-reached [] zero p le = refl
  with_peer-reached [] (suc n) p le = refl
  with_peer-reached (q ∷ qs) zero p le = absurd (omega (arith, le))
  with_peer-reached (q ∷ qs) (suc n) p le = ap (λ xs. q ∷ xs) (with_peer-reached qs n p (omega (arith, le)))

  pub peer_of-reached : (ps : Peers M) (n : ℕ) → peer_of (ps ++ new_peer ∷ []) n ≡ peer_of ps n
  peer_of-reached [] zero = refl
  peer_of-reached [] (suc n) = refl
  peer_of-reached (q ∷ qs) zero = refl
  peer_of-reached (q ∷ qs) (suc n) = peer_of-reached qs n

  pub peer_of-past : (ps : Peers M) (n : ℕ) → length ps ≤ n → peer_of ps n ≡ new_peer
  peer_of-past [] n le = refl
  peer_of-past (q ∷ qs) zero le = absurd (omega (arith, le))
  peer_of-past (q ∷ qs) (suc n) le = peer_of-past qs n (omega (arith, le))

  -- in its place
  pub with_peer-placed : (ps : Peers M) (n : ℕ) (p : Peer M) → n < length ps → put_at ps n p ≡ with_peer ps n p
  with_peer-placed [] n p lt = absurd (omega (arith, lt))
  with_peer-placed (q ∷ qs) zero p lt = refl
  with_peer-placed (q ∷ qs) (suc n) p lt = ap (λ xs. q ∷ xs) (with_peer-placed qs n p (omega (arith, lt)))

  pub peer_of-placed : (ps : Peers M) (n : ℕ) (d : Peer M) → n < length ps → get_or ps n d ≡ peer_of ps n
  peer_of-placed [] n d lt = absurd (omega (arith, lt))
  peer_of-placed (q ∷ qs) zero d lt = refl
  peer_of-placed (q ∷ qs) (suc n) d lt = peer_of-placed qs n d (omega (arith, lt))

  pub peer_of-found : (ps : Peers M) (n : ℕ) (p : Peer M) → slice_get ps n ≡ Some p → peer_of ps n ≡ p
  peer_of-found [] n p e = cc
  peer_of-found (q ∷ qs) zero p e = cc
  peer_of-found (q ∷ qs) (suc n) p e = peer_of-found qs n p e

  -- a place that was reached is put anew
  pub placed-anew : (old reached : Peers M) (place n : ℕ) (d : Peer M) (f : Peer M → Peer M) → place ≡ n → place < length reached → peer_of reached place ≡ peer_of old place
      → ((p : Peer M) → with_peer reached place p ≡ with_peer old place p) → put_at reached place (f (get_or reached place d)) ≡ with_peer old n (f (peer_of old n))
  placed-anew old reached place n d f is there kept same =
      with_peer-placed reached place _ there
      ∙ (ap (λ p. with_peer reached place (f p)) (peer_of-placed reached place d there ∙ kept)
      ∙ (same (f (peer_of old place)) ∙ ap (λ k. with_peer old k (f (peer_of old k))) is))

module _ {M : Type 0} (nodes n : ℕ) (ps : Peers M) where
  -- where nothing is held of a node under its expected number, the next one is looked at
  pub ready-next : n < nodes → held_next (peer_of ps n) ≡ None → ready_among (nodes - (n + 1)) (n + 1) ps ≡ ready_among (nodes - n) n ps
  ready-next lt none =
      let left : nodes - n ≡ suc (nodes - (n + 1)) = omega (arith, lt) in
      let more : n + 1 ≡ suc n = omega arith in
      ap (λ j. ready_among (nodes - (n + 1)) j ps) more
      ∙ (sym (ap (λ o. ready_or n o (ready_among (nodes - (n + 1)) (suc n) ps)) none) ∙ ap (λ k. ready_among k n ps) (sym left))

  pub ready-found : (content : M) → n < nodes → held_next (peer_of ps n) ≡ Some content → ready_among (nodes - n) n ps ≡ Some (n, content)
  ready-found content lt some =
      let left : nodes - n ≡ suc (nodes - (n + 1)) = omega (arith, lt) in
      ap (λ k. ready_among k n ps) left ∙ ap (λ o. ready_or n o (ready_among (nodes - (n + 1)) (suc n) ps)) some

  -- the same where only whether something is held is known
  ready-past : is_some (held_next (peer_of ps n)) ≡ false → held_next (peer_of ps n) ≡ None
  ready-past e = by-held (held_next (peer_of ps n)) e where
    by-held : (o : Option M) → is_some o ≡ false → o ≡ None
    by-held None is = refl
    by-held (Some content) is = cc

  pub unready-next : n < nodes → is_some (held_next (peer_of ps n)) ≡ false → ready_among (nodes - (n + 1)) (n + 1) ps ≡ ready_among (nodes - n) n ps
  unready-next lt e = ready-next lt (ready-past e)

  pub number-found : n < nodes → ready_among (nodes - n) n ps ≡ ready nodes ps → is_some (held_next (peer_of ps n)) ≡ true → ready_number nodes ps ≡ Some (n, (peer_of ps n).expected)
  number-found lt inv e = by-held (held_next (peer_of ps n)) refl e where
    by-held : (o : Option M) → held_next (peer_of ps n) ≡ o → is_some o ≡ true → ready_number nodes ps ≡ Some (n, (peer_of ps n).expected)
    by-held None is some = cc
    by-held (Some content) is some = ap (λ o. option_map (λ r. (r.0, (peer_of ps r.0).expected)) o) (sym inv ∙ ready-found content lt is)

  pub number-none : nodes ≤ n → ready_among (nodes - n) n ps ≡ ready nodes ps → ready_number nodes ps ≡ None
  number-none le inv =
      let none : nodes - n ≡ 0 = omega (arith, le) in
      ap (λ o. option_map (λ r. (r.0, (peer_of ps r.0).expected)) o) (sym inv ∙ ap (λ k. ready_among k n ps) none)

-- for the look at what is ready
pub ruleset reads = (unready-next, number-found, number-none)

-- for the look for what is ready
pub ruleset steps = (ready-next, ready-found, expected-most)

-- for what was numbered once a number is passed
pub ruleset numbers = (numbered-passing, expected-most)

-- of a new node every number but the first is early
pub early-new : (M : Type 0) (number : ℕ) → nat_lt 0 number ≡ is_early (new_peer {M = M}) number
early-new M number = by-first (nat_lt 0 number) ∙ ap (λ (o : Option M). nat_lt 0 number && not (is_some o)) (sym (get-empty nat_cmp number)) where
  by-first : (b : Bool) → b ≡ b && true
  by-first true = refl
  by-first false = refl

-- of a new node nothing is ready
pub unready-new : (M : Type 0) → false ≡ is_some (held_next (new_peer {M = M}))
unready-new M = ap (λ (o : Option M). is_some o) (sym (get-empty nat_cmp 0))
