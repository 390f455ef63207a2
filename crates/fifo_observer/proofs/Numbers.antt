-- The number that a packet bears is its number in its channel.
use Rattle.std.specs.Prelude.{◌≡◌, ◌≢◌, ℕ, zero, suc, ◌+◌, ◌==◌, ◌&&◌, Bool, true, false, cond, List, [], ◌∷◌, ◌++◌, map, take, count_by, Some, option_map, slice_get, if◌then◌else◌}
use Rattle.std.proofs.Common.{ap, append_assoc, arith, inl, inr, refl, subst, sym, ◌∙◌}
use Rattle.std.proofs.lemmas.Bool.{cases_eq, eq-eqb, ne_eqb}
use Rattle.std.proofs.lemmas.Bool.Decides.{nat_tests}
use Rattle.std.proofs.lemmas.List.{append-nil}
use Rattle.std.proofs.lemmas.List.Sums.{sum_by-cons}
use Rattle.std.proofs.lemmas.Option.{none-some, same_Some, slice_get-map}
use Rattle.lanes.specs.Lanes.{is_same}
use Rattle.net_semantics.specs.Steps.{copied}
use Rattle.net_semantics.specs.Worlds.{Packet, change_at, sent_by}
use Rattle.vst_base.specs.Nets.{Copied, Delivered, Fate, Lost}
use Rattle.vst_base.specs.declared.seq.SeqMsg.{SeqMsg}
use Rattle.fifo_xform.specs.Fifo.{counted, numbered_by}
use Rattle.fifo_xform.specs.Image.{goes_with, sent_with}
use Rattle.fifo_xform.specs.Peers.{Peers, counting, peer_of}
use Rattle.fifo_xform.specs.PeersLaws.{peer-elsewhere}
use Rattle.fifo_xform.proofs.PeerFacts.{next-counted}
use Rattle.fifo_observer.specs.Channels.{channel, ends_in, number_of}

-- a packet with this number is the next one of a channel, or of another
abbrev Turn : Bool → ℕ → ℕ → (ℕ → Type 0) → Type 0
Turn true number c rest = (number ≡ c) × rest (suc c)
Turn false number c rest = rest c

turn-weaker : {P Q : ℕ → Type 0} (b : Bool) (number c : ℕ) → ((x : ℕ) → P x → Q x) → Turn b number c P → Turn b number c Q
turn-weaker true number c f h = (h.0, f (suc c) h.1)
turn-weaker false number c f h = f c h

module _ {M : Type 0} where
  -- a packet goes from a to d
  abbrev goes : ℕ → ℕ → Packet (SeqMsg M) → Bool
  goes a d p = is_same (a, d) (p.source, p.destination)

  -- those of these packets that go from a to d have the numbers from c on, up to e
  abbrev pub InTurn : ℕ → ℕ → List (Packet (SeqMsg M)) → ℕ → ℕ → Type 0
  InTurn a d [] e c = c ≡ e
  InTurn a d (p ∷ ps) e c = Turn (goes a d p) p.content.number c (InTurn a d ps e)

  module _ (a d : ℕ) where
    turn-more : (p : Packet (SeqMsg M)) (e : ℕ) → goes a d p ≡ true → p.content.number ≡ e → (ps : List (Packet (SeqMsg M))) (c : ℕ) → InTurn a d ps e c → InTurn a d (ps ++ p ∷ []) (suc e) c
    turn-more p e is number [] c h = rw is (number ∙ sym h, ap suc h)
    turn-more p e is number (q ∷ ps) c h = turn-weaker (goes a d q) q.content.number c (turn-more p e is number ps) h

    turn-other : (p : Packet (SeqMsg M)) (e : ℕ) → goes a d p ≡ false → (ps : List (Packet (SeqMsg M))) (c : ℕ) → InTurn a d ps e c → InTurn a d (ps ++ p ∷ []) e c
    turn-other p e is [] c h = rw is h
    turn-other p e is (q ∷ ps) c h = turn-weaker (goes a d q) q.content.number c (turn-other p e is ps) h

    pub turn-copied : (fate : Fate) (k : ℕ) (ps : List (Packet (SeqMsg M))) (e c : ℕ) → InTurn a d ps e c → InTurn a d (change_at (copied fate) k ps) e c
    turn-copied fate k [] e c h = h
    turn-copied Delivered zero (p ∷ ps) e c h = h
    turn-copied Copied zero (p ∷ ps) e c h = h
    turn-copied Lost zero (p ∷ ps) e c h = h
    turn-copied fate (suc k) (p ∷ ps) e c h = turn-weaker (goes a d p) p.content.number c (turn-copied fate k ps e) h

    -- what a node sends has the next numbers of its channels
    pub turn-sent : (sends : List (ℕ × M)) (before : Peers M) (ps : List (Packet (SeqMsg M))) → InTurn a d ps (peer_of before d).next 0
        → InTurn a d (ps ++ sent_by a (numbered_by before sends)) (peer_of (counted before sends) d).next 0
    turn-sent [] before ps h = rw (append-nil ps) h
    turn-sent (s ∷ ss) before ps h =
        let p : Packet (SeqMsg M) = record { source = a; destination = s.0; content = record { number = (peer_of before s.0).next; inner = s.1 }; copies = 1 } in
        let one : InTurn a d (ps ++ p ∷ []) (peer_of (counting before s.0) d).next 0 = elim (cases_eq d s.0) [
          | inl same ↦
              let goes_so : goes a d p ≡ true = rw (eq-eqb a a refl, eq-eqb d s.0 same) refl in
              subst (λ e. InTurn a d (ps ++ p ∷ []) e 0) (sym (ap (λ x. (peer_of (counting before s.0) x).next) same ∙ (next-counted before s.0 ∙ ap (λ x. suc (peer_of before x).next) (sym same))))
              (turn-more p (peer_of before d).next goes_so (ap (λ x. (peer_of before x).next) (sym same)) ps 0 h)
          | inr ne ↦
              let goes_not : goes a d p ≡ false = rw (eq-eqb a a refl, ne_eqb d s.0 ne) refl in
              subst (λ e. InTurn a d (ps ++ p ∷ []) e 0) (sym (ap (λ x. x.next) (peer-elsewhere before s.0 d _ ne))) (turn-other p (peer_of before d).next goes_not ps 0 h)
        ] in
        subst (λ xs. InTurn a d xs (peer_of (counted (counting before s.0) ss) d).next 0) (append_assoc ps (p ∷ []) (sent_by a (numbered_by (counting before s.0) ss))) (turn-sent ss (counting before s.0) (ps ++ p ∷ []) one)

    -- and of no other node's
    pub turn-unsent : (n : ℕ) → a ≢ n → (sends : List (ℕ × SeqMsg M)) (ps : List (Packet (SeqMsg M))) (e : ℕ) → InTurn a d ps e 0 → InTurn a d (ps ++ sent_by n sends) e 0
    turn-unsent n ne [] ps e h = rw (append-nil ps) h
    turn-unsent n ne (s ∷ ss) ps e h =
        let p : Packet (SeqMsg M) = record { source = n; destination = s.0; content = s.1; copies = 1 } in
        let goes_not : goes a d p ≡ false = rw (ne_eqb a n ne) refl in
        subst (λ xs. InTurn a d xs e 0) (append_assoc ps (p ∷ []) (sent_by n ss)) (turn-unsent n ne ss (ps ++ p ∷ []) e (turn-other p e goes_not ps 0 h))

    -- the number of a packet of this channel
    turn-number : (ps : List (Packet (SeqMsg M))) (e c k : ℕ) (p : Packet (SeqMsg M)) → InTurn a d ps e c → slice_get ps k ≡ Some p → goes a d p ≡ true
        → p.content.number ≡ c + count_by (is_same (a, d)) (take k (ends_in ps))
    turn-number [] e c k p h at is = absurd (none-some p at)
    turn-number (q ∷ ps) e c zero p h at is =
        let same : q ≡ p = same_Some q p at in
        let goes_so : goes a d q ≡ true = ap (goes a d) same ∙ is in
        let here : (q.content.number ≡ c) × InTurn a d ps e (suc c) = rw goes_so at h in
        ap (λ (x : Packet (SeqMsg M)). x.content.number) (sym same) ∙ (here.0 ∙ omega arith)
    turn-number (q ∷ ps) e c (suc k) p h at is = by-case (goes a d q) refl h (λ x w. turn-number ps e x k p w at is) where
      by-case : (b : Bool) → goes a d q ≡ b → Turn b q.content.number c (InTurn a d ps e) → ((x : ℕ) → InTurn a d ps e x → p.content.number ≡ x + count_by (is_same (a, d)) (take k (ends_in ps)))
          → p.content.number ≡ c + count_by (is_same (a, d)) (take (suc k) (ends_in (q ∷ ps)))
      by-case b goes_so w rest =
          let more = sum_by-cons (λ y. cond (is_same (a, d) y) 1 0) (q.source, q.destination) (take k (ends_in ps)) in
          let here : ◌≡◌ {A = ℕ} (cond (goes a d q) 1 0) (cond b 1 0) = ap (λ x. cond x 1 0) goes_so in
          after b w (omega (arith, more, here)) where
            after : (b : Bool) → Turn b q.content.number c (InTurn a d ps e) → count_by (is_same (a, d)) (take (suc k) (ends_in (q ∷ ps))) ≡ cond b 1 0 + count_by (is_same (a, d)) (take k (ends_in ps))
                → p.content.number ≡ c + count_by (is_same (a, d)) (take (suc k) (ends_in (q ∷ ps)))
            after true w more = omega (arith, more, rest (suc c) w.1)
            after false w more = omega (arith, more, rest c w)

    goes-with : (x : ℕ) (p : Packet (SeqMsg M)) → goes_with a d x p ≡ goes a d p && (p.content.number == x)
    goes-with x p = grind (arith, nat_tests)

    -- the packet of this channel with a number, where the first of these has number c
    pub turn-with : (ps : List (Packet (SeqMsg M))) (e c j : ℕ) → InTurn a d ps e c → sent_with a d (c + j) ps ≡ slice_get (channel (a, d) (ends_in ps)) j
    turn-with [] e c j h = refl
    turn-with (p ∷ ps) e c j h = by-case (goes a d p) refl h j (λ i j w. ap (λ o. option_map suc o) (turn-with ps e i j w) ∙ sym (slice_get-map suc (channel (a, d) (ends_in ps)) j)) where
      Later : Type 0
      Later = (i j : ℕ) → InTurn a d ps e i → option_map suc (sent_with a d (i + j) ps) ≡ slice_get (map suc (channel (a, d) (ends_in ps))) j

      by-case : (b : Bool) → goes a d p ≡ b → Turn b p.content.number c (InTurn a d ps e) → (j : ℕ) → Later → sent_with a d (c + j) (p ∷ ps)
          ≡ slice_get (if goes a d p then 0 ∷ map suc (channel (a, d) (ends_in ps)) else map suc (channel (a, d) (ends_in ps))) j
      by-case true is w zero later = let first : p.content.number ≡ c + 0 = omega (arith, w.0) in rw (goes-with (c + 0) p, is, eq-eqb p.content.number (c + 0) first) refl
      by-case true is w (suc j) later =
          let past : p.content.number ≢ c + suc j = λ e. omega (arith, e, w.0) in
          let next : c + suc j ≡ suc c + j = omega arith in
          rw (goes-with (c + suc j) p, is, ne_eqb p.content.number (c + suc j) past) (ap (λ n. option_map suc (sent_with a d n ps)) next ∙ later (suc c) j w.1)
      by-case false is w j later = rw (goes-with (c + j) p, is) (later c j w)

-- the number of a packet, by its place
pub number-is : {M : Type 0} (ps : List (Packet (SeqMsg M))) (e k : ℕ) (p : Packet (SeqMsg M)) → InTurn p.source p.destination ps e 0 → slice_get ps k ≡ Some p → number_of (ends_in ps) k ≡ Some p.content.number
number-is {M = M} ps e k p h at =
    let itself : goes p.source p.destination p ≡ true = rw (eq-eqb p.source p.source refl, eq-eqb p.destination p.destination refl) refl in
    let ends_at : slice_get (ends_in ps) k ≡ Some (p.source, p.destination) = slice_get-map (λ (x : Packet (SeqMsg M)). (x.source, x.destination)) ps k ∙ ap (λ o. option_map (λ (x : Packet (SeqMsg M)). (x.source, x.destination)) o) at in
    let number : p.content.number ≡ count_by (is_same (p.source, p.destination)) (take k (ends_in ps)) = omega (arith, turn-number p.source p.destination ps e 0 k p h at itself) in
    ap (λ o. option_map (λ (x : ℕ × ℕ). count_by (is_same x) (take k (ends_in ps))) o) ends_at ∙ ap Some (sym number)
