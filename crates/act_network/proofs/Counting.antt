-- A turn counts: the event happens among the whole events.
use Rattle.std.proofs.Common.{◌≡◌, ℕ, suc, ◌+◌, ◌≤◌, true, false, List, [], ◌∷◌, ◌++◌, length, Some, slice_get, refl, ap, sym, subst, ◌∙◌, arith, inl, inr, eqb, append_assoc, length-append}
use Rattle.std.specs.Prelude.{nat_lt}
use Rattle.std.proofs.lemmas.Bool.{cases_eq, eq-eqb, le-ltb}
use Rattle.std.proofs.lemmas.Bool.Decides.{eqb_tells}
use Rattle.handler_trait.specs.Handling.{Meaning, Effect, Recovery}
use Rattle.net_semantics.specs.Worlds.{Packet, put, change_at, one_less, sent_by}
use Rattle.net_semantics.proofs.Places.{length-change_at}
use Rattle.act_network.specs.ActWorlds.{Cause, Input, Fired, Came, Flying}
use Rattle.std.proofs.lemmas.Option.{slice_get_within}
use Rattle.lists.specs.Places.{slice_get_seam}
use Rattle.act_network.proofs.Theres.{There, weaker, there-append, less-here, elsewhere}
use Rattle.act_network.proofs.Failing.{Comes, Ready, HasCopy, consumed}
use Rattle.act_network.proofs.Following.{Owner, Made, Due, AreCarried, IsCarried, AreDue, IsDue, IsMade, claim_of, owned, owned-before}

-- claims, where those at n are others
module _ (old : ℕ → ℕ → ℕ) (n : ℕ) where
  claim-here : (I : Type 0) (j d k : ℕ) → d ≡ n → k ≡ j → put old n (claim_of {I = I} (Came j)) d k ≡ 1
  claim-here I j d k same number =
      let t : eqb d n ≡ true = eq-eqb d n same in
      let u : eqb j k ≡ true = eq-eqb j k (sym number) in
      rw (t, u) refl

  pub claim-grows : (g : ℕ → ℕ) (d k : ℕ) → put old n (λ _. 0) d k ≤ put old n g d k
  claim-grows g d k = elim (eqb_tells d n) [ inl t ↦ rw (t.0) (omega arith) | inr t ↦ rw (t.0) (omega arith) ]

module _ {M : Type 0} where
  -- the packets that a node has just sent
  pub due-sent : (owner : ℕ → Owner) (n : ℕ) (ps : List (Packet M)) (ss : List (ℕ × M)) → ((k : ℕ) → length ps ≤ k → owner k ≡ Due n) →
      AreDue (ps ++ sent_by n ss) owner n (length ps) ss
  due-sent owner n ps [] h = tt
  due-sent owner n ps (s ∷ ss) h = (here (h (length ps) (omega arith)), rest (due-sent owner n (ps ++ new ∷ []) ss (λ k le. h k (later le))))
    where
      new : Packet M
      new = record { source = n; destination = s.0; content = s.1; copies = 1 }

      size : length (ps ++ new ∷ []) ≡ suc (length ps)
      size = length-append ps (new ∷ []) ∙ omega arith

      later : {k : ℕ} → length (ps ++ new ∷ []) ≤ k → length ps ≤ k
      later le = omega (arith, le, size)

      here : owner (length ps) ≡ Due n → IsDue (ps ++ new ∷ sent_by n ss) owner n (length ps) s
      here due = record {
        due = due;
        there = record {
          packet = new;
          is = slice_get_seam ps new (sent_by n ss);
          source_is = refl;
          destination_is = refl;
          content_is = refl;
          enough = omega arith;
        };
      }

      rest : AreDue ((ps ++ new ∷ []) ++ sent_by n ss) owner n (length (ps ++ new ∷ [])) ss → AreDue (ps ++ new ∷ sent_by n ss) owner n (suc (length ps)) ss
      rest h =
          let moved = subst (λ (qs : List (Packet M)). AreDue qs owner n (length (ps ++ new ∷ [])) ss) (append_assoc ps (new ∷ []) (sent_by n ss)) h in
          subst (λ (k : ℕ). AreDue (ps ++ new ∷ sent_by n ss) owner n k ss) size moved

  pub consumed-length : {I : Type 0} (c : Cause I) (fps : List (Packet M)) → length (consumed c fps) ≡ length fps
  consumed-length (Input i) fps = refl
  consumed-length Fired fps = refl
  consumed-length (Came k) fps = length-change_at one_less fps k

pub owned-after : (owner : ℕ → Owner) (count n k : ℕ) → count ≤ k → owned owner count n k ≡ Due n
owned-after owner count n k h = let t : nat_lt k count ≡ false = le-ltb k count h in rw t refl

module _ {S K I O M : Type 0} (m : Meaning S I O M) (r : Recovery S K) (aps : List (Flying M)) (fps : List (Packet M)) (owner : ℕ → Owner) (old : ℕ → ℕ → ℕ) (n : ℕ) where
  module _ (k0 : ℕ) (before : AreCarried aps fps owner (put old n (claim_of {I = I} (Came k0)))) (comes : Comes aps k0 n) where
    theirs : IsCarried fps owner comes.place comes.flying (put old n (claim_of {I = I} (Came k0)) comes.flying.packet.destination comes.flying.number)
    theirs = before comes.place comes.flying comes.is

    made-by : owner k0 ≡ Made comes.place
    made-by = ap owner (sym comes.number_is) ∙ theirs.made

    claimed-one : put old n (claim_of {I = I} (Came k0)) comes.flying.packet.destination comes.flying.number ≡ 1
    claimed-one = claim-here old n I k0 comes.flying.packet.destination comes.flying.number comes.goes comes.number_is

    has-copy : (s d : ℕ) (c : M) → There fps k0 s d c 0 → There fps k0 s d c 1
    has-copy s d c t =
        let same : Some theirs.there.packet ≡ Some t.packet = sym theirs.there.is ∙ (ap (λ (x : ℕ). slice_get fps x) comes.number_is ∙ t.is) in
        let packet : theirs.there.packet ≡ t.packet = cc in
        let copies : theirs.there.packet.copies ≡ t.packet.copies = ap (λ (p : Packet M). p.copies) packet in
        record {
          packet = t.packet;
          is = t.is;
          source_is = t.source_is;
          destination_is = t.destination_is;
          content_is = t.content_is;
          enough = omega (arith, theirs.there.enough, claimed-one, copies);
        }

    -- a packet of this number is the one that goes to the node
    is-theirs : (j : ℕ) (p : Flying M) → slice_get aps j ≡ Some p → owner p.number ≡ Made j → p.number ≡ k0 → p.packet.destination ≡ n
    is-theirs j p there made same =
        let places : Made j ≡ Made comes.place = sym made ∙ (ap owner same ∙ made-by) in
        let place : j ≡ comes.place = cc in
        let flying : Some p ≡ Some comes.flying = sym there ∙ (ap (λ (x : ℕ). slice_get aps x) place ∙ comes.is) in
        let same_flying : p ≡ comes.flying = cc in
        ap (λ (q : Flying M). q.packet.destination) same_flying ∙ comes.goes

    taken-there : (j : ℕ) (p : Flying M) → slice_get aps j ≡ Some p → (least : ℕ) → least ≤ p.packet.copies + put old n (λ _. 0) p.packet.destination p.number →
        There (change_at one_less k0 fps) p.number p.packet.source p.packet.destination p.packet.content least
    taken-there j p there least h =
        let b = before j p there in
        let grows = claim-grows old n (claim_of {I = I} (Came k0)) p.packet.destination p.number in
        elim (cases_eq p.number k0) [
          | inl same ↦ here b same
          | inr ne ↦ elsewhere one_less k0 ne (weaker b.there least (omega (arith, h, grows)))
        ]
      where
        here : IsCarried fps owner j p (put old n (claim_of {I = I} (Came k0)) p.packet.destination p.number) → p.number ≡ k0 →
            There (change_at one_less k0 fps) p.number p.packet.source p.packet.destination p.packet.content least
        here b same =
            let to : p.packet.destination ≡ n = is-theirs j p there b.made same in
            let one = claim-here old n I k0 p.packet.destination p.number to same in
            let t : eqb p.packet.destination n ≡ true = eq-eqb p.packet.destination n to in
            let none : put old n (λ (_ : ℕ). 0) p.packet.destination p.number ≡ 0 = rw t refl in
            let had : There fps p.number p.packet.source p.packet.destination p.packet.content (suc least) = weaker b.there (suc least) (omega (arith, h, one, none)) in
            subst (λ (x : ℕ). There (change_at one_less x fps) p.number p.packet.source p.packet.destination p.packet.content least) same (less-here had)

  module _ (c : Cause I) (s : S) (e : Effect S O M) (ready : Ready m r aps fps n s c e) (before : AreCarried aps fps owner (put old n (claim_of c))) where
    pub is-made : IsMade owner c
    is-made = by c ready before
      where
        by : (x : Cause I) → Ready m r aps fps n s x e → AreCarried aps fps owner (put old n (claim_of x)) → IsMade owner x
        by (Input i) h b = tt
        by Fired h b = tt
        by (Came k) h b = (h.comes.place, made-by k b h.comes)

    pub copy-there : HasCopy fps c
    copy-there = by c ready before
      where
        by : (x : Cause I) → Ready m r aps fps n s x e → AreCarried aps fps owner (put old n (claim_of x)) → HasCopy fps x
        by (Input i) h b = tt
        by Fired h b = tt
        by (Came k) h b = has-copy k b h.comes

    consumed-there : (j : ℕ) (p : Flying M) → slice_get aps j ≡ Some p → (least : ℕ) → least ≤ p.packet.copies + put old n (λ _. 0) p.packet.destination p.number →
        There (consumed c fps) p.number p.packet.source p.packet.destination p.packet.content least
    consumed-there j p there least h = by c ready before
      where
        by : (x : Cause I) → Ready m r aps fps n s x e → AreCarried aps fps owner (put old n (claim_of x)) →
            There (consumed x fps) p.number p.packet.source p.packet.destination p.packet.content least
        by (Input i) r b = let grows = claim-grows old n (claim_of (Input i)) p.packet.destination p.number in weaker (b j p there).there least (omega (arith, h, grows))
        by Fired r b = let grows = claim-grows old n (claim_of {I = I} Fired) p.packet.destination p.number in weaker (b j p there).there least (omega (arith, h, grows))
        by (Came k) r b = taken-there k b r.comes j p there least h

    -- once the event has taken its copy, nothing is claimed at the node
    pub carried-on : (new : List (Packet M)) (now : ℕ → ℕ → ℕ) → ((i k : ℕ) → now i k ≤ put old n (λ _. 0) i k) →
        AreCarried aps (consumed c fps ++ new) (owned owner (length fps) n) now
    carried-on new now less j p there =
        let b = before j p there in
        let l = less p.packet.destination p.number in
        record {
          made = owned-before owner (length fps) n p.number (slice_get_within fps p.number b.there.packet b.there.is) ∙ b.made;
          there = there-append new (consumed-there j p there (p.packet.copies + now p.packet.destination p.number) (omega (arith, l)));
        }
