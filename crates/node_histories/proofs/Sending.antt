-- Which happening it was that sent what a node hears.
use Rattle.std.proofs.Common.{◌≡◌, ℕ, List, [], ◌∷◌, ◌++◌, refl, sym, ap, subst, append_assoc, inl, inr, ◌⊎◌}
use Rattle.std.proofs.lemmas.List.Elements.{Contains-append_cases, Contains-append_left, Contains-append_right}
use Rattle.std.specs.Prelude.{Contains}
use Rattle.handler_trait.specs.Handling.{Meaning, Recovery}
use Rattle.net_semantics.specs.Worlds.{Packet, sent_by}
use Rattle.node_histories.specs.Histories.{Asked, Fired, Happening, History, HasSent, Heard, NothingForged, NothingForged_since, Restarts, Takes, WasSent, effect_after, packet, packets_of, packets_since}
use Rattle.node_histories.specs.HistoryLaws.{EachWasSent, HasSender, WhatIsHeardWasSent, WhatWasSentIsNotForged}
use Rattle.node_histories.proofs.Adding.{nothing_forged_rest, packets_since-append}
use Rattle.node_histories.proofs.Lists.{contains_cases, contains_here, contains_later, contains_none}

of_its_source : {M : Type 0} (from to n : ℕ) (c : M) (sends : List (ℕ × M)) → Contains (sent_by n sends) (packet from to c) → (from ≡ n) × Contains sends (to, c)
of_its_source from to n c [] h = absurd (contains_none (packet from to c) h)
of_its_source from to n c (p ∷ ps) h = elim (contains_cases (packet n p.0 p.1) (sent_by n ps) (packet from to c) h) [
  | inl e ↦ (ap (λ q. q.source) (sym e), subst (Contains (p ∷ ps)) (λ i. ((e i).destination, (e i).content)) (contains_here p ps))
  | inr later ↦ (let rest = of_its_source from to n c ps later in (rest.0, contains_later p ps (to, c) rest.1))
]

pub is_sent : {M : Type 0} (n to : ℕ) (c : M) (sends : List (ℕ × M)) → Contains sends (to, c) → Contains (sent_by n sends) (packet n to c)
is_sent n to c [] h = absurd (contains_none (to, c) h)
is_sent n to c (p ∷ ps) h = elim (contains_cases p ps (to, c) h) [
  | inl e ↦ subst (Contains (sent_by n (p ∷ ps))) (λ i. packet n (e i).0 (e i).1) (contains_here (packet n p.0 p.1) (sent_by n ps))
  | inr later ↦ contains_later (packet n p.0 p.1) (sent_by n ps) (packet n to c) (is_sent n to c ps later)
]

module _ {S K I O M : Type 0} (m : Meaning S I O M) (r : Recovery S K) where
  sender_here : (done rest : History I M) (h : ℕ × Happening I M) (from to : ℕ) (c : M) → (from ≡ h.0) × Contains (effect_after m r done h).sends (to, c)
      → HasSender m r (done ++ h ∷ rest) from to c
  sender_here done rest h from to c (e, sent) = record {
    early = done;
    sender = h.1;
    late = rest;
    stands = ap (λ n. done ++ (n, h.1) ∷ rest) (sym e);
    sent = subst (λ n. Contains (effect_after m r done (n, h.1)).sends (to, c)) (sym e) sent;
  }

  sender_of : (done rest : History I M) (from to : ℕ) (c : M) → Contains (packets_since m r done rest) (packet from to c) → HasSender m r (done ++ rest) from to c
  sender_of done [] from to c h = absurd (contains_none (packet from to c) h)
  sender_of done (x ∷ rest) from to c h = go (Contains-append_cases (sent_by x.0 (effect_after m r done x).sends) (packets_since m r (done ++ x ∷ []) rest) (packet from to c) h) (sender_of (done ++ x ∷ []) rest from to c)
    where
      go : Contains (sent_by x.0 (effect_after m r done x).sends) (packet from to c) ⊎ Contains (packets_since m r (done ++ x ∷ []) rest) (packet from to c)
          → (Contains (packets_since m r (done ++ x ∷ []) rest) (packet from to c) → HasSender m r ((done ++ x ∷ []) ++ rest) from to c) → HasSender m r (done ++ x ∷ rest) from to c
      go (inl a) later = sender_here done rest x from to c (of_its_source from to x.0 c (effect_after m r done x).sends a)
      go (inr b) later = subst (λ zs. HasSender m r zs from to c) (append_assoc done (x ∷ []) rest) (later b)

  heard_was_sent : (hs : History I M) → NothingForged m r hs → EachWasSent m r hs
  heard_was_sent hs h before after from to c e =
      let at = subst (NothingForged m r) e h in
      sender_of [] before from to c (nothing_forged_rest m r [] before ((to, Takes (Heard from c)) ∷ after) at).0

  -- what is sent is among the packets
  was_sent : (before : History I M) (from to : ℕ) (c : M) → HasSender m r before from to c → HasSent m r before from to c
  was_sent before from to c s =
      let here : List (Packet M) = sent_by from (effect_after m r s.early (from, s.sender)).sends in
      let rest : List (Packet M) = packets_since m r (s.early ++ (from, s.sender) ∷ []) s.late in
      subst (λ zs. HasSent m r zs from to c) (sym s.stands)
      (subst (λ ps. Contains ps (packet from to c)) (sym (packets_since-append m r [] s.early ((from, s.sender) ∷ s.late)))
      (Contains-append_right (packets_of m r s.early) (here ++ rest) (packet from to c)
      (Contains-append_left here rest (packet from to c) (is_sent from to c (effect_after m r s.early (from, s.sender)).sends s.sent))))

  one_not_forged : (before rest : History I M) (n : ℕ) (h : Happening I M) → EachWasSent m r (before ++ (n, h) ∷ rest) → WasSent m r before n h
  one_not_forged before rest n (Takes (Asked i)) each = tt
  one_not_forged before rest n (Takes (Heard from c)) each = was_sent before from n c (each before rest from n c refl)
  one_not_forged before rest n (Takes Fired) each = tt
  one_not_forged before rest n Restarts each = tt

  not_forged : (before late : History I M) → EachWasSent m r (before ++ late) → NothingForged_since m r before late
  not_forged before [] each = tt
  not_forged before (h ∷ hs) each = (one_not_forged before hs h.0 h.1 each, not_forged (before ++ h ∷ []) hs (subst (EachWasSent m r) (sym (append_assoc before (h ∷ []) hs)) each))

pub what_is_heard_was_sent : (S K I O M : Type 0) → WhatIsHeardWasSent S K I O M
what_is_heard_was_sent S K I O M m r hs h = heard_was_sent m r hs h

pub what_was_sent_is_not_forged : (S K I O M : Type 0) → WhatWasSentIsNotForged S K I O M
what_was_sent_is_not_forged S K I O M m r hs each = not_forged m r [] hs each
