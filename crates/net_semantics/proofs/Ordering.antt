-- Packets that keep their order from one node to another, as they are sent and delivered, and which delivery is refused.
use Rattle.std.proofs.Common.{◌≡◌, ℕ, zero, suc, ◌<◌, ◌≤◌, Bool, true, false, not, List, [], ◌∷◌, ◌++◌, length, map, take, Option, Some, None, refl, ap, sym, ◌∙◌, subst, arith, eqb, inl, inr}
use Rattle.std.specs.Prelude.{◌==◌, ◌&&◌, ◌||◌, nat_lt, slice_get, MatchBool}
use Rattle.std.proofs.lemmas.Bool.{ne_eqb, eq-eqb, cases_eq, cases_lt, lt-ltb}
use Rattle.handler_trait.specs.Handling.{Meaning}
use Rattle.vst_base.specs.Nets.{has_kind, keeps_order}
use Rattle.vst_base.specs.declared.net.Net.{Net}
use Rattle.vst_base.specs.declared.step.Step.TheVariants as step
use Rattle.vst_base.specs.declared.step.StepKind.TheVariants as kind
use Rattle.vst_base.specs.declared.step.StepRefusal.TheVariants as refusal
use Rattle.net_semantics.specs.Worlds.{World, Packet, change_at, copies, copies_of, ends, ends_of}
use Rattle.net_semantics.specs.Steps.{comes_first, destination_of, fails, flies_among, is_first, refusal_of}
use Rattle.net_semantics.specs.Shown.{Shown, Shows, WorldView}
use Rattle.net_semantics.specs.Held.{held_copies, held_ends, held_less, held_sent}
use Rattle.net_semantics.specs.Order.{IsAhead, IsFirst, IsInOrder, all_ends}
use Rattle.lanes.specs.Lanes.{previous_of}
use Rattle.lanes.specs.LanesLaws.{previous_none, previous_some}
use Rattle.net_semantics.proofs.Places.{change_at-elsewhere}
use Rattle.net_semantics.proofs.Showing.{copies_shown, ends_shown}
use Rattle.lists.specs.Places.{slice_get-front, slice_get_there}

module _ {M : Type 0} where
  -- a change that keeps the ends of each packet
  ends-change_at : (f : Shown M → Shown M) → ((p : Shown M) → held_ends (Some (f p)) ≡ held_ends (Some p)) → (ps : List (Shown M)) (k j : ℕ) → held_ends (slice_get (change_at f k ps) j) ≡ held_ends (slice_get ps j)
  ends-change_at f same [] k j = refl
  ends-change_at f same (p ∷ ps) zero zero = same p
  ends-change_at f same (p ∷ ps) zero (suc j) = refl
  ends-change_at f same (p ∷ ps) (suc k) zero = refl
  ends-change_at f same (p ∷ ps) (suc k) (suc j) = ends-change_at f same ps k j

  pub all_ends-change_at : (f : Shown M → Shown M) → ((p : Shown M) → (f p).source ≡ p.source) → ((p : Shown M) → (f p).destination ≡ p.destination) → (k : ℕ) (ps : List (Shown M)) → all_ends (change_at f k ps) ≡ all_ends ps
  all_ends-change_at f s d k [] = refl
  all_ends-change_at f s d zero (p ∷ ps) = let a = s p in let b = d p in cc
  all_ends-change_at f s d (suc k) (p ∷ ps) = ap (λ es. (p.source, p.destination) ∷ es) (all_ends-change_at f s d k ps)

  pub all_ends-append : (ps qs : List (Shown M)) → all_ends (ps ++ qs) ≡ all_ends ps ++ all_ends qs
  all_ends-append [] qs = refl
  all_ends-append (p ∷ ps) qs = ap (λ es. (p.source, p.destination) ∷ es) (all_ends-append ps qs)

  -- one more packet was sent
  pub all_ends-sent : (ps after : List (Shown M)) (n d : ℕ) (content : M) → after ≡ ps ++ held_sent n (d, content) ∷ [] → all_ends after ≡ all_ends ps ++ (n, d) ∷ []
  all_ends-sent ps after n d content e = ap all_ends e ∙ all_ends-append ps (held_sent n (d, content) ∷ [])

  get-all_ends : (ps : List (Shown M)) (k : ℕ) → slice_get (all_ends ps) k ≡ held_ends (slice_get ps k)
  get-all_ends [] k = refl
  get-all_ends (p ∷ ps) zero = refl
  get-all_ends (p ∷ ps) (suc k) = get-all_ends ps k

  -- the packet before on the lane tells whether a packet is the first in flight, where packets are in order
  module _ (ps : List (Shown M)) (k : ℕ) (order : IsInOrder ps) (sent : k < length ps) where
    pub first-none : previous_of (all_ends ps) k ≡ None → IsFirst ps k
    first-none none i ahead =
        let there = slice_get_there ps k sent in
        let e : ℕ × ℕ = (there.0.source, there.0.destination) in
        let at : slice_get (all_ends ps) k ≡ Some e = get-all_ends ps k ∙ ap held_ends there.1 in
        previous_none (all_ends ps) k e at none i ahead.before (get-all_ends ps i ∙ (ahead.same ∙ (sym (get-all_ends ps k) ∙ at)))

    module _ (j : ℕ) (is : previous_of (all_ends ps) k ≡ Some j) where
      same_ends : held_ends (slice_get ps j) ≡ held_ends (slice_get ps k)
      same_ends = sym (get-all_ends ps j) ∙ ((previous_some (all_ends ps) k j is).1 ∙ get-all_ends ps k)

      pub first-some : held_copies (slice_get ps j) ≡ 0 → IsFirst ps k
      first-some gone i ahead = elim (cases_lt i j) [
        | inl lt ↦ absurd (omega (arith, gone, order i j (record { before = lt; same = ahead.same ∙ sym same_ends; copy = ahead.copy })))
        | inr ge ↦ elim (cases_eq i j) [
          | inl e ↦ absurd (omega (arith, gone, ap (λ x. held_copies (slice_get ps x)) e, ahead.copy))
          | inr ne ↦ absurd ((previous_some (all_ends ps) k j is).2 i (omega (arith, ge, ne)) ahead.before (get-all_ends ps i ∙ (ahead.same ∙ sym (get-all_ends ps k))))
        ]
      ]

      pub ahead-some : 0 < held_copies (slice_get ps j) → IsAhead ps j k
      ahead-some copy = record { before = (previous_some (all_ends ps) k j is).0; same = same_ends; copy = copy }

  copies-less : (ps : List (Shown M)) (k j : ℕ) → held_copies (slice_get (change_at held_less k ps) j) ≤ held_copies (slice_get ps j)
  copies-less [] k j = omega arith
  copies-less (p ∷ ps) zero zero = omega arith
  copies-less (p ∷ ps) zero (suc j) = omega arith
  copies-less (p ∷ ps) (suc k) zero = omega arith
  copies-less (p ∷ ps) (suc k) (suc j) = copies-less ps k j

  -- the first of a lane is delivered
  pub order-less : (ps : List (Shown M)) (k : ℕ) → IsFirst ps k → IsInOrder ps → IsInOrder (change_at held_less k ps)
  order-less ps k first order j i ahead =
      let was : IsAhead ps j i = record {
        before = ahead.before;
        same = sym (ends-change_at held_less (λ p. refl) ps k j) ∙ (ahead.same ∙ ends-change_at held_less (λ p. refl) ps k i);
        copy = omega (arith, ahead.copy, copies-less ps k j);
      } in
      elim (cases_eq i k) [
        | inl e ↦ absurd (first j (subst (λ x. IsAhead ps j x) e was))
        | inr ne ↦ subst (λ o. 0 < held_copies o) (sym (change_at-elsewhere held_less ps k i ne)) (order j i was)
      ]

  pub some_ends : (o : Option (Shown M)) → 0 < held_copies o → (e : ℕ × ℕ) × (held_ends o ≡ Some e)
  some_ends None h = absurd (omega (arith, h))
  some_ends (Some p) h = ((p.source, p.destination), refl)

  -- what was just sent has a copy
  sent-copy : (ps : List (Shown M)) (n : ℕ) (sends : List (ℕ × M)) (k : ℕ) (e : ℕ × ℕ) → length ps ≤ k → held_ends (slice_get (ps ++ map (held_sent n) sends) k) ≡ Some e → 0 < held_copies (slice_get (ps ++ map (held_sent n) sends) k)
  sent-copy [] n [] k e le there = cc
  sent-copy [] n (p ∷ sends) zero e le there = omega arith
  sent-copy [] n (p ∷ sends) (suc k) e le there = sent-copy [] n sends k e (omega arith) there
  sent-copy (p ∷ ps) n sends zero e le there = absurd (omega (arith, le))
  sent-copy (p ∷ ps) n sends (suc k) e le there = sent-copy ps n sends k e (omega (arith, le)) there

  pub order-sent : (ps : List (Shown M)) (n : ℕ) (sends : List (ℕ × M)) → IsInOrder ps → IsInOrder (ps ++ map (held_sent n) sends)
  order-sent ps n sends order j k ahead =
      let qs = map (held_sent n) sends in
      elim (cases_lt k (length ps)) [
        | inl lt ↦
            let here : slice_get (ps ++ qs) k ≡ slice_get ps k = slice_get-front ps qs k lt in
            let there : slice_get (ps ++ qs) j ≡ slice_get ps j = slice_get-front ps qs j (omega (arith, ahead.before, lt)) in
            let was : IsAhead ps j k = record {
              before = ahead.before;
              same = ap held_ends (sym there) ∙ (ahead.same ∙ ap held_ends here);
              copy = subst (λ o. 0 < held_copies o) there ahead.copy;
            } in
            subst (λ o. 0 < held_copies o) (sym here) (order j k was)
        | inr ge ↦
            let e = some_ends (slice_get (ps ++ qs) j) ahead.copy in
            sent-copy ps n sends k e.0 (omega (arith, ge)) (sym ahead.same ∙ e.1)
      ]

-- a test of a number for 0
pub match_zero : {A B : Type 0} (n : ℕ) → (n ≡ 0 → A) → (0 < n → B) → MatchBool (n == 0) A B
match_zero {A = A} {B = B} n a b = elim (cases_eq n 0) [
  | inl none ↦ let t : eqb n 0 ≡ true = eq-eqb n 0 none in subst (λ x. MatchBool x A B) (sym t) (a none)
  | inr some ↦ let f : eqb n 0 ≡ false = ne_eqb n 0 some in subst (λ x. MatchBool x A B) (sym f) (b (omega (arith, some)))
]

-- whether one packet flies between these ends
one-none : (s d c : ℕ) (e : ℕ × ℕ) → ((s, d) ≡ e → c ≡ 0) → (s == e.0) && ((d == e.1) && nat_lt 0 c) ≡ false
one-none s d c e h = elim (cases_eq s e.0) [
  | inl es ↦ elim (cases_eq d e.1) [
    | inl ed ↦ let same : (s, d) ≡ e = ap (λ x. (x, d)) es ∙ ap (λ y. (e.0, y)) ed in let t : eqb s e.0 ≡ true = eq-eqb s e.0 es in let u : eqb d e.1 ≡ true = eq-eqb d e.1 ed in let z = h same in rw (t, u, z) refl
    | inr nd ↦ let t : eqb s e.0 ≡ true = eq-eqb s e.0 es in let u : eqb d e.1 ≡ false = ne_eqb d e.1 nd in rw (t, u) refl
  ]
  | inr ns ↦ let t : eqb s e.0 ≡ false = ne_eqb s e.0 ns in rw t refl
]

one-some : (s d c : ℕ) (e : ℕ × ℕ) → (s, d) ≡ e → 0 < c → (s == e.0) && ((d == e.1) && nat_lt 0 c) ≡ true
one-some s d c e same h =
    let t : eqb s e.0 ≡ true = eq-eqb s e.0 (ap (λ p. p.0) same) in
    let u : eqb d e.1 ≡ true = eq-eqb d e.1 (ap (λ p. p.1) same) in
    let l : nat_lt 0 c ≡ true = lt-ltb 0 c h in rw (t, u, l) refl

or-true : (b : Bool) → b || true ≡ true
or-true true = refl
or-true false = refl

module _ {M : Type 0} (e : ℕ × ℕ) where
  flies-none : (ps : List (Packet M)) (k : ℕ) → ((j : ℕ) → j < k → ends_of (slice_get ps j) ≡ Some e → copies_of (slice_get ps j) ≡ 0) → flies_among e (take k ps) ≡ false
  flies-none ps zero h = refl
  flies-none [] (suc k) h = refl
  flies-none (p ∷ ps) (suc k) h =
      let rest : flies_among e (take k ps) ≡ false = flies-none ps k (λ j lt same. h (suc j) (omega (arith, lt)) same) in
      let one = one-none p.source p.destination p.copies e (λ same. h 0 (omega arith) (ap (λ x. Some x) same)) in rw (one, rest) refl

  flies-some : (ps : List (Packet M)) (k j : ℕ) → j < k → ends_of (slice_get ps j) ≡ Some e → 0 < copies_of (slice_get ps j) → flies_among e (take k ps) ≡ true
  flies-some ps zero j lt same copy = absurd (omega (arith, lt))
  flies-some [] (suc k) j lt same copy = absurd (omega (arith, copy))
  flies-some (p ∷ ps) (suc k) zero lt same copy = let there : (p.source, p.destination) ≡ e = cc in let one = one-some p.source p.destination p.copies e there copy in rw one refl
  flies-some (p ∷ ps) (suc k) (suc j) lt same copy =
      let rest : flies_among e (take k ps) ≡ true = flies-some ps k j (omega (arith, lt)) same copy in rw rest (or-true _)

first-true : {M : Type 0} (o : Option (ℕ × ℕ)) (before : List (Packet M)) → ((e : ℕ × ℕ) → o ≡ Some e → flies_among e before ≡ false) → comes_first o before ≡ true
first-true None before h = refl
first-true (Some e) before h = rw (h e refl) refl

first-false : {M : Type 0} (o : Option (ℕ × ℕ)) (e : ℕ × ℕ) (before : List (Packet M)) → o ≡ Some e → flies_among e before ≡ true → comes_first o before ≡ false
first-false o e before there flies = rw (there, flies) refl

none_down : (o : Option ℕ) (is_up : ℕ → Bool) → ((n : ℕ) → is_up n ≡ true) → fails o is_up ≡ false
none_down None is_up h = refl
none_down (Some n) is_up h = rw (h n) refl

in_turn : (b x : Bool) → (b ≡ true → x ≡ true) → b && not x ≡ false
in_turn true x h = rw (h refl) refl
in_turn false x h = refl

module _ {H S K I O M : Type 0} (net : Net) (m : Meaning S I O M) (v : WorldView H S I O M) (w : World S K M) (shows : Shows m.nodes v w) (k : ℕ) where
  copies_same : (j : ℕ) → held_copies (slice_get v.packets j) ≡ copies_of (slice_get w.packets j)
  copies_same j = copies_shown (slice_get v.packets j) (slice_get w.packets j) (shows.packets j)

  ends_same : (j : ℕ) → held_ends (slice_get v.packets j) ≡ ends_of (slice_get w.packets j)
  ends_same j = ends_shown (slice_get v.packets j) (slice_get w.packets j) (shows.packets j)

  nothing_ahead : IsFirst v.packets k → (e : ℕ × ℕ) → ends w k ≡ Some e → (j : ℕ) → j < k → ends_of (slice_get w.packets j) ≡ Some e → copies_of (slice_get w.packets j) ≡ 0
  nothing_ahead first e here j lt there = elim (cases_eq (copies_of (slice_get w.packets j)) 0) [
    | inl none ↦ none
    | inr some ↦ absurd (first j (record {
      before = lt;
      same = ends_same j ∙ (there ∙ (sym here ∙ sym (ends_same k)));
      copy = subst (λ n. 0 < n) (sym (copies_same j)) (omega (arith, some));
    }))
  ]

  is_first-true : IsFirst v.packets k → is_first w k ≡ true
  is_first-true first = first-true (ends w k) (take k w.packets) (λ e here. flies-none e w.packets k (nothing_ahead first e here))

  is_first-false : (j : ℕ) → IsAhead v.packets j k → is_first w k ≡ false
  is_first-false j ahead =
      let e = some_ends (slice_get v.packets j) ahead.copy in
      first-false (ends w k) e.0 (take k w.packets) (sym (ends_same k) ∙ (sym ahead.same ∙ e.1))
      (flies-some e.0 w.packets k j ahead.before (sym (ends_same j) ∙ e.1) (subst (λ n. 0 < n) (copies_same j) ahead.copy))

  -- a delivery of a packet without a copy
  pub deliver_no_copy : has_kind net kind.Deliver ≡ true → held_copies (slice_get v.packets k) ≡ 0 → refusal_of net m w (step.Deliver k) ≡ Some refusal.NoCopy
  deliver_no_copy has none =
      let up : fails (destination_of (ends w k)) w.is_up ≡ false = none_down (destination_of (ends w k)) w.is_up shows.up in
      let gone : nat_lt 0 (copies w k) ≡ false = ap (nat_lt 0) (sym (copies_same k) ∙ none) in rw (has, up, gone) refl

  -- a delivery of a packet with a copy is refused where the network keeps the order and the packet is not the first, and only there
  module _ (has : has_kind net kind.Deliver ≡ true) (copy : 0 < held_copies (slice_get v.packets k)) where
    up : fails (destination_of (ends w k)) w.is_up ≡ false
    up = none_down (destination_of (ends w k)) w.is_up shows.up

    flies : nat_lt 0 (copies w k) ≡ true
    flies = lt-ltb 0 (copies w k) (subst (λ n. 0 < n) (copies_same k) copy)

    pub deliver_not_refused : (keeps_order net ≡ true → IsFirst v.packets k) → refusal_of net m w (step.Deliver k) ≡ None
    deliver_not_refused first = let turn = in_turn (keeps_order net) (is_first w k) (λ keeps. is_first-true (first keeps)) in rw (has, up, flies, turn) refl

    pub deliver_out_of_turn : (j : ℕ) → IsAhead v.packets j k → keeps_order net ≡ true → refusal_of net m w (step.Deliver k) ≡ Some refusal.NotFirst
    deliver_out_of_turn j ahead keeps = let late = is_first-false j ahead in rw (has, up, flies, keeps, late) refl
