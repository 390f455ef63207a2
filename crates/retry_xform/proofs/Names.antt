-- The names of the packets of the run within, as more packets are sent.
use Rattle.std.specs.Prelude.{◌≡◌, ◌≢◌, ℕ, zero, suc, ◌+◌, ◌<◌, ◌≤◌, Bool, true, false, cond, List, [], ◌∷◌, ◌++◌, length, Option, Some, None, is_some, option_map, refl}
use Rattle.std.proofs.Common.{ap, arith, sym, ◌∙◌, append-nil, append_assoc}
use Rattle.std.proofs.lemmas.Bool.{eq-eqb, ne_eqb, false≢true}
use Rattle.std.proofs.lemmas.Bool.Decides.{nat_tests}
use Rattle.std.proofs.lemmas.Option.{none-some}
use Rattle.net_semantics.specs.Worlds.{Packet, change_at, sent_by}
use Rattle.vst_base.specs.declared.retry.RetryMsg.{RetryMsg}
use Rattle.retry_xform.specs.Keeping.{numbered_from}
use Rattle.retry_xform.specs.Retransmission.{all_as_data}
use Rattle.retry_xform.specs.Image.{is_same, place_of, with_name, with_content, names_after}

same-self : (a : ℕ × ℕ) → is_same a a ≡ true
same-self a = rw (eq-eqb a.0 a.0 refl, eq-eqb a.1 a.1 refl) refl

other-number : (n x y : ℕ) → x ≢ y → is_same (n, x) (n, y) ≡ false
other-number n x y ne = rw (eq-eqb n n refl, ne_eqb x y ne) refl

same-name : (a b : ℕ × ℕ) → is_same a b ≡ true → (a.0 ≡ b.0) × (a.1 ≡ b.1)
same-name a b h = (grind (arith, nat_tests), grind (arith, nat_tests))

-- the choice that a place is
chosen : (b : Bool) (o o2 : Option ℕ) (j : ℕ) → ((i : ℕ) → o ≡ Some i → o2 ≡ Some i) → cond b (Some 0) (option_map suc o) ≡ Some j → cond b (Some 0) (option_map suc o2) ≡ Some j
chosen true o o2 j h at = at
chosen false None o2 j h at = absurd (none-some j at)
chosen false (Some i) o2 j h at = ap (option_map suc) (h i refl) ∙ at

chosen-last : (b : Bool) (o o2 : Option ℕ) (l : ℕ) → (o ≡ None → o2 ≡ Some l) → cond b (Some 0) (option_map suc o) ≡ None → cond b (Some 0) (option_map suc o2) ≡ Some (suc l)
chosen-last true o o2 l h at = absurd (none-some 0 (sym at))
chosen-last false None o2 l h at = ap (option_map suc) (h refl)
chosen-last false (Some i) o2 l h at = absurd (none-some (suc i) (sym at))

chosen-none : (b : Bool) (o o2 : Option ℕ) → (o ≡ None → o2 ≡ None) → cond b (Some 0) (option_map suc o) ≡ None → cond b (Some 0) (option_map suc o2) ≡ None
chosen-none true o o2 h at = at
chosen-none false None o2 h at = ap (option_map suc) (h refl)
chosen-none false (Some i) o2 h at = absurd (none-some (suc i) (sym at))

pub place-kept : (a : ℕ × ℕ) (ns bs : List (ℕ × ℕ)) (j : ℕ) → place_of a ns ≡ Some j → place_of a (ns ++ bs) ≡ Some j
place-kept a [] bs j at = absurd (none-some j at)
place-kept a (b ∷ ns) bs j at = chosen (is_same a b) (place_of a ns) (place_of a (ns ++ bs)) j (place-kept a ns bs) at

pub place-there : (a : ℕ × ℕ) (ns bs : List (ℕ × ℕ)) → place_of a ns ≡ None → place_of a (ns ++ a ∷ bs) ≡ Some (length ns)
place-there a [] bs none = rw (same-self a) refl
place-there a (b ∷ ns) bs none = chosen-last (is_same a b) (place_of a ns) (place_of a (ns ++ a ∷ bs)) (length ns) (place-there a ns bs) none

place-not : (a : ℕ × ℕ) (ns : List (ℕ × ℕ)) (b : ℕ × ℕ) → is_same a b ≡ false → place_of a ns ≡ None → place_of a (ns ++ b ∷ []) ≡ None
place-not a [] b other none = rw other refl
place-not a (c ∷ ns) b other none = chosen-none (is_same a c) (place_of a ns) (place_of a (ns ++ b ∷ [])) (place-not a ns b other) none

-- no number of the node from this one on is among the names
abbrev pub IsUnused : List (ℕ × ℕ) → ℕ → ℕ → Type 0
IsUnused ns n x = (y : ℕ) → x ≤ y → place_of (n, y) ns ≡ None

pub unused-next : (ns : List (ℕ × ℕ)) (n x : ℕ) → IsUnused ns n x → IsUnused (ns ++ (n, x) ∷ []) n (x + 1)
unused-next ns n x unused y le = place-not (n, y) ns (n, x) (other-number n y x (λ same. omega (arith, le, same))) (unused y (omega (arith, le)))

with-new : (b : Bool) (a : ℕ × ℕ) (ns : List (ℕ × ℕ)) → b ≡ false → cond b ns (ns ++ a ∷ []) ≡ ns ++ a ∷ []
with-new true a ns e = absurd (false≢true (sym e))
with-new false a ns e = refl

pub with-known : (a : ℕ × ℕ) (ns : List (ℕ × ℕ)) (j : ℕ) → place_of a ns ≡ Some j → with_name a ns ≡ ns
with-known a ns j at = rw at refl

module _ {M : Type 0} where
  -- the names of packets that a node sends with these numbers
  abbrev pub fresh : ℕ → ℕ → List (ℕ × M) → List (ℕ × ℕ)
  fresh n x [] = []
  fresh n x (s ∷ ss) = (n, x) ∷ fresh n (x + 1) ss

  pub length-fresh : (n x : ℕ) (ss : List (ℕ × M)) → length (fresh n x ss) ≡ length ss
  length-fresh n x [] = refl
  length-fresh n x (s ∷ ss) = ap suc (length-fresh n (x + 1) ss)

  pub names-append : (ns : List (ℕ × ℕ)) (ps qs : List (Packet (RetryMsg M))) → names_after ns (ps ++ qs) ≡ names_after (names_after ns ps) qs
  names-append ns [] qs = refl
  names-append ns (p ∷ ps) qs = names-append (with_content p.source p.content ns) ps qs

  pub names-changed : (f : Packet (RetryMsg M) → Packet (RetryMsg M)) → ((p : Packet (RetryMsg M)) (ns : List (ℕ × ℕ)) → with_content (f p).source (f p).content ns ≡ with_content p.source p.content ns)
      → (k : ℕ) (ns : List (ℕ × ℕ)) (ps : List (Packet (RetryMsg M))) → names_after ns (change_at f k ps) ≡ names_after ns ps
  names-changed f same k ns [] = refl
  names-changed f same zero ns (p ∷ ps) = ap (λ bs. names_after bs ps) (same p ns)
  names-changed f same (suc k) ns (p ∷ ps) = names-changed f same k (with_content p.source p.content ns) ps

  pub names-fresh : (ns : List (ℕ × ℕ)) (n x : ℕ) (ss : List (ℕ × M)) → IsUnused ns n x → names_after ns (sent_by n (all_as_data (numbered_from x ss))) ≡ ns ++ fresh n x ss
  names-fresh ns n x [] unused = sym (append-nil ns)
  names-fresh ns n x (s ∷ ss) unused =
      let rest = sent_by n (all_as_data (numbered_from (x + 1) ss)) in
      let here : is_some (place_of (n, x) ns) ≡ false = ap is_some (unused x (omega arith)) in
      ap (λ bs. names_after bs rest) (with-new (is_some (place_of (n, x) ns)) (n, x) ns here)
      ∙ (names-fresh (ns ++ (n, x) ∷ []) n (x + 1) ss (unused-next ns n x unused) ∙ append_assoc ns ((n, x) ∷ []) (fresh n (x + 1) ss))

  -- a name that is new is one of those that were just sent
  pub fresh-known : (ns : List (ℕ × ℕ)) (n x : ℕ) (ss : List (ℕ × M)) (a y j : ℕ) → place_of (a, y) (ns ++ fresh n x ss) ≡ Some j → place_of (a, y) ns ≡ None → (a ≡ n) × (y < x + length ss)
  fresh-known ns n x [] a y j at none = absurd (none-some j (sym none ∙ (ap (place_of (a, y)) (sym (append-nil ns)) ∙ at)))
  fresh-known ns n x (s ∷ ss) a y j at none = elim (is_same (a, y) (n, x)) as (λ b. is_same (a, y) (n, x) ≡ b → (a ≡ n) × (y < x + length (s ∷ ss))) [
    | true ↦ λ t. let same = same-name (a, y) (n, x) t in (same.0, omega (arith, same.1))
    | false ↦ λ t.
        let more = fresh-known (ns ++ (n, x) ∷ []) n (x + 1) ss a y j (ap (place_of (a, y)) (append_assoc ns ((n, x) ∷ []) (fresh n (x + 1) ss)) ∙ at) (place-not (a, y) ns (n, x) t none) in
        (more.0, omega (arith, more.1))
  ] refl
