-- Channels, after one packet more.
use Rattle.std.specs.Prelude.{◌≡◌, ◌≢◌, ℕ, suc, ◌+◌, ◌-◌, ◌<◌, ◌⊎◌, Bool, true, false, cond, List, [], ◌∷◌, ◌++◌, length, map, take, count_by, Some, option_map, slice_get, if◌then◌else◌}
use Rattle.std.proofs.Common.{ap, arith, eqb, inl, inr, refl, sym, ◌∙◌}
use Rattle.std.proofs.lemmas.Bool.{cases_eq, eq-eqb, ne_eqb}
use Rattle.std.proofs.lemmas.Bool.Decides.{nat_tests}
use Rattle.std.proofs.lemmas.List.{length-append, length-map, map-append, take-append-le, take_at}
use Rattle.std.proofs.lemmas.List.Sums.{sum_by-cons}
use Rattle.std.proofs.lemmas.Option.{slice_get_past}
use Rattle.lanes.specs.Lanes.{is_same, lane}
use Rattle.lists.specs.Places.{slice_get-front, slice_get_last}
use Rattle.fifo_observer.specs.Channels.{Follows, channel, number_of}
use Rattle.observer_parts.specs.PacketLists.{list_at}

-- a channel has as many packets as go on it
pub length-channel : (e : ℕ × ℕ) (xs : List (ℕ × ℕ)) → length (channel e xs) ≡ count_by (is_same e) xs
length-channel e [] = refl
length-channel e (x ∷ xs) = by-case (is_same e x) (length-map (channel e xs) suc ∙ length-channel e xs) ∙ sym (sum_by-cons (λ y. cond (is_same e y) 1 0) x xs) where
  by-case : (b : Bool) → length (map suc (channel e xs)) ≡ count_by (is_same e) xs → length (if b then 0 ∷ map suc (channel e xs) else map suc (channel e xs)) ≡ cond b 1 0 + count_by (is_same e) xs
  by-case true later = omega (arith, later)
  by-case false later = omega (arith, later)

-- one packet more is on its channel alone
pub channel-push : (e : ℕ × ℕ) (xs : List (ℕ × ℕ)) (x : ℕ × ℕ) → channel e (xs ++ x ∷ []) ≡ (if is_same e x then channel e xs ++ length xs ∷ [] else channel e xs)
channel-push e [] x = refl
channel-push e (y ∷ xs) x = rw (channel-push e xs x) (by-case (is_same e x) (is_same e y)) where
  after : List ℕ → Bool → List ℕ
  after ks b = if b then 0 ∷ map suc ks else map suc ks

  by-case : (b c : Bool) → after (if b then channel e xs ++ length xs ∷ [] else channel e xs) c ≡ (if b then after (channel e xs) c ++ suc (length xs) ∷ [] else after (channel e xs) c)
  by-case true true = ap (λ ks. 0 ∷ ks) (map-append suc (channel e xs) (length xs ∷ []))
  by-case true false = map-append suc (channel e xs) (length xs ∷ [])
  by-case false c = refl

-- the number of each packet, after one more
numbers-push : (ns : List ℕ) (es : List (ℕ × ℕ)) (e : ℕ × ℕ) (n : ℕ) → length ns ≡ length es → n ≡ count_by (is_same e) es → ((k : ℕ) → slice_get ns k ≡ number_of es k)
    → (k : ℕ) → slice_get (ns ++ n ∷ []) k ≡ number_of (es ++ e ∷ []) k
numbers-push ns es e n count is each k = elim (cases_eq k (length es)) [
  | inl here ↦
      slice_get_last ns n k (here ∙ sym count)
      ∙ (ap Some (is ∙ ap (count_by (is_same e)) (sym (take_at es (e ∷ []) k (sym here))))
      ∙ ap (λ o. option_map (λ (x : ℕ × ℕ). count_by (is_same x) (take k (es ++ e ∷ []))) o) (sym (slice_get_last es e k here)))
  | inr ne ↦ elim (cases_eq (suc k - length es) 0) [
    | inl below ↦
        let earlier : k < length es = omega (arith, below) in
        slice_get-front ns (n ∷ []) k (omega (arith, earlier, count))
        ∙ (each k
        ∙ (ap (λ o. option_map (λ (x : ℕ × ℕ). count_by (is_same x) (take k es)) o) (sym (slice_get-front es (e ∷ []) k earlier))
        ∙ ap (λ xs. option_map (λ (x : ℕ × ℕ). count_by (is_same x) xs) (slice_get (es ++ e ∷ []) k)) (sym (take-append-le k es (e ∷ []) (omega (arith, earlier))))))
    | inr above ↦
        slice_get_past (ns ++ n ∷ []) k (omega (arith, ne, above, count, length-append ns (n ∷ [])))
        ∙ ap (λ o. option_map (λ (x : ℕ × ℕ). count_by (is_same x) (take k (es ++ e ∷ []))) o)
        (sym (slice_get_past (es ++ e ∷ []) k (omega (arith, ne, above, length-append es (e ∷ [])))))
  ]
]

-- lanes of the same number are of the same ends
same-lane : (s d t u : ℕ) → d < 256 → u < 256 → is_same (t, u) (s, d) ≡ eqb (lane t u) (lane s d)
same-lane s d t u fits fits2 = grind (arith, nat_tests)

-- what is kept, after one packet more
pub follows-more : (lists longer : List (List ℕ)) (ns : List ℕ) (es : List (ℕ × ℕ)) (s d place n k : ℕ) → s < 256 → d < 256 → place ≡ lane s d
    → list_at longer place ≡ list_at lists place ++ k ∷ [] → ((j : ℕ) → j ≢ place → list_at longer j ≡ list_at lists j)
    → n ≡ length (list_at lists place) → k ≡ length ns → Follows (record { lists = lists; numbers = ns }) es
    → Follows (record { lists = longer; numbers = ns ++ n ∷ [] }) (es ++ (s, d) ∷ [])
follows-more lists longer ns es s d place n k source destination is more others number next f =
    let here : list_at lists place ≡ channel (s, d) es = ap (list_at lists) is ∙ f.lists s d source destination in
    record {
      count = omega (arith, f.count, length-append ns (n ∷ []), length-append es ((s, d) ∷ []));
      numbers = numbers-push ns es (s, d) n f.count (number ∙ (ap length here ∙ length-channel (s, d) es)) f.numbers;
      lists = λ t u fits fits2. rw (channel-push (t, u) es (s, d), same-lane s d t u destination fits2) (by-lane t u fits fits2 (cases_eq (lane t u) (lane s d)));
    }
  where
    by-lane : (t u : ℕ) → t < 256 → u < 256 → (lane t u ≡ lane s d) ⊎ (lane t u ≢ lane s d) → list_at longer (lane t u) ≡ (if eqb (lane t u) (lane s d) then channel (t, u) es ++ length es ∷ [] else channel (t, u) es)
    by-lane t u fits fits2 (inl same_lane) =
        let at : lane t u ≡ place = same_lane ∙ sym is in
        rw (eq-eqb (lane t u) (lane s d) same_lane) (ap (list_at longer) at ∙ (more ∙ (ap (λ xs. xs ++ k ∷ []) (ap (list_at lists) (sym at) ∙ f.lists t u fits fits2) ∙ ap (λ n. channel (t, u) es ++ n ∷ []) (next ∙ f.count))))
    by-lane t u fits fits2 (inr other) =
        rw (ne_eqb (lane t u) (lane s d) other) (others (lane t u) (λ at. other (at ∙ is)) ∙ f.lists t u fits fits2)
