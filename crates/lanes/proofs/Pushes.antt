-- What is kept, after one packet more.
use Rattle.std.proofs.Common.{◌≡◌, ℕ, ◌+◌, ◌<◌, inl, inr, cond, eqb, List, [], ◌∷◌, ◌++◌, length, Some, None, Option, refl, ap, sym, ◌∙◌, arith, length-append}
use Rattle.std.specs.Cmp.{nat_cmp_total, unsigned_tied}
use Rattle.std.specs.FinMap.{find, from_entries, get, get-from_entries}
use Rattle.std.specs.List.{slice_get}
use Rattle.std.specs.Map.{lookup}
use Rattle.std.specs.Ordering.{nat_cmp}
use Rattle.std.proofs.lemmas.Bool.Decides.{nat_tests, eqb_tells}
use Rattle.std.proofs.lemmas.List.{take_at}
use Rattle.lanes.specs.Lanes.{Follows, LanesView, is_same, lane, last_at, previous_of}
use Rattle.lanes.specs.LanesLaws.{last_at-push, previous_of-append}
use Rattle.lists.specs.Places.{slice_get-front, slice_get_seam}

find-lookup : (es : List (ℕ × ℕ)) (q : ℕ) → find nat_cmp q es ≡ lookup (eqb q) es
find-lookup [] q = refl
find-lookup (e ∷ es) q = λ i. cond (unsigned_tied q e.0 i) (Some e.1) (find-lookup es q i)

-- what a map of entries has at a number
pub get-entries : (es : List (ℕ × ℕ)) (q : ℕ) → get (from_entries {R = nat_cmp} es) q ≡ lookup (eqb q) es
get-entries es q = get-from_entries nat_cmp_total es q ∙ find-lookup es q

-- lanes of the same number are of the same ends
same-lane : (s d t u : ℕ) → d < 256 → u < 256 → eqb (lane s d) (lane t u) ≡ is_same (t, u) (s, d)
same-lane s d t u fits fits2 = grind (arith, nat_tests)

-- the last packet of its lane is the one before the packet that comes next
previous_of-next : (es : List (ℕ × ℕ)) (e : ℕ × ℕ) → previous_of (es ++ e ∷ []) (length es) ≡ last_at e es
previous_of-next es e = rw (slice_get_seam es e [], take_at es (e ∷ []) (length es) refl) refl

-- what is kept of each packet, after one more
each-more : (l : LanesView) (es : List (ℕ × ℕ)) (s d : ℕ) → s < 256 → d < 256 → Follows l es → (k : ℕ) → k < length es + 1
    → slice_get (l.previous ++ get l.lasts (lane s d) ∷ []) k ≡ Some (previous_of (es ++ (s, d) ∷ []) k)
each-more l es s d source destination f k lt = elim (eqb_tells k (length es)) [
  | inl w ↦ rw (w.1, previous_of-next es (s, d), ← f.count) (slice_get_seam l.previous (get l.lasts (lane s d)) [] ∙ ap Some (f.lasts s d source destination))
  | inr w ↦
      let earlier : k < length es = omega (arith, lt, w.1) in
      let kept : k < length l.previous = omega (arith, earlier, f.count) in
      rw (slice_get-front l.previous (get l.lasts (lane s d) ∷ []) k kept, previous_of-append es ((s, d) ∷ []) k earlier) (f.each k earlier)
]

pub follows-more : (l m : LanesView) (es : List (ℕ × ℕ)) (s d : ℕ) → s < 256 → d < 256 → m.previous ≡ l.previous ++ get l.lasts (lane s d) ∷ []
    → ((q : ℕ) → get m.lasts q ≡ cond (eqb (lane s d) q) (Some (length l.previous)) (get l.lasts q)) → Follows l es → Follows m (es ++ (s, d) ∷ [])
follows-more l m es s d source destination more written f = record {
  count = rw (more, length-append l.previous (get l.lasts (lane s d) ∷ []), length-append es ((s, d) ∷ []), f.count) refl;
  each = λ k lt. rw more (each-more l es s d source destination f k (omega (arith, lt, length-append es ((s, d) ∷ []))));
  lasts = λ t u fits fits2. rw (written (lane t u), last_at-push (t, u) es (s, d), same-lane s d t u destination fits2, f.lasts t u fits fits2, f.count) refl;
}

-- nothing is kept of no packets
pub follows-nothing : (l : LanesView) → l.previous ≡ [] → ((q : ℕ) → get l.lasts q ≡ None) → Follows l []
follows-nothing l empty none = record {
  count = rw empty refl;
  each = λ k lt. absurd (omega (arith, lt));
  lasts = λ s d _ _. none (lane s d);
}

-- the same of the entries of the map
pub entries-more : (old new : List (ℕ × ℕ)) (ps qs : List (Option ℕ)) (n k : ℕ) (before : Option ℕ) (es : List (ℕ × ℕ)) (s d : ℕ) → s < 256 → d < 256 → n ≡ lane s d → k ≡ length ps
    → qs ≡ ps ++ before ∷ [] → before ≡ lookup (eqb n) old → ((q : ℕ) → lookup (eqb q) new ≡ cond (eqb n q) (Some k) (lookup (eqb q) old))
    → Follows (record { lasts = from_entries old; previous = ps }) es → Follows (record { lasts = from_entries new; previous = qs }) (es ++ (s, d) ∷ [])
entries-more old new ps qs n k before es s d source destination lane_is place more before_is written f =
    follows-more (record { lasts = from_entries old; previous = ps }) (record { lasts = from_entries new; previous = qs }) es s d source destination
    (more ∙ ap (λ o. ps ++ o ∷ []) (before_is ∙ sym (get-entries old n) ∙ ap (get (from_entries {R = nat_cmp} old)) lane_is))
    (λ q. get-entries new q ∙ written q ∙ ap (cond (eqb n q) (Some k)) (sym (get-entries old q)) ∙ rw (lane_is, place) refl)
    f
