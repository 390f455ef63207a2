-- Which packets are first, after one more was sent and after one left.
use Rattle.std.proofs.Common.{◌≡◌, ◌≢◌, ℕ, zero, suc, ◌+◌, ◌-◌, ◌<◌, ◌^◌, Bool, true, false, cond, ◌&&◌, eqb, List, [], ◌∷◌, ◌++◌, length, get_or, set, take, Option, Some, None, is_some, refl, ap, sym, subst, ◌∙◌, arith, inl, inr, length-append, append-nil}
use Rattle.std.specs.Prelude.{◌||◌, ◌==◌, drop, IfSome, if◌then◌else◌, slice_get}
use Rattle.std.specs.Option.{option_eq}
use Rattle.std.specs.List.{filter, list_any, range_with_len}
use Rattle.std.proofs.lemmas.Bool.{cases_eq, cases_lt, eq-eqb, eqb-true, ne_eqb, and_parts, false≢true}
use Rattle.std.proofs.lemmas.Option.{none-some, same_Some}
use Rattle.std.proofs.lemmas.Grind.{get_or-set_at}
use Rattle.std.proofs.lemmas.List.Folds.{list_any_at}
use Rattle.std.proofs.lemmas.List.{get_or_append_left, get_or_past, get_or_push, get_or-set_other, get_or-take, length-set, length-take, take-append-le, take_at}
use Rattle.vst_base.specs.declared.node.TheConstants.{MAX_NODES}
use Rattle.flight_index.specs.Flights.{Flights, numbers_of}
use Rattle.flight_index.specs.Turns.{IsQueued, between, firsts, goes_between, is_first, queue_of, turn_after, turn_of}
use Rattle.flight_index.proofs.Ranks.{numbers_of-append}

-- numbers of a list are those that pass
numbers-range : (q : ℕ → Bool) (from : ℕ) (os : List (Option ℕ)) → ((j : ℕ) → is_some (get_or os j None) ≡ q (from + j))
    → numbers_of is_some from os ≡ filter q (range_with_len from (length os))
numbers-range q from [] same = refl
numbers-range q from (o ∷ os) same =
    let later = numbers-range q (from + 1) os (λ j. let e : from + suc j ≡ from + 1 + j = omega arith in same (suc j) ∙ ap q e) in
    let here : from + 0 ≡ from = omega arith in
    ap (λ ns. cond (is_some o) (from ∷ ns) ns) later
    ∙ ap (λ b. cond b (from ∷ filter q (range_with_len (from + 1) (length os))) (filter q (range_with_len (from + 1) (length os)))) (same 0 ∙ ap q here)

-- the index has the packets that are first
pub firsts_are : {ps : List (Option (ℕ × ℕ))} {queues : List (List ℕ)} {index : Flights} → IsQueued ps queues index → numbers_of is_some 0 index.packets ≡ firsts ps
firsts_are {ps} {queues} {index} h =
    numbers-range (is_first ps) 0 index.packets (λ j. let e : 0 + j ≡ j = omega arith in ap is_some (h.first j) ∙ ap (is_first ps) (sym e)) ∙ ap (λ n. filter (is_first ps) (range_with_len 0 n)) h.number

or-parts : (a b : Bool) → (a || b) ≡ false → (a ≡ false) × (b ≡ false)
or-parts true b h = cc
or-parts false b h = (refl, h)

-- where none before it passes, one that passes comes first
module _ {X : Type 0} (p : Option X → Bool) (none : p None ≡ false) where
  pub comes-first : (from : ℕ) (xs : List (Option X)) (k : ℕ) → p (get_or xs k None) ≡ true → list_any p (take k xs) ≡ false
      → slice_get (numbers_of p from xs) 0 ≡ Some (from + k)
  comes-first from [] k here before = cc
  comes-first from (x ∷ xs) zero here before =
      let e : from + 0 ≡ from = omega arith in
      ap (λ b. slice_get (cond b (from ∷ numbers_of p (from + 1) xs) (numbers_of p (from + 1) xs)) 0) here ∙ ap (λ n. Some n) (sym e)
  comes-first from (x ∷ xs) (suc k) here before =
      let parts = or-parts (p x) (list_any p (take k xs)) before in
      let e : from + suc k ≡ from + 1 + k = omega arith in
      ap (λ b. slice_get (cond b (from ∷ numbers_of p (from + 1) xs) (numbers_of p (from + 1) xs)) 0) parts.0
      ∙ comes-first (from + 1) xs k here parts.1 ∙ ap (λ n. Some n) (sym e)

  -- and the one that comes first passes, with none before it that does
  pub record ComesFirst (from : ℕ) (xs : List (Option X)) (j : ℕ) : Type 0 where
    pub place : ℕ
    pub is : j ≡ from + place
    pub inside : place < length xs
    pub passes : p (get_or xs place None) ≡ true
    pub before : list_any p (take place xs) ≡ false

  pub first-comes : (from : ℕ) (xs : List (Option X)) (j : ℕ) → slice_get (numbers_of p from xs) 0 ≡ Some j → ComesFirst from xs j
  first-comes from [] j e = absurd (none-some j e)
  first-comes from (x ∷ xs) j e = either (p x) refl e (first-comes (from + 1) xs j) where
    either : (b : Bool) → p x ≡ b → slice_get (cond b (from ∷ numbers_of p (from + 1) xs) (numbers_of p (from + 1) xs)) 0 ≡ Some j
        → (slice_get (numbers_of p (from + 1) xs) 0 ≡ Some j → ComesFirst (from + 1) xs j) → ComesFirst from (x ∷ xs) j
    either true is e later = let s = same_Some from j e in record { place = 0; is = omega (arith, s); inside = omega arith; passes = is; before = refl }
    either false is e later =
        let l = later e in
        record { place = suc l.place; is = omega (arith, l.is); inside = omega (arith, l.inside); passes = l.passes; before = ap (λ b. b || list_any p (take l.place xs)) is ∙ l.before }

  -- none passes
  pub none-passes : (from : ℕ) (xs : List (Option X)) → list_any p xs ≡ false → numbers_of p from xs ≡ []
  none-passes from [] h = refl
  none-passes from (x ∷ xs) h =
      let parts = or-parts (p x) (list_any p xs) h in
      ap (λ b. cond b (from ∷ numbers_of p (from + 1) xs) (numbers_of p (from + 1) xs)) parts.0 ∙ none-passes (from + 1) xs parts.1

  -- after the first that passes left, the others are left
  pub first-gone : (from : ℕ) (xs : List (Option X)) (k : ℕ) → p (get_or xs k None) ≡ true → list_any p (take k xs) ≡ false
      → numbers_of p from (set xs k None) ≡ drop 1 (numbers_of p from xs)
  first-gone from [] k here before = refl
  first-gone from (x ∷ xs) zero here before =
      ap (λ b. cond b (from ∷ numbers_of p (from + 1) xs) (numbers_of p (from + 1) xs)) none
      ∙ sym (ap (λ b. drop 1 (cond b (from ∷ numbers_of p (from + 1) xs) (numbers_of p (from + 1) xs))) here)
  first-gone from (x ∷ xs) (suc k) here before =
      let parts = or-parts (p x) (list_any p (take k xs)) before in
      let rest = numbers_of p (from + 1) (set xs k None) in
      ap (λ b. cond b (from ∷ rest) rest) parts.0 ∙ first-gone (from + 1) xs k here parts.1
      ∙ sym (ap (λ b. drop 1 (cond b (from ∷ numbers_of p (from + 1) xs) (numbers_of p (from + 1) xs))) parts.0)

  -- one that does not pass changes nothing when it leaves
  pub other-gone : (from : ℕ) (xs : List (Option X)) (k : ℕ) → p (get_or xs k None) ≡ false → numbers_of p from (set xs k None) ≡ numbers_of p from xs
  other-gone from [] k here = refl
  other-gone from (x ∷ xs) zero here =
      let rest = numbers_of p (from + 1) xs in
      ap (λ b. cond b (from ∷ rest) rest) (none ∙ sym here)
  other-gone from (x ∷ xs) (suc k) here = ap (λ ns. cond (p x) (from ∷ ns) ns) (other-gone (from + 1) xs k here)

  pub any-other : (xs : List (Option X)) (k i : ℕ) → p (get_or xs k None) ≡ false → list_any p (take i (set xs k None)) ≡ list_any p (take i xs)
  any-other [] k i here = refl
  any-other (x ∷ xs) zero zero here = refl
  any-other (x ∷ xs) zero (suc i) here = ap (λ b. b || list_any p (take i xs)) (none ∙ sym here)
  any-other (x ∷ xs) (suc k) zero here = refl
  any-other (x ∷ xs) (suc k) (suc i) here = ap (λ b. p x || b) (any-other xs k i here)

  -- fewer packets have one that passes
  pub any-left : (xs : List (Option X)) (k i : ℕ) → list_any p (take i (set xs k None)) ≡ true → list_any p (take i xs) ≡ true
  any-left [] k i h = h
  any-left (x ∷ xs) zero zero h = h
  any-left (x ∷ xs) zero (suc i) h = later (p x) (list_any p (take i xs)) (sym (ap (λ b. b || list_any p (take i xs)) none) ∙ h) where
    later : (a b : Bool) → b ≡ true → (a || b) ≡ true
    later true b e = refl
    later false b e = e
  any-left (x ∷ xs) (suc k) zero h = h
  any-left (x ∷ xs) (suc k) (suc i) h = keep (p x) (list_any p (take i (set xs k None))) (list_any p (take i xs)) h (any-left xs k i) where
    keep : (a b c : Bool) → (a || b) ≡ true → (b ≡ true → c ≡ true) → (a || c) ≡ true
    keep true b c e f = refl
    keep false b c e f = f e

  -- none passes where none has a number
  pub nil-none : (from : ℕ) (xs : List (Option X)) → numbers_of p from xs ≡ [] → list_any p xs ≡ false
  nil-none from [] h = refl
  nil-none from (x ∷ xs) h = either (p x) refl h (nil-none (from + 1) xs) where
    either : (b : Bool) → p x ≡ b → cond b (from ∷ numbers_of p (from + 1) xs) (numbers_of p (from + 1) xs) ≡ []
        → (numbers_of p (from + 1) xs ≡ [] → list_any p xs ≡ false) → list_any p (x ∷ xs) ≡ false
    either true is h later = cc
    either false is h later = ap (λ b. b || list_any p xs) is ∙ later h

  -- the first of all
  pub head-passes : (xs : List (Option X)) (i : ℕ) → slice_get (numbers_of p 0 xs) 0 ≡ Some i
      → (i < length xs) × (p (get_or xs i None) ≡ true) × (list_any p (take i xs) ≡ false)
  head-passes xs i e =
      let c = first-comes 0 xs i e in
      let same : i ≡ c.place = omega (arith, c.is) in
      subst (λ (j : ℕ). (j < length xs) × (p (get_or xs j None) ≡ true) × (list_any p (take j xs) ≡ false)) (sym same) (c.inside, c.passes, c.before)

-- packets with the same ends
between-same : (e x : ℕ × ℕ) → goes_between e (Some x) ≡ true → x ≡ e
between-same e x h =
    let parts : (eqb x.0 e.0 ≡ true) × (eqb x.1 e.1 ≡ true) = and_parts (eqb x.0 e.0) (eqb x.1 e.1) h in
    λ i. (eqb-true x.0 e.0 parts.0 i, eqb-true x.1 e.1 parts.1 i)

between-self : (e : ℕ × ℕ) → goes_between e (Some e) ≡ true
between-self e = rw (eq-eqb e.0 e.0 refl, eq-eqb e.1 e.1 refl) refl

between-other : (e x : ℕ × ℕ) → goes_between e (Some x) ≡ false → goes_between x (Some e) ≡ false
between-other e x h = either (goes_between x (Some e)) refl where
  either : (b : Bool) → goes_between x (Some e) ≡ b → b ≡ false
  either false is = refl
  either true is = absurd (false≢true (sym h ∙ ap (λ (y : ℕ × ℕ). goes_between e (Some y)) (sym (between-same x e is)) ∙ between-self e))

-- no two ends have one queue
other-queue : (e : ℕ × ℕ) (s d : ℕ) → e.1 < MAX_NODES → d < MAX_NODES → goes_between (s, d) (Some e) ≡ false → queue_of s d ≢ queue_of e.0 e.1
other-queue e s d few fewer h same =
    let source : e.0 ≡ s = omega (arith, same, few, fewer) in
    let destination : e.1 ≡ d = omega (arith, same, few, fewer) in
    false≢true (sym h ∙ ap (λ b. b && eqb e.1 d) (eq-eqb e.0 s source) ∙ eq-eqb e.1 d destination)

-- a packet that is first has ends, and none before it has the same
pub first-at : (ps : List (Option (ℕ × ℕ))) (k : ℕ) → is_first ps k ≡ true
    → (e : ℕ × ℕ) × (get_or ps k None ≡ Some e) × (list_any (goes_between e) (take k ps) ≡ false)
first-at ps k h = at (get_or ps k None) refl h where
  alone : (b : Bool) (d : ℕ) → is_some (if b then None else Some d) ≡ true → b ≡ false
  alone true d h = cc
  alone false d h = refl

  at : (o : Option (ℕ × ℕ)) → get_or ps k None ≡ o → is_some (turn_after (take k ps) o) ≡ true
      → (e : ℕ × ℕ) × (get_or ps k None ≡ Some e) × (list_any (goes_between e) (take k ps) ≡ false)
  at None is h = cc
  at (Some e) is h = (e, is, alone (list_any (goes_between e) (take k ps)) e.1 h)

pub at-inside : {X : Type 0} (xs : List (Option X)) (k : ℕ) (x : X) → get_or xs k None ≡ Some x → k < length xs
at-inside xs k x e = elim (cases_lt k (length xs)) [
  | inl inside ↦ inside
  | inr past ↦ absurd (none-some x (sym (get_or_past xs k None past) ∙ e))
]

-- the queues, whatever of each is kept where
pub queued-same : {ps : List (Option (ℕ × ℕ))} {queues after : List (List ℕ)} {index : Flights} → IsQueued ps queues index
    → ((i : ℕ) → get_or after i [] ≡ get_or queues i []) → IsQueued ps after index
queued-same h same = record { few = h.few; number = h.number; within = h.within; queued = λ s d below. same (queue_of s d) ∙ h.queued s d below; first = h.first }

module _ {ps : List (Option (ℕ × ℕ))} {queues : List (List ℕ)} {index : Flights} (h : IsQueued ps queues index) where
  -- one that is first leaves
  module _ (k : ℕ) (e : ℕ × ℕ) (at : get_or ps k None ≡ Some e) (alone : list_any (goes_between e) (take k ps) ≡ false) where
    abbrev left : List (Option (ℕ × ℕ))
    left = set ps k None

    abbrev n : ℕ
    n = queue_of e.0 e.1

    here : goes_between e (get_or ps k None) ≡ true
    here = ap (goes_between e) at ∙ between-self e

    below : e.1 < MAX_NODES
    below = subst (λ (o : Option (ℕ × ℕ)). IfSome o (λ x. x.1 < MAX_NODES)) at (h.within k)

    left-queued : (after : List (List ℕ)) → ((i : ℕ) → get_or after i [] ≡ (if i == queue_of e.0 e.1 then drop 1 (get_or queues (queue_of e.0 e.1) []) else get_or queues i []))
        → (s d : ℕ) → d < MAX_NODES → get_or after (queue_of s d) [] ≡ between (s, d) left
    left-queued after is s d few = either (goes_between (s, d) (Some e)) refl where
      either : (b : Bool) → goes_between (s, d) (Some e) ≡ b → get_or after (queue_of s d) [] ≡ between (s, d) left
      either true same = subst (λ (x : ℕ × ℕ). get_or after (queue_of x.0 x.1) [] ≡ between x left) (between-same (s, d) e same)
          (is n ∙ ap (λ (b : Bool). if b then drop 1 (get_or queues n []) else get_or queues n []) (eq-eqb n n refl)
          ∙ ap (drop 1) (h.queued e.0 e.1 below) ∙ sym (first-gone (goes_between e) refl 0 ps k here alone))
      either false other =
          is (queue_of s d) ∙ ap (λ (b : Bool). if b then drop 1 (get_or queues n []) else get_or queues (queue_of s d) []) (ne_eqb (queue_of s d) n (other-queue e s d below few other))
          ∙ h.queued s d few ∙ sym (other-gone (goes_between (s, d)) refl 0 ps k (ap (goes_between (s, d)) at ∙ other))

    -- where each goes that is first then
    left-turn : (i : ℕ) (v : Option ℕ) → (i ≡ k → v ≡ None) → (i ≢ k → slice_get (between e left) 0 ≡ Some i → v ≡ Some e.1)
        → (i ≢ k → slice_get (between e left) 0 ≢ Some i → v ≡ get_or index.packets i None) → v ≡ turn_of left i
    left-turn i v gone next rest = elim (cases_eq i k) [
      | inl same ↦ gone same ∙ sym (ap (turn_after (take i left)) (get_or-set_at ps k i None None same (at-inside ps k e at)))
      | inr other ↦ of (get_or ps i None) refl other
    ] where
      -- it does not lead, so it stands as it stood
      stays : i ≢ k → slice_get (between e left) 0 ≢ Some i → v ≡ turn_of ps i
      stays other behind = rest other behind ∙ h.first i

      kept : i ≢ k → get_or left i None ≡ get_or ps i None
      kept other = get_or-set_other ps k i None None other

      behind : i ≢ k → (o : Option (ℕ × ℕ)) → get_or ps i None ≡ o → goes_between e o ≡ false → slice_get (between e left) 0 ≢ Some i
      behind other o is apart lead = false≢true (sym (ap (goes_between e) (kept other ∙ is) ∙ apart) ∙ (head-passes (goes_between e) refl left i lead).1)

      of-lane : i ≢ k → get_or ps i None ≡ Some e → (a : Bool) → list_any (goes_between e) (take i left) ≡ a → v ≡ turn_of left i
      of-lane other is false a =
          let at_i : 0 + i ≡ i = omega arith in
          let lead : slice_get (between e left) 0 ≡ Some i =
          comes-first (goes_between e) refl 0 left i (ap (goes_between e) (kept other ∙ is) ∙ between-self e) a ∙ ap (λ j. Some j) at_i in
          next other lead ∙ sym (ap (turn_after (take i left)) (kept other ∙ is) ∙ ap (λ (b : Bool). if b then None else Some e.1) a)
      of-lane other is true a =
          let later : slice_get (between e left) 0 ≢ Some i = λ lead. false≢true (sym (head-passes (goes_between e) refl left i lead).2 ∙ a) in
          stays other later ∙ ap (turn_after (take i ps)) is ∙ ap (λ (b : Bool). if b then None else Some e.1) (any-left (goes_between e) refl ps k i a)
          ∙ sym (ap (turn_after (take i left)) (kept other ∙ is) ∙ ap (λ (b : Bool). if b then None else Some e.1) a)

      of-some : i ≢ k → (x : ℕ × ℕ) → get_or ps i None ≡ Some x → (b : Bool) → goes_between e (Some x) ≡ b → v ≡ turn_of left i
      of-some other x is true same =
          of-lane other (is ∙ ap (λ (y : ℕ × ℕ). Some y) (between-same e x same)) (list_any (goes_between e) (take i left)) refl
      of-some other x is false apart =
          let away = any-other (goes_between x) refl ps k i (ap (goes_between x) at ∙ between-other e x apart) in
          stays other (behind other (Some x) is apart) ∙ ap (turn_after (take i ps)) is ∙ sym (ap (λ (b : Bool). if b then None else Some x.1) away)
          ∙ sym (ap (turn_after (take i left)) (kept other ∙ is))

      of : (o : Option (ℕ × ℕ)) → get_or ps i None ≡ o → i ≢ k → v ≡ turn_of left i
      of None is other = stays other (behind other None is refl) ∙ ap (turn_after (take i ps)) is ∙ sym (ap (turn_after (take i left)) (kept other ∙ is))
      of (Some x) is other = of-some other x is (goes_between e (Some x)) refl

    -- the index after it left, and after the next came
    pub left-alone : slice_get (between e left) 0 ≡ None → (i : ℕ) → get_or (set index.packets k None) i None ≡ turn_of left i
    left-alone none i = left-turn i (get_or (set index.packets k None) i None)
        (λ same. get_or-set_at index.packets k i None None same (omega (arith, at-inside ps k e at, h.number)))
        (λ other lead. absurd (none-some i (sym none ∙ lead)))
        (λ other behind. get_or-set_other index.packets k i None None other)

    next-passes : (j : ℕ) → slice_get (between e left) 0 ≡ Some j → (j < length left) × (goes_between e (get_or left j None) ≡ true) × (list_any (goes_between e) (take j left) ≡ false)
    next-passes j lead = head-passes (goes_between e) refl left j lead

    next-other : (j : ℕ) → slice_get (between e left) 0 ≡ Some j → j ≢ k
    next-other j lead same =
        let gone : get_or left j None ≡ None = get_or-set_at ps k j None None same (at-inside ps k e at) in
        false≢true (sym (ap (goes_between e) gone) ∙ (next-passes j lead).1)

    pub next-inside : (j : ℕ) → slice_get (between e left) 0 ≡ Some j → j < length (set index.packets k None)
    next-inside j lead = omega (arith, (next-passes j lead).0, length-set ps k None, length-set index.packets k None, h.number)

    pub next-waits : (j : ℕ) → slice_get (between e left) 0 ≡ Some j → get_or (set index.packets k None) j None ≡ None
    next-waits j lead =
        let other = next-other j lead in
        let kept : get_or left j None ≡ get_or ps j None = get_or-set_other ps k j None None other in
        let passes : goes_between e (get_or ps j None) ≡ true = sym (ap (goes_between e) kept) ∙ (next-passes j lead).1 in
        get_or-set_other index.packets k j None None other ∙ h.first j ∙ waits (get_or ps j None) refl passes (later other passes)
      where
        later : j ≢ k → goes_between e (get_or ps j None) ≡ true → list_any (goes_between e) (take j ps) ≡ true
        later other passes = elim (cases_lt k j) [
          | inl before ↦ list_any_at (goes_between e) (take j ps) k None
              (omega (arith, before, length-take j ps, at-inside ps k e at)) (ap (goes_between e) (get_or-take j ps k None before) ∙ here)
          | inr after ↦
              let past : j < k = omega (arith, after, other) in
              absurd (false≢true (sym alone ∙ list_any_at (goes_between e) (take k ps) j None
              (omega (arith, past, length-take k ps, at-inside ps k e at)) (ap (goes_between e) (get_or-take k ps j None past) ∙ passes)))
        ]

        waits : (o : Option (ℕ × ℕ)) → get_or ps j None ≡ o → goes_between e o ≡ true → list_any (goes_between e) (take j ps) ≡ true → turn_of ps j ≡ None
        waits None is passes any = cc
        waits (Some x) is passes any =
            ap (turn_after (take j ps)) (is ∙ ap (λ (y : ℕ × ℕ). Some y) (between-same e x passes)) ∙ ap (λ (b : Bool). if b then None else Some e.1) any

    pub left-next : (j : ℕ) → slice_get (between e left) 0 ≡ Some j → (i : ℕ) → get_or (set (set index.packets k None) j (Some e.1)) i None ≡ turn_of left i
    left-next j lead i = left-turn i (get_or (set (set index.packets k None) j (Some e.1)) i None)
        (λ same. get_or-set_other (set index.packets k None) j i (Some e.1) None (λ is. next-other j lead (sym is ∙ same))
        ∙ get_or-set_at index.packets k i None None same (omega (arith, at-inside ps k e at, h.number)))
        (λ other lead_i. get_or-set_at (set index.packets k None) j i (Some e.1) None (same_Some i j (sym lead_i ∙ lead)) (next-inside j lead))
        (λ other behind. get_or-set_other (set index.packets k None) j i (Some e.1) None (λ is. behind (lead ∙ ap (λ n. Some n) (sym is)))
        ∙ get_or-set_other index.packets k i None None other)

    left-within : (i : ℕ) → IfSome (get_or left i None) (λ x. x.1 < MAX_NODES)
    left-within i = elim (cases_eq i k) [
      | inl same ↦ subst (λ (o : Option (ℕ × ℕ)). IfSome o (λ x. x.1 < MAX_NODES)) (sym (get_or-set_at ps k i None None same (at-inside ps k e at))) tt
      | inr other ↦ subst (λ (o : Option (ℕ × ℕ)). IfSome o (λ x. x.1 < MAX_NODES)) (sym (get_or-set_other ps k i None None other)) (h.within i)
    ]

    pub queued-left : (after : List (List ℕ)) (now : Flights)
        → ((i : ℕ) → get_or after i [] ≡ (if i == n then drop 1 (get_or queues n []) else get_or queues i []))
        → length now.packets ≡ length index.packets → ((i : ℕ) → get_or now.packets i None ≡ turn_of left i) → IsQueued left after now
    queued-left after now is number first = record {
      few = omega (arith, h.few, length-set ps k None);
      number = number ∙ h.number ∙ sym (length-set ps k None);
      within = left-within;
      queued = left-queued after is;
      first = first;
    }

    -- the queue of the packet then
    pub own-queue : (after : List (List ℕ)) → ((i : ℕ) → get_or after i [] ≡ (if i == n then drop 1 (get_or queues n []) else get_or queues i []))
        → get_or after n [] ≡ between e left
    own-queue after is = left-queued after is e.0 e.1 below

  -- one more is sent
  module _ (e : ℕ × ℕ) (below : e.1 < MAX_NODES) where
    abbrev more : List (Option (ℕ × ℕ))
    more = ps ++ Some e ∷ []

    abbrev m : ℕ
    m = queue_of e.0 e.1

    between-more : (x : ℕ × ℕ) → between x more ≡ between x ps ++ cond (goes_between x (Some e)) (length ps ∷ []) []
    between-more x =
        let at : 0 + length ps ≡ length ps = omega arith in
        numbers_of-append (goes_between x) 0 ps (Some e ∷ []) ∙ ap (λ j. between x ps ++ cond (goes_between x (Some e)) (j ∷ []) []) at

    more-queued : (after : List (List ℕ)) → ((i : ℕ) → get_or after i [] ≡ (if i == m then get_or queues m [] ++ length ps ∷ [] else get_or queues i []))
        → (s d : ℕ) → d < MAX_NODES → get_or after (queue_of s d) [] ≡ between (s, d) more
    more-queued after is s d few = either (goes_between (s, d) (Some e)) refl where
      either : (b : Bool) → goes_between (s, d) (Some e) ≡ b → get_or after (queue_of s d) [] ≡ between (s, d) more
      either true same = subst (λ (x : ℕ × ℕ). get_or after (queue_of x.0 x.1) [] ≡ between x more) (between-same (s, d) e same)
          (is m ∙ ap (λ (b : Bool). if b then get_or queues m [] ++ length ps ∷ [] else get_or queues m []) (eq-eqb m m refl)
          ∙ ap (λ xs. xs ++ length ps ∷ []) (h.queued e.0 e.1 below)
          ∙ sym (between-more e ∙ ap (λ b. between e ps ++ cond b (length ps ∷ []) []) (between-self e)))
      either false other =
          is (queue_of s d) ∙ ap (λ (b : Bool). if b then get_or queues m [] ++ length ps ∷ [] else get_or queues (queue_of s d) []) (ne_eqb (queue_of s d) m (other-queue e s d below few other))
          ∙ h.queued s d few ∙ sym (between-more (s, d) ∙ ap (λ b. between (s, d) ps ++ cond b (length ps ∷ []) []) other ∙ append-nil (between (s, d) ps))

    -- it leads its queue where no other has its ends
    pub leads : slice_get (between e ps ++ length ps ∷ []) 0 ≡ Some (length ps) → list_any (goes_between e) ps ≡ false
    leads lead = of (between e ps) refl lead where
      of : (js : List ℕ) → between e ps ≡ js → slice_get (js ++ length ps ∷ []) 0 ≡ Some (length ps) → list_any (goes_between e) ps ≡ false
      of [] is lead = nil-none (goes_between e) refl 0 ps is
      of (j ∷ js) is lead =
          let c = head-passes (goes_between e) refl ps j (ap (λ ks. slice_get ks 0) is) in
          absurd (omega (arith, c.0, same_Some j (length ps) lead))

    pub waits : slice_get (between e ps ++ length ps ∷ []) 0 ≢ Some (length ps) → list_any (goes_between e) ps ≡ true
    waits behind = of (list_any (goes_between e) ps) refl where
      of : (b : Bool) → list_any (goes_between e) ps ≡ b → list_any (goes_between e) ps ≡ true
      of true is = is
      of false is = absurd (behind (ap (λ (js : List ℕ). slice_get (js ++ length ps ∷ []) 0) (none-passes (goes_between e) refl 0 ps is)))

    more-turn : (now : List (Option ℕ)) → length now ≡ length ps + 1 → ((i : ℕ) → i < length ps → get_or now i None ≡ get_or index.packets i None)
        → get_or now (length ps) None ≡ (if list_any (goes_between e) ps then None else Some e.1) → (i : ℕ) → get_or now i None ≡ turn_of more i
    more-turn now number before last i = elim (cases_lt i (length ps)) [
      | inl inside ↦ before i inside ∙ h.first i
          ∙ ap (λ xs. turn_after xs (get_or ps i None)) (sym (take-append-le i ps (Some e ∷ []) (omega (arith, inside))))
          ∙ ap (turn_after (take i more)) (sym (get_or_append_left ps (Some e ∷ []) None i inside))
      | inr past ↦ elim (cases_eq i (length ps)) [
        | inl same ↦ rw same (last
            ∙ sym (ap (turn_after (take (length ps) more)) (get_or_push ps (Some e) None (length ps) refl)
            ∙ ap (λ xs. turn_after xs (Some e)) (take_at ps (Some e ∷ []) (length ps) refl)))
        | inr other ↦ get_or_past now i None (omega (arith, number, past, other))
            ∙ sym (ap (turn_after (take i more)) (get_or_past more i None (omega (arith, length-append ps (Some e ∷ []), past, other))))
      ]
    ]

    more-within : (i : ℕ) → IfSome (get_or more i None) (λ x. x.1 < MAX_NODES)
    more-within i = elim (cases_lt i (length ps)) [
      | inl inside ↦ subst (λ (o : Option (ℕ × ℕ)). IfSome o (λ x. x.1 < MAX_NODES)) (sym (get_or_append_left ps (Some e ∷ []) None i inside)) (h.within i)
      | inr past ↦ elim (cases_eq i (length ps)) [
        | inl same ↦ subst (λ (o : Option (ℕ × ℕ)). IfSome o (λ x. x.1 < MAX_NODES)) (sym (get_or_push ps (Some e) None i (sym same))) below
        | inr other ↦ subst (λ (o : Option (ℕ × ℕ)). IfSome o (λ x. x.1 < MAX_NODES))
            (sym (get_or_past more i None (omega (arith, length-append ps (Some e ∷ []), past, other)))) tt
      ]
    ]

    -- the index has it where it leads, and else none
    pub queued-more : (after : List (List ℕ)) (now : Flights) → length ps < 2 ^ 32 - 1
        → ((i : ℕ) → get_or after i [] ≡ (if i == m then get_or queues m [] ++ length ps ∷ [] else get_or queues i []))
        → length now.packets ≡ length ps + 1 → ((i : ℕ) → i < length ps → get_or now.packets i None ≡ get_or index.packets i None)
        → get_or now.packets (length ps) None ≡ (if list_any (goes_between e) ps then None else Some e.1) → IsQueued more after now
    queued-more after now few is number before last = record {
      few = omega (arith, few, length-append ps (Some e ∷ []));
      number = omega (arith, number, length-append ps (Some e ∷ []));
      within = more-within;
      queued = more-queued after is;
      first = more-turn now.packets number before last;
    }

    module _ (after : List (List ℕ)) (few : length ps < 2 ^ 32 - 1)
        (is : (i : ℕ) → get_or after i [] ≡ (if i == m then get_or queues m [] ++ length ps ∷ [] else get_or queues i [])) where
      -- its queue then
      pub lane-then : get_or after m [] ≡ between e ps ++ length ps ∷ []
      lane-then = is m ∙ ap (λ (b : Bool). if b then get_or queues m [] ++ length ps ∷ [] else get_or queues m []) (eq-eqb m m refl)
          ∙ ap (λ xs. xs ++ length ps ∷ []) (h.queued e.0 e.1 below)

      pub queued-first : (now : Flights) → now.packets ≡ index.packets ++ Some e.1 ∷ [] → slice_get (between e ps ++ length ps ∷ []) 0 ≡ Some (length ps) → IsQueued more after now
      queued-first now new lead = queued-more after now few is
          (ap length new ∙ length-append index.packets (Some e.1 ∷ []) ∙ ap (λ n. n + 1) h.number)
          (λ i inside. ap (λ os. get_or os i None) new ∙ get_or_append_left index.packets (Some e.1 ∷ []) None i (omega (arith, inside, h.number)))
          (ap (λ os. get_or os (length ps) None) new ∙ get_or_push index.packets (Some e.1) None (length ps) h.number
          ∙ sym (ap (λ (b : Bool). if b then None else Some e.1) (leads lead)))

      pub queued-behind : (now : Flights) → now.packets ≡ set (index.packets ++ Some e.1 ∷ []) (length ps) None
          → slice_get (between e ps ++ length ps ∷ []) 0 ≢ Some (length ps) → IsQueued more after now
      queued-behind now new behind =
          let all = index.packets ++ Some e.1 ∷ [] in
          let number = length-append index.packets (Some e.1 ∷ []) ∙ ap (λ n. n + 1) h.number in
          queued-more after now few is
          (ap length new ∙ length-set all (length ps) None ∙ number)
          (λ i inside. ap (λ os. get_or os i None) new ∙ get_or-set_other all (length ps) i None None (λ same. omega (arith, same, inside))
          ∙ get_or_append_left index.packets (Some e.1 ∷ []) None i (omega (arith, inside, h.number)))
          (ap (λ os. get_or os (length ps) None) new ∙ get_or-set_at all (length ps) (length ps) None None refl (omega (arith, number))
          ∙ sym (ap (λ (b : Bool). if b then None else Some e.1) (waits behind)))

-- whether an option has this number
pub has : (o : Option ℕ) (k : ℕ) → option_eq eqb o (Some k) ≡ true → o ≡ Some k
has None k h = cc
has (Some j) k h = ap (λ n. Some n) (eqb-true j k h)

pub has-not : (o : Option ℕ) (k : ℕ) → option_eq eqb o (Some k) ≡ false → o ≢ Some k
has-not o k h is = false≢true (sym h ∙ ap (λ p. option_eq eqb p (Some k)) is ∙ eq-eqb k k refl)

pub first-of : (ps : List (Option (ℕ × ℕ))) (k : ℕ) (e : ℕ × ℕ) → is_first ps k ≡ true → get_or ps k None ≡ Some e → list_any (goes_between e) (take k ps) ≡ false
first-of ps k e h at =
    let w = first-at ps k h in
    subst (λ (x : ℕ × ℕ). list_any (goes_between x) (take k ps) ≡ false) (same_Some w.0 e (sym w.1 ∙ at)) w.2
