-- Laws of a run whose pairs are checked: what follows changes nothing of what the steps before it came to.
use Rattle.std.specs.Prelude.{◌≡◌, ℕ, suc, ◌<◌, ◌≤◌, Bool, true, false, nat_lt, List, [], ◌∷◌, ◌++◌, length, Option, Some, None, option_map, refl}
use Rattle.std.proofs.Common.{ap, ◌∙◌, arith, cond}
use Rattle.std.proofs.lemmas.Bool.{le-ltb, lt-ltb}
use Rattle.std.proofs.lemmas.Option.{same_Some}
use Rattle.std.specs.Option.{option_to_list}
use Rattle.net_semantics.specs.Runs.{first_refused, first_refused_from, place_and_why}
use Rattle.net_semantics.specs.Steps.{next, refusal_of}
use Rattle.net_semantics.specs.Worlds.{World, first_world}
use Rattle.vst_base.specs.declared.step.Step.{Step}
use Rattle.vst_base.specs.declared.step.StepRefusal.{StepRefusal}
use Rattle.vst_base.specs.declared.step.StepRefusal.TheVariants as refusal
use Rattle.raft_types.specs.declared.client.RaftInput.{RaftInput}
use Rattle.raft_reads.specs.Clusters.{input_of}
use Rattle.xform_stack.specs.SystemLaws.{IsCausal}
use Rattle.xform_stack.specs.Systems.{Played, System}
use Rattle.read_observer.specs.Pairs.{checked, first_of_both, first_used, first_used_after, uses_again}

-- a step of one of the steps
later_below : (n : ℕ) (o : Option (ℕ × StepRefusal)) (r : ℕ × StepRefusal) → ((q : ℕ × StepRefusal) → o ≡ Some q → q.0 < n)
    → option_map (λ (p : ℕ × StepRefusal). (suc p.0, p.1)) o ≡ Some r → r.0 < suc n
later_below n None r below is = absurd (cc (is))
later_below n (Some q) r below is =
    let place : suc q.0 ≡ r.0 = ap (λ (p : ℕ × StepRefusal). p.0) (same_Some (suc q.0, q.1) r is) in
    omega (arith, place, below q refl)

first_below : (n : ℕ) (f : Option StepRefusal) (o : Option (ℕ × StepRefusal)) (r : ℕ × StepRefusal)
    → ((q : ℕ × StepRefusal) → o ≡ Some q → q.0 < n) → place_and_why f o ≡ Some r → r.0 < suc n
first_below n None o r below is = later_below n o r below is
first_below n (Some why) o r below is =
    let place : 0 ≡ r.0 = ap (λ (p : ℕ × StepRefusal). p.0) (same_Some (0, why) r is) in
    omega (arith, place)

-- the first refusal of a schedule is of one of its steps
pub refused_below : {S K I O M : Type 0} (sys : System S K I O M) (ss : List (Step I)) (r : ℕ × StepRefusal)
    → first_refused sys.net sys.meaning sys.recovery ss ≡ Some r → r.0 < length ss
refused_below {S} {K} {I} {O} {M} sys ss r is = go (first_world sys.meaning) ss r is
  where
    go : (w : World S K M) (ss : List (Step I)) (r : ℕ × StepRefusal) → first_refused_from sys.net sys.meaning sys.recovery w ss ≡ Some r → r.0 < length ss
    go w [] r is = absurd (cc (is))
    go w (s ∷ ss) r is =
        first_below (length ss) (refusal_of sys.net sys.meaning w s) _ r (λ q at. go (next sys.meaning sys.recovery w s) ss q at) is

module _ {C : Type 0} (is_read : C → Bool) where
  -- a later place
  none_later : (o : Option ℕ) → option_map suc o ≡ None → o ≡ None
  none_later None is = refl
  none_later (Some k) is = absurd (cc (is))

  -- by whether the first step uses a pair again
  abbrev first_or : Bool → Option ℕ → Option ℕ
  first_or b o = cond b (Some 0) (option_map suc o)

  pub or-none : (b : Bool) (o : Option ℕ) → first_or b o ≡ None → (b ≡ false) × (o ≡ None)
  or-none true o is = absurd (cc (is))
  or-none false o is = (refl, none_later o is)

  or-stays : (b : Bool) (o p : Option ℕ) (k : ℕ) → ((j : ℕ) → o ≡ Some j → p ≡ Some j) → first_or b o ≡ Some k → first_or b p ≡ Some k
  or-stays true o p k stays is = is
  or-stays false None p k stays is = absurd (cc (is))
  or-stays false (Some j) p k stays is = ap (option_map suc) (stays j refl) ∙ is

  or-below : (b : Bool) (o : Option ℕ) (n k : ℕ) → ((j : ℕ) → o ≡ Some j → j < n) → first_or b o ≡ Some k → k < suc n
  or-below true o n k below is = let place : 0 ≡ k = same_Some 0 k is in omega (arith, place)
  or-below false None n k below is = absurd (cc (is))
  or-below false (Some j) n k below is = let place : suc j ≡ k = same_Some (suc j) k is in omega (arith, place, below j refl)

  or-above : (b : Bool) (o : Option ℕ) (n k : ℕ) → b ≡ false → ((j : ℕ) → o ≡ Some j → n ≤ j) → first_or b o ≡ Some k → suc n ≤ k
  or-above true o n k not_used above is = absurd (cc (not_used))
  or-above false None n k not_used above is = absurd (cc (is))
  or-above false (Some j) n k not_used above is = let place : suc j ≡ k = same_Some (suc j) k is in omega (arith, place, above j refl)

  pub used-stays : (rs : List (RaftInput C)) (ss ts : List (Step (RaftInput C))) (k : ℕ) → first_used_after is_read rs ss ≡ Some k
      → first_used_after is_read rs (ss ++ ts) ≡ Some k
  used-stays rs [] ts k is = absurd (cc (is))
  used-stays rs (s ∷ ss) ts k is =
      let more = rs ++ option_to_list (input_of s) in
      or-stays (uses_again is_read rs (input_of s)) (first_used_after is_read more ss) (first_used_after is_read more (ss ++ ts)) k
      (λ j at. used-stays more ss ts j at) is

  pub used-below : (rs : List (RaftInput C)) (ss : List (Step (RaftInput C))) (k : ℕ) → first_used_after is_read rs ss ≡ Some k → k < length ss
  used-below rs [] k is = absurd (cc (is))
  used-below rs (s ∷ ss) k is =
      let more = rs ++ option_to_list (input_of s) in
      or-below (uses_again is_read rs (input_of s)) (first_used_after is_read more ss) (length ss) k (λ j at. used-below more ss j at) is

  pub used-after : (rs : List (RaftInput C)) (ss ts : List (Step (RaftInput C))) (k : ℕ) → first_used_after is_read rs ss ≡ None
      → first_used_after is_read rs (ss ++ ts) ≡ Some k → length ss ≤ k
  used-after rs [] ts k none is = omega arith
  used-after rs (s ∷ ss) ts k none is =
      let more = rs ++ option_to_list (input_of s) in
      let both = or-none (uses_again is_read rs (input_of s)) (first_used_after is_read more ss) none in
      or-above (uses_again is_read rs (input_of s)) (first_used_after is_read more (ss ++ ts)) (length ss) k both.0
      (λ j at. used-after more ss ts j both.1 at) is

  -- of a refusal and of a pair that is used again
  pub both-none : (o : Option (ℕ × StepRefusal)) (u : Option ℕ) → first_of_both o u ≡ None → (o ≡ None) × (u ≡ None)
  both-none None None is = (refl, refl)
  both-none (Some r) None is = absurd (cc (is))
  both-none None (Some k) is = absurd (cc (is))
  both-none (Some r) (Some k) is = absurd (never (nat_lt k r.0) is)
    where
      never : (b : Bool) → cond b (Some (k, refusal.PairUsed)) (Some r) ≡ None → ⊥
      never true is = cc (is)
      never false is = cc (is)

  -- the refusal stays the first where it is of a step before the pair's
  pub first-refusal : (r : ℕ × StepRefusal) (u : Option ℕ) → ((k : ℕ) → u ≡ Some k → r.0 ≤ k) → first_of_both (Some r) u ≡ Some r
  first-refusal r None before = refl
  first-refusal r (Some k) before = ap (λ b. cond b (Some (k, refusal.PairUsed)) (Some r)) (le-ltb k r.0 (before k refl))

  -- and the pair is where it is used again before the refused step
  pub first-pair : (o : Option (ℕ × StepRefusal)) (k : ℕ) → ((r : ℕ × StepRefusal) → o ≡ Some r → k < r.0)
      → first_of_both o (Some k) ≡ Some (k, refusal.PairUsed)
  first-pair None k before = refl
  first-pair (Some r) k before = ap (λ b. cond b (Some (k, refusal.PairUsed)) (Some r)) (lt-ltb k r.0 (before r refl))

  module _ {O G : Type 0} (p : Played (RaftInput C) O G)
      (below : (ss : List (Step (RaftInput C))) (r : ℕ × StepRefusal) → p.refused ss ≡ Some r → r.0 < length ss) (causal : IsCausal p) where
    stays : (ss ts : List (Step (RaftInput C))) (r : ℕ × StepRefusal) (o : Option (ℕ × StepRefusal)) (u : Option ℕ) → p.refused ss ≡ o
        → first_used is_read ss ≡ u → first_of_both o u ≡ Some r → first_of_both (p.refused (ss ++ ts)) (first_used is_read (ss ++ ts)) ≡ Some r
    stays ss ts r None None o u is = absurd (cc (is))
    stays ss ts r None (Some k) o u is =
        ap (first_of_both (p.refused (ss ++ ts))) (used-stays [] ss ts k u)
        ∙ first-pair (p.refused (ss ++ ts)) k (λ q at. omega (arith, used-below [] ss k u, causal.after ss ts q o at)) ∙ is
    stays ss ts r (Some q) None o u is =
        ap (λ a. first_of_both a (first_used is_read (ss ++ ts))) (causal.refused ss ts q o)
        ∙ first-refusal q (first_used is_read (ss ++ ts)) (λ k at. omega (arith, below ss q o, used-after [] ss ts k u at)) ∙ is
    stays ss ts r (Some q) (Some k) o u is =
        ap (λ a. first_of_both a (first_used is_read (ss ++ ts))) (causal.refused ss ts q o)
        ∙ ap (first_of_both (Some q)) (used-stays [] ss ts k u) ∙ is

    comes-after : (n : ℕ) (r : ℕ × StepRefusal) (o : Option (ℕ × StepRefusal)) (u : Option ℕ)
        → ((q : ℕ × StepRefusal) → o ≡ Some q → n ≤ q.0) → ((k : ℕ) → u ≡ Some k → n ≤ k) → first_of_both o u ≡ Some r → n ≤ r.0
    comes-after n r o None refused used is = refused r is
    comes-after n r None (Some k) refused used is =
        let place : k ≡ r.0 = ap (λ (q : ℕ × StepRefusal). q.0) (same_Some (k, refusal.PairUsed) r is) in
        omega (arith, place, used k refl)
    comes-after n r (Some q) (Some k) refused used is = go (nat_lt k q.0) is
      where
        go : (b : Bool) → cond b (Some (k, refusal.PairUsed)) (Some q) ≡ Some r → n ≤ r.0
        go true is =
            let place : k ≡ r.0 = ap (λ (q : ℕ × StepRefusal). q.0) (same_Some (k, refusal.PairUsed) r is) in
            omega (arith, place, used k refl)
        go false is = refused r is

    pub checked-causal : IsCausal (checked is_read p)
    checked-causal = record {
      nothing = causal.nothing;
      refused = λ ss ts r is. stays ss ts r (p.refused ss) (first_used is_read ss) refl refl is;
      after = λ ss ts r none is.
          let both = both-none (p.refused ss) (first_used is_read ss) none in
          comes-after (length ss) r (p.refused (ss ++ ts)) (first_used is_read (ss ++ ts)) (λ q at. causal.after ss ts q both.0 at)
          (λ k at. used-after [] ss ts k both.1 at) is;
      trace = causal.trace;
    }
