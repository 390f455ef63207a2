-- No pair is used again exactly where each is unused by all later steps.
use Rattle.std.proofs.Common.{◌≡◌, ℕ, suc, Bool, true, false, cond, ◌||◌, List, [], ◌∷◌, ◌++◌, Option, Some, None, refl, ap, ◌∙◌}
use Rattle.std.specs.List.{list_any}
use Rattle.std.specs.Option.{option_map, option_to_list}
use Rattle.std.specs.Prelude.{IfSome}
use Rattle.vst_base.specs.declared.step.Step.{Step}
use Rattle.lists.specs.Each.{Each, each_append, each_back, each_front}
use Rattle.raft_types.specs.declared.client.RaftInput.{RaftInput}
use Rattle.raft_reads.specs.Clusters.{ReadCluster, input_of}
use Rattle.reads_safety.specs.Runs.{ArePairsUnused, IsUnused}
use Rattle.read_observer.specs.Pairs.{clashes, first_used, first_used_after, uses_again}

module _ {S C O : Type 0} (c : ReadCluster S C O) where
  -- none of the steps uses a pair of these requests again
  abbrev AreFree : List (RaftInput C) → List (Step (RaftInput C)) → Type 0
  AreFree rs ss = Each (λ i. Each (IsUnused c i) ss) rs

  -- nor does this step
  abbrev IsFree : List (RaftInput C) → Step (RaftInput C) → Type 0
  IsFree rs s = Each (λ i. IsUnused c i s) rs

  free-cons : (rs : List (RaftInput C)) (s : Step (RaftInput C)) (ss : List (Step (RaftInput C))) → IsFree rs s → AreFree rs ss → AreFree rs (s ∷ ss)
  free-cons [] s ss here later = tt
  free-cons (r ∷ rs) s ss here later = ((here.0, later.0), free-cons rs s ss here.1 later.1)

  free-head : (rs : List (RaftInput C)) (s : Step (RaftInput C)) (ss : List (Step (RaftInput C))) → AreFree rs (s ∷ ss) → IsFree rs s
  free-head [] s ss all = tt
  free-head (r ∷ rs) s ss all = (all.0.0, free-head rs s ss all.1)

  free-tail : (rs : List (RaftInput C)) (s : Step (RaftInput C)) (ss : List (Step (RaftInput C))) → AreFree rs (s ∷ ss) → AreFree rs ss
  free-tail [] s ss all = tt
  free-tail (r ∷ rs) s ss all = (all.0.1, free-tail rs s ss all.1)

  or_none : (a b : Bool) → (a || b) ≡ false → (a ≡ false) × (b ≡ false)
  or_none true b h = absurd (cc (h))
  or_none false b h = (refl, h)

  -- by the input of the step
  each_other : (rs : List (RaftInput C)) (o : Option (RaftInput C)) → uses_again c.is_read rs o ≡ false →
      Each (λ i. IfSome o (λ j. clashes c.is_read i j ≡ false)) rs
  each_other [] o h = tt
  each_other (r ∷ rs) None h = (tt, each_other rs None refl)
  each_other (r ∷ rs) (Some j) h =
      let both = or_none (clashes c.is_read r j) (list_any (λ i. clashes c.is_read i j) rs) h in
      (both.0, each_other rs (Some j) both.1)

  none_used : (rs : List (RaftInput C)) (o : Option (RaftInput C)) → Each (λ i. IfSome o (λ j. clashes c.is_read i j ≡ false)) rs →
      uses_again c.is_read rs o ≡ false
  none_used rs None h = refl
  none_used [] (Some j) h = refl
  none_used (r ∷ rs) (Some j) h = ap (λ b. b || list_any (λ i. clashes c.is_read i j) rs) h.0 ∙ none_used rs (Some j) h.1

  later_none : (o : Option ℕ) → option_map suc o ≡ None → o ≡ None
  later_none None h = refl
  later_none (Some k) h = absurd (cc (h))

  -- of one input's pair, and of none's
  of_input : (o : Option (RaftInput C)) (ss : List (Step (RaftInput C))) → AreFree (option_to_list o) ss → IfSome o (λ i. Each (IsUnused c i) ss)
  of_input None ss all = tt
  of_input (Some i) ss all = all.0

  to_input : (o : Option (RaftInput C)) (ss : List (Step (RaftInput C))) → IfSome o (λ i. Each (IsUnused c i) ss) → AreFree (option_to_list o) ss
  to_input None ss all = tt
  to_input (Some i) ss all = (all, tt)

  unused-from : (rs : List (RaftInput C)) (ss : List (Step (RaftInput C))) → first_used_after c.is_read rs ss ≡ None → AreFree rs ss × ArePairsUnused c ss
  unused-from rs [] none = (nothing rs, tt)
    where
      nothing : (qs : List (RaftInput C)) → AreFree qs []
      nothing [] = tt
      nothing (q ∷ qs) = (tt, nothing qs)
  unused-from rs (s ∷ ss) none =
      go (uses_again c.is_read rs (input_of s)) refl none (λ rest. unused-from (rs ++ option_to_list (input_of s)) ss rest)
    where
      go : (b : Bool) → uses_again c.is_read rs (input_of s) ≡ b →
          cond b (Some 0) (option_map suc (first_used_after c.is_read (rs ++ option_to_list (input_of s)) ss)) ≡ None →
          (first_used_after c.is_read (rs ++ option_to_list (input_of s)) ss ≡ None → AreFree (rs ++ option_to_list (input_of s)) ss × ArePairsUnused c ss) →
          AreFree rs (s ∷ ss) × ArePairsUnused c (s ∷ ss)
      go true t h later = absurd (cc (h))
      go false t h later =
          let rest = later (later_none _ h) in
          let free : AreFree rs ss = each_front (λ i. Each (IsUnused c i) ss) rs (option_to_list (input_of s)) rest.0 in
          let own : AreFree (option_to_list (input_of s)) ss = each_back (λ i. Each (IsUnused c i) ss) rs (option_to_list (input_of s)) rest.0 in
          (free-cons rs s ss (each_other rs (input_of s) t) free, (of_input (input_of s) ss own, rest.1))

  unused-to : (rs : List (RaftInput C)) (ss : List (Step (RaftInput C))) → AreFree rs ss → ArePairsUnused c ss → first_used_after c.is_read rs ss ≡ None
  unused-to rs [] free unused = refl
  unused-to rs (s ∷ ss) free unused =
      let own : AreFree (option_to_list (input_of s)) ss = to_input (input_of s) ss unused.0 in
      let all : AreFree (rs ++ option_to_list (input_of s)) ss =
      each_append (λ i. Each (IsUnused c i) ss) rs (option_to_list (input_of s)) (free-tail rs s ss free) own in
      go (uses_again c.is_read rs (input_of s)) (none_used rs (input_of s) (free-head rs s ss free))
      (unused-to (rs ++ option_to_list (input_of s)) ss all unused.1)
    where
      go : (b : Bool) → b ≡ false → first_used_after c.is_read (rs ++ option_to_list (input_of s)) ss ≡ None →
          cond b (Some 0) (option_map suc (first_used_after c.is_read (rs ++ option_to_list (input_of s)) ss)) ≡ None
      go true h rest = absurd (cc (h))
      go false h rest = ap (option_map suc) rest

  pub unused : (ss : List (Step (RaftInput C))) → first_used c.is_read ss ≡ None → ArePairsUnused c ss
  unused ss none = (unused-from [] ss none).1

  pub never_used : (ss : List (Step (RaftInput C))) → ArePairsUnused c ss → first_used c.is_read ss ≡ None
  never_used ss all = unused-to [] ss tt all
