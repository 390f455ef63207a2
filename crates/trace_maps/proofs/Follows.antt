-- One more step is followed.
use Rattle.std.specs.Prelude.{◌≡◌, ℕ, Bool, true, false, ◌||◌, ◌==◌, List, [], ◌∷◌, ◌++◌, cond, refl}
use Rattle.std.proofs.Common.{ap, sym, subst, ◌∙◌}
use Rattle.std.proofs.lemmas.List.{append-nil}
use Rattle.std.specs.FinSet as set
use Rattle.std.specs.FinSet.{FinSet}
use Rattle.std.specs.Ordering.{nat_cmp}
use Rattle.vst_base.specs.declared.step.Step.{Step}
use Rattle.net_semantics.specs.Worlds.{put}
use Rattle.net_semantics.specs.Once.{is_repeat, delivered_after, delivered_from, once, once_from}
use Rattle.net_semantics.specs.OnceLaws.{delivered_from-append, once_from-append}
use Rattle.number_set.specs.NumberSetLaws.{contains-more, contains-nothing}
use Rattle.trace_maps.specs.Following.{Left, HasFollowed}

or-cond : (b x : Bool) → (b || x) ≡ cond b true x
or-cond true x = refl
or-cond false x = refl

-- a packet was delivered
pub delivered-more : (s : FinSet nat_cmp) (n k : ℕ) → set.contains (set.insert s n) k ≡ put (λ j. set.contains s j) n true k
delivered-more s n k = contains-more s n k ∙ or-cond (k == n) (set.contains s k)

module _ {F I : Type 0} (follows : F → List (Step I) → Type 0) where
  pub follows-nothing : (rest : F) → follows rest [] → HasFollowed follows (record { delivered = set.empty; rest = rest }) []
  follows-nothing rest e = record { rest = e; delivered = λ k. contains-nothing k }

  left-by : (b : Bool) (s : Step I) (xs : List (Step I)) → b ≡ true → xs ++ cond b [] (s ∷ []) ≡ xs
  left-by true s xs e = append-nil xs
  left-by false s xs e = cc

  kept-by : (b : Bool) (s : Step I) (xs : List (Step I)) → b ≡ false → xs ++ cond b [] (s ∷ []) ≡ xs ++ s ∷ []
  kept-by true s xs e = cc
  kept-by false s xs e = refl

  module _ (l l' : Left F) (ss : List (Step I)) (s : Step I) (delivered : (k : ℕ) → set.contains l'.delivered k ≡ delivered_after (λ j. set.contains l.delivered j) s k) (had : HasFollowed follows l ss) where
    same : ◌≡◌ {A = ℕ → Bool} (λ k. set.contains l.delivered k) (delivered_from (λ _. false) ss)
    same = λ i k. had.delivered k i

    longer : once (ss ++ s ∷ []) ≡ once ss ++ once_from (λ k. set.contains l.delivered k) (s ∷ [])
    longer = once_from-append (λ _. false) ss (s ∷ []) ∙ sym (λ i. once ss ++ once_from (same i) (s ∷ []))

    follows-more : (left : List (Step I)) → once (ss ++ s ∷ []) ≡ left → follows l'.rest left → HasFollowed follows l' (ss ++ s ∷ [])
    follows-more left e f = record {
      rest = subst (follows l'.rest) (sym e) f;
      delivered = λ k. delivered k ∙ ((λ i. delivered_after (same i) s k) ∙ ap (λ (f : ℕ → Bool). f k) (sym (delivered_from-append (λ _. false) ss (s ∷ []))));
    }

    pub follows-repeat : is_repeat (λ k. set.contains l.delivered k) s ≡ true → l'.rest ≡ l.rest → HasFollowed follows l' (ss ++ s ∷ [])
    follows-repeat again e =
        follows-more (once ss) (longer ∙ left-by (is_repeat (λ k. set.contains l.delivered k) s) s (once ss) again) (subst (λ (f : F). follows f (once ss)) (sym e) had.rest)

    pub follows-first : is_repeat (λ k. set.contains l.delivered k) s ≡ false → follows l'.rest (once ss ++ s ∷ []) → HasFollowed follows l' (ss ++ s ∷ [])
    follows-first first f = follows-more (once ss ++ s ∷ []) (longer ∙ kept-by (is_repeat (λ k. set.contains l.delivered k) s) s (once ss) first) f
