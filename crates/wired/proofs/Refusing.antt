-- Handlers that refuse the same after each schedule that is allowed refuse the same step first.
use Rattle.std.specs.Prelude.{◌≡◌, ℕ, zero, suc, List, [], ◌∷◌, ◌++◌, length, Option, None, Some, option_map, refl}
use Rattle.std.proofs.Common.{ap, ◌∙◌, sym, subst, append_assoc}
use Rattle.handler_trait.specs.Handling.{Meaning, Recovery}
use Rattle.net_semantics.specs.Runs.{IsAllowed, first_refused, first_refused_from, place_and_why, run}
use Rattle.net_semantics.specs.RunLaws.{first_refused_from-append, later, run_from-append}
use Rattle.net_semantics.specs.Steps.{next, refusal_of}
use Rattle.net_semantics.specs.Worlds.{first_world}
use Rattle.vst_base.specs.declared.net.Net.{Net}
use Rattle.vst_base.specs.declared.step.Step.{Step}
use Rattle.vst_base.specs.declared.step.StepRefusal.{StepRefusal}

by_first : (f2 f : Option StepRefusal) (o2 o : Option (ℕ × StepRefusal)) → f2 ≡ f → (f ≡ None → o2 ≡ o) → place_and_why f2 o2 ≡ place_and_why f o
by_first f2 None o2 o first rest = ap (λ f. place_and_why f o2) first ∙ ap (place_and_why None) (rest refl)
by_first f2 (Some why) o2 o first rest = ap (λ f. place_and_why f o2) first

none_later : (n : ℕ) (o : Option (ℕ × StepRefusal)) → o ≡ None → later n o ≡ None
none_later n o e = ap (later n) e ∙ at_none n where
  at_none : (n : ℕ) → later n None ≡ None
  at_none zero = refl
  at_none (suc n) = ap (λ o. option_map (λ (p : ℕ × StepRefusal). (suc p.0, p.1)) o) (at_none n)

module _ {S K M S2 K2 M2 I O : Type 0} (net : Net) (m2 : Meaning S2 I O M2) (r2 : Recovery S2 K2) (m : Meaning S I O M) (r : Recovery S K) (P : List (Step I) → Type 0)
    (front_too : (front rest : List (Step I)) → P (front ++ rest) → P front)
    (alike : (ss : List (Step I)) → P ss → IsAllowed net m r ss → (s : Step I) → refusal_of net m2 (run m2 r2 ss) s ≡ refusal_of net m (run m r ss) s) where
  one_more : {S K M : Type 0} (m : Meaning S I O M) (r : Recovery S K) (front : List (Step I)) (s : Step I) → run m r (front ++ s ∷ []) ≡ next m r (run m r front) s
  one_more m r front s = run_from-append m r (first_world m) front (s ∷ [])

  allowed_more : (front : List (Step I)) (s : Step I) → IsAllowed net m r front → refusal_of net m (run m r front) s ≡ None → IsAllowed net m r (front ++ s ∷ [])
  allowed_more front s allowed taken =
      first_refused_from-append m r net (first_world m) front (s ∷ []) allowed
      ∙ none_later (length front) (first_refused_from net m r (run m r front) (s ∷ [])) (ap (λ f. place_and_why f None) taken)

  refused_from : (front ss : List (Step I)) → P (front ++ ss) → IsAllowed net m r front
      → first_refused_from net m2 r2 (run m2 r2 front) ss ≡ first_refused_from net m r (run m r front) ss
  refused_from front [] holds allowed = refl
  refused_from front (s ∷ ss) holds allowed =
      let here = alike front (front_too front (s ∷ ss) holds) allowed s in
      by_first (refusal_of net m2 (run m2 r2 front) s) (refusal_of net m (run m r front) s) _ _ here
      (λ taken.
      let more = refused_from (front ++ s ∷ []) ss (subst P (sym (append_assoc front (s ∷ []) ss)) holds) (allowed_more front s allowed taken) in
      ap (λ w. first_refused_from net m2 r2 w ss) (sym (one_more m2 r2 front s)) ∙ more ∙ ap (λ w. first_refused_from net m r w ss) (one_more m r front s))

  pub same_first_refused : (ss : List (Step I)) → P ss → first_refused net m2 r2 ss ≡ first_refused net m r ss
  same_first_refused ss holds = refused_from [] ss holds refl
