-- A schedule that is taken a step at a time, and the step of it that is refused.
use Rattle.std.specs.Prelude.{◌≡◌, ℕ, zero, suc, ◌+◌, ◌<◌, List, [], ◌∷◌, ◌++◌, length, take, drop, Some, None, option_map, refl}
use Rattle.std.proofs.Common.{ap, ◌∙◌, sym, arith, get_or, length-take, take-append-drop}
use Rattle.std.proofs.lemmas.List.{append-nil, take_more}
use Rattle.vst_base.specs.declared.step.Step.{Step}
use Rattle.vst_base.specs.declared.step.StepRefusal.{StepRefusal}
use Rattle.net_semantics.specs.RunLaws.{first_refused_from-append, later, place_and_why-first, trace_from-append}
use Rattle.net_semantics.specs.Runs.{first_refused, trace}
use Rattle.net_semantics.specs.Steps.{items_of, refusal_of}
use Rattle.net_semantics.specs.Worlds.{first_world}
use Rattle.xform_stack.specs.Running.{HasTaken, Progress}
use Rattle.xform_stack.specs.Systems.{System, world_of}
use Rattle.claim_verdicts.proofs.WrongPlaces.{from-place}

later-first : (n : ℕ) (why : StepRefusal) → later n (Some (0, why)) ≡ Some (n, why)
later-first zero why = refl
later-first (suc n) why = ap (λ o. option_map (λ (p : ℕ × StepRefusal). (suc p.0, p.1)) o) (later-first n why)

module _ {S K I O M : Type 0} (sys : System S K I O M) (xs : List (Step I)) (i : ℕ) (x : Step I) (within : i < length xs) (at : x ≡ get_or xs i x) where
  -- the steps up to this one
  pub up-to : take (i + 1) xs ≡ take i xs ++ x ∷ []
  up-to = take_more xs i x within ∙ ap (λ y. take i xs ++ y ∷ []) (sym at)

  -- what clients see of them
  pub sees-more : trace sys.meaning sys.recovery (take i xs) ++ items_of sys.meaning (world_of sys (take i xs)) x ≡ trace sys.meaning sys.recovery (take (i + 1) xs)
  sees-more =
      let m = sys.meaning in
      let before = take i xs in
      let seen = items_of m (world_of sys before) x in
      sym (ap (trace m sys.recovery) up-to
      ∙ (trace_from-append m sys.recovery (first_world m) before (x ∷ []) ∙ ap (λ ys. trace m sys.recovery before ++ ys) (append-nil seen)))

  -- where it is refused, and none before it, it is the first
  pub refused-at : (why : StepRefusal) → first_refused sys.net sys.meaning sys.recovery (take i xs) ≡ None
      → refusal_of sys.net sys.meaning (world_of sys (take i xs)) x ≡ Some why → first_refused sys.net sys.meaning sys.recovery xs ≡ Some (i, why)
  refused-at why allowed refused =
      let m = sys.meaning in
      let before = take i xs in
      ap (first_refused sys.net m sys.recovery) (sym (take-append-drop i xs) ∙ ap (λ ys. before ++ ys) (from-place xs i x within at))
      ∙ (first_refused_from-append m sys.recovery sys.net (first_world m) before (x ∷ drop (i + 1) xs) allowed
      ∙ (ap (later (length before)) (place_and_why-first (refusal_of sys.net m (world_of sys before) x) _ why refused)
      ∙ (later-first (length before) why ∙ ap (λ n. Some (n, why)) (length-take i xs ∙ omega (arith, within)))))

-- what clients saw may be cleared
pub taken-cleared : {W S K I O M : Type 0} (sys : System S K I O M) (follows : W → List (Step I) → Type 0) (progress : W → Progress I O)
    (ss : List (Step I)) (w v : W) → HasTaken sys follows progress ss w
    → progress v ≡ record (progress w) { trace = [] } → ((ts : List (Step I)) → follows w ts → follows v ts)
    → HasTaken sys follows progress ss v
taken-cleared {I = I} {O = O} sys follows progress ss w v had is stays = record {
  followed = stays ss had.followed;
  allowed = had.allowed;
  counted = ap (λ (p : Progress I O). p.taken) is ∙ had.counted;
}
