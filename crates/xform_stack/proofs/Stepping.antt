-- A world takes a step, and what observes it goes on.
use Rattle.std.specs.Prelude.{◌≡◌, ℕ, ◌+◌, drop, List, [], ◌∷◌, ◌++◌, length, Result, Ok, Err, OnOk, refl}
use Rattle.std.proofs.Common.{ap, sym, subst, ◌∙◌}
use Rattle.std.proofs.Math.Seq.{drop-append_seam}
use Rattle.std.proofs.lemmas.List.{append-nil}
use Rattle.handler_trait.specs.Facts.{HandlersFacts, RebootableFacts, promises_of, reboot_promises_of}
use Rattle.handler_trait.specs.Handling.{Meaning, Recovery}
use Rattle.net_semantics.specs.RunLaws.{run_from-append, trace_from-append}
use Rattle.net_semantics.specs.Runs.{no_recovery, run, trace}
use Rattle.net_semantics.specs.Shown.{ForShown, IsSoundBy, ShowsBy, WorldView}
use Rattle.net_semantics.specs.ShownFail.{FailView, ForShownFail, IsSoundFailBy, ShowsFailBy}
use Rattle.net_semantics.specs.ShownLaws.{shows-forget, shows_fail-forget, sound-forget, sound_fail-forget}
use Rattle.net_semantics.specs.Steps.{IsAnswer, items_of, next, refusal_of}
use Rattle.net_semantics.specs.Worlds.{first_world}
use Rattle.net_semantics.specs.declared.fault.StepFault.{StepFault}
use Rattle.vst_base.specs.declared.net.Net.TheVariants as net
use Rattle.vst_base.specs.declared.step.Item.{Item}
use Rattle.vst_base.specs.declared.step.Step.{Step}
use Rattle.xform_stack.specs.Following.{HasFollowed, HasFollowedFail, IsShown, IsShownFail, failing}
use Rattle.xform_stack.specs.Running.{HasRun, HasTaken, Progress}
use Rattle.xform_stack.specs.RunViews.{RunView}
use Rattle.xform_stack.specs.Systems.{System, played_on, system_of, world_of}
use Rattle.xform_stack.proofs.More.{has_taken-more, traced-more}

module _ {H S I O M : Type 0} (f : HandlersFacts H S I O M) (v u : WorldView H S I O M) where
  abbrev pub SteadyTaken : WorldView H S I O M → List (Step I) → Type 0
  SteadyTaken w ss = HasTaken (system_of v.net (f.meaning v.handlers)) (λ x xs. HasFollowed f x xs) (λ x. record { trace = x.trace; taken = x.taken }) ss w

  pub steady-next : (s : Step I) (r : Result (Unit {0}) StepFault)
      → ForShown f v (λ w. IsAnswer r (refusal_of v.net (f.meaning v.handlers) w s))
      → OnOk r (ForShown f v (λ w. ShowsBy f u (next (f.meaning v.handlers) no_recovery w s)))
      → OnOk r (u.taken ≡ v.taken + 1) → u.handlers ≡ v.handlers
      → OnOk r ((ss : List (Step I)) → SteadyTaken v ss → SteadyTaken u (ss ++ s ∷ []))
  steady-next s (Err x) refused shows counted same = tt
  steady-next s (Ok x) refused shows counted same = λ ss had.
      let m = f.meaning v.handlers in
      let sys = system_of v.net m in
      let shown : ShowsBy f u (run m no_recovery (ss ++ s ∷ [])) = rw (run_from-append m no_recovery (first_world {K = S} m) ss (s ∷ [])) (shows (run m no_recovery ss) had.followed) in
      has_taken-more sys (λ x xs. HasFollowed f x xs) (λ x. record { trace = x.trace; taken = x.taken }) ss s v u had (refused (run m no_recovery ss) had.followed) counted
      (subst (λ h. ShowsBy f u (run (f.meaning h) no_recovery (ss ++ s ∷ []))) (sym same) shown)

  pub steady-sound : (s : Step I) (r : Result (Unit {0}) StepFault)
      → OnOk r (ForShown f v (λ w. ShowsBy f u (next (f.meaning v.handlers) no_recovery w s)))
      → OnOk r (IsSoundBy f u) → IsShown f v → OnOk r (IsShown f u)
  steady-sound s (Err x) shows sound had = tt
  steady-sound s (Ok x) shows sound had = record { sound = sound; shown = next (f.meaning v.handlers) no_recovery had.shown s; shows = shows had.shown had.shows }

  pub steady-forget : u ≡ record v { trace = [] } → IsShown f v → IsShown f u
  steady-forget e had = subst (IsShown f) (sym e) (record {
    sound = sound-forget (promises_of f v.handlers) v (record v { trace = [] }) refl had.sound;
    shown = had.shown;
    shows = shows-forget (f.meaning v.handlers).nodes v (record v { trace = [] }) had.shown refl had.shows;
  })

module _ {H S K I O M : Type 0} (f : RebootableFacts H S K I O M) (v u : FailView H S K I O M) where
  abbrev pub FailTaken : FailView H S K I O M → List (Step I) → Type 0
  FailTaken w ss = HasTaken (failing f v.handlers) (λ x xs. HasFollowedFail f x xs) (λ x. record { trace = x.trace; taken = x.taken }) ss w

  pub fail-next : (s : Step I) (r : Result (Unit {0}) StepFault)
      → ForShownFail f v (λ w. IsAnswer r (refusal_of net.Fail (f.meaning v.handlers) w s))
      → OnOk r (ForShownFail f v (λ w. ShowsFailBy f u (next (f.meaning v.handlers) (f.recovery v.handlers) w s)))
      → OnOk r (u.taken ≡ v.taken + 1) → u.handlers ≡ v.handlers
      → OnOk r ((ss : List (Step I)) → FailTaken v ss → FailTaken u (ss ++ s ∷ []))
  fail-next s (Err x) refused shows counted same = tt
  fail-next s (Ok x) refused shows counted same = λ ss had.
      let m = f.meaning v.handlers in
      let k = f.recovery v.handlers in
      let shown : ShowsFailBy f u (run m k (ss ++ s ∷ [])) = rw (run_from-append m k (first_world m) ss (s ∷ [])) (shows (run m k ss) had.followed) in
      has_taken-more (failing f v.handlers) (λ x xs. HasFollowedFail f x xs) (λ x. record { trace = x.trace; taken = x.taken }) ss s v u had (refused (run m k ss) had.followed) counted
      (subst (λ h. ShowsFailBy f u (run (f.meaning h) (f.recovery h) (ss ++ s ∷ []))) (sym same) shown)

  pub fail-sound : (s : Step I) (r : Result (Unit {0}) StepFault)
      → OnOk r (ForShownFail f v (λ w. ShowsFailBy f u (next (f.meaning v.handlers) (f.recovery v.handlers) w s)))
      → OnOk r (IsSoundFailBy f u) → IsShownFail f v → OnOk r (IsShownFail f u)
  fail-sound s (Err x) shows sound had = tt
  fail-sound s (Ok x) shows sound had =
      record { sound = sound; shown = next (f.meaning v.handlers) (f.recovery v.handlers) had.shown s; shows = shows had.shown had.shows }

  pub fail-forget : u ≡ record v { trace = [] } → IsShownFail f v → IsShownFail f u
  fail-forget e had = subst (IsShownFail f) (sym e) (record {
    sound = sound_fail-forget (reboot_promises_of f v.handlers) v (record v { trace = [] }) refl had.sound;
    shown = had.shown;
    shows = shows_fail-forget (f.meaning v.handlers).nodes v (record v { trace = [] }) had.shown refl had.shows;
  })

-- a map has taken one more step, and seen what clients saw of it
pub mapped-more : {T S K I O M : Type 0} (follows : T → List (Step I) → List (Item I O) → Type 0) (m m' : Meaning S I O M) (k : Recovery S K) → m' ≡ m
    → (old mid new : T) (ss : List (Step I)) (s : Step I) (seen : List (Item I O))
    → ((xs : List (Step I)) (items : List (Item I O)) → follows old xs items → follows mid (xs ++ s ∷ []) items)
    → ((xs : List (Step I)) (items : List (Item I O)) → follows mid xs items → follows new xs (items ++ seen))
    → follows old ss (trace m k ss) → seen ≡ items_of m' (run m' k ss) s → follows new (ss ++ s ∷ []) (trace m k (ss ++ s ∷ []))
mapped-more follows m m' k same old mid new ss s seen take see had is =
    let items = items_of m (run m k ss) s in
    let saw : seen ≡ items = is ∙ ap (λ x. items_of x (run x k ss) s) same in
    let longer : trace m k (ss ++ s ∷ []) ≡ trace m k ss ++ items = trace_from-append m k (first_world m) ss (s ∷ []) ∙ ap (λ xs. trace m k ss ++ xs) (append-nil items) in
    subst (λ xs. follows new (ss ++ s ∷ []) xs) (ap (λ xs. trace m k ss ++ xs) saw ∙ sym longer) (see (ss ++ s ∷ []) (trace m k ss) (take ss (trace m k ss) had))

module _ {W F L H S K I O M G : Type 0} (within : W → H) (system : W → System S K I O M) (follows : W → List (Step I) → Type 0) (progress : W → Progress I O)
    (has_followed : F → H → Recovery S K → List (Step I) → Type 0) (has_looked : L → H → Recovery S K → List (Step I) → Step I → Type 0) (image : List (Step I) → List G) where
  abbrev pub RunsOn : System S K I O M → List (Step I) → List (Item I O) → RunView W F → Type 0
  RunsOn sys ss gone r =
      HasRun (played_on sys image) (λ x xs. follows x.network xs × has_followed x.image (within x.network) (system x.network).recovery xs) (λ x. progress x.network) ss gone r

  pub taken_of : (w : W) (x : F) (ss : List (Step I)) (gone : List (Item I O)) → RunsOn (system w) ss gone (record { network = w; image = x }) → HasTaken (system w) follows progress ss w
  taken_of w x ss gone had = record { followed = had.followed.0; allowed = had.allowed; counted = had.counted }

  -- what observes a step, in this system
  abbrev pub Goes : F → F → L → W → Step I → ℕ → System S K I O M → H → Type 0
  Goes x y look new s before sys h =
      (ss : List (Step I)) → has_followed x h sys.recovery ss → has_looked look h sys.recovery ss s → HasTaken sys follows progress (ss ++ s ∷ []) new
      → drop before (progress new).trace ≡ items_of sys.meaning (world_of sys ss) s → has_followed y h sys.recovery (ss ++ s ∷ [])

  pub running-more : (old new : W) (x y : F) (look : L) (s : Step I) (before : ℕ) → system new ≡ system old → within new ≡ within old → before ≡ length (progress old).trace
      → ((ss : List (Step I)) → HasTaken (system old) follows progress ss old → has_followed x (within old) (system old).recovery ss → has_looked look (within old) (system old).recovery ss s)
      → ((ss : List (Step I)) → HasTaken (system old) follows progress ss old → HasTaken (system old) follows progress (ss ++ s ∷ []) new)
      → ((ss : List (Step I)) → HasTaken (system old) follows progress ss old → (progress new).trace ≡ (progress old).trace ++ items_of (system old).meaning (world_of (system old) ss) s)
      → Goes x y look new s before (system new) (within new)
      → (ss : List (Step I)) (gone : List (Item I O)) → RunsOn (system old) ss gone (record { network = old; image = x }) → RunsOn (system old) (ss ++ s ∷ []) gone (record { network = new; image = y })
  running-more old new x y look s before same same_within count looks steps traces goes ss gone had =
      let sys = system old in
      let items = items_of sys.meaning (world_of sys ss) s in
      let taken = taken_of old x ss gone had in
      let now = steps ss taken in
      let is = traces ss taken in
      let seen : drop before (progress new).trace ≡ items = ap (λ xs. drop before xs) is ∙ (ap (λ k. drop k ((progress old).trace ++ items)) count ∙ drop-append_seam (progress old).trace items) in
      let going : Goes x y look new s before sys (within old) = subst (λ z. Goes x y look new s before z (within old)) same (subst (Goes x y look new s before (system new)) same_within goes) in
      let followed : has_followed y (within old) sys.recovery (ss ++ s ∷ []) = going ss had.followed.1 (looks ss taken had.followed.1) now seen in
      record {
        followed = (now.followed, subst (λ h. has_followed y h (system new).recovery (ss ++ s ∷ [])) (sym same_within) (subst (λ z. has_followed y (within old) z.recovery (ss ++ s ∷ [])) (sym same) followed));
        traced = traced-more sys ss s gone (progress old).trace (progress new).trace had.traced is;
        allowed = now.allowed;
        counted = now.counted;
      }
