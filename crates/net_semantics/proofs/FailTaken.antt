-- What each kind of step makes of what a `FailWorld` shows, from what its parts do.
use Rattle.std.proofs.Common.{◌≡◌, ◌≢◌, ℕ, ◌+◌, ◌<◌, List, ◌++◌, length, Option, Some, None, Result, Ok, Err, Bool, true, false, refl, ap, sym, ◌∙◌, subst, arith, inl, inr}
use Rattle.std.proofs.lemmas.List.{append-nil}
use Rattle.std.specs.Prelude.{nat_lt, is_none, slice_get, IfSome, IfErr, OnOk, if◌then◌else◌}
use Rattle.std.proofs.lemmas.Bool.{cases_eq, lt-ltb, ltb-true, false≢true}
use Rattle.handler_trait.specs.Facts.{RebootPromises}
use Rattle.vst_base.specs.declared.net.Net.TheVariants as net
use Rattle.vst_base.specs.declared.step.Step.{Step}
use Rattle.vst_base.specs.declared.step.Step.TheVariants as step
use Rattle.vst_base.specs.declared.step.TheConstants.{MAX_STEPS}
use Rattle.vst_base.specs.declared.step.StepRefusal.{StepRefusal}
use Rattle.vst_base.specs.declared.step.StepRefusal.TheVariants as refusal
use Rattle.net_semantics.specs.declared.fault.StepFault.{StepFault}
use Rattle.net_semantics.specs.declared.fault.StepFault.TheVariants as fault
use Rattle.vst_base.specs.Nets.{has_kind, keeps_order, kind_of}
use Rattle.net_semantics.specs.Worlds.{World, put, change_at}
use Rattle.net_semantics.specs.Steps.{next, refusal_of, items_of, acting, fails, rebooted, IsAnswer}
use Rattle.net_semantics.specs.Runs.{no_recovery}
use Rattle.net_semantics.specs.Shown.{WorldView, Shows, IsSound, IsSoundState}
use Rattle.net_semantics.specs.ShownFail.{ShowsFail, IsSoundFail, kept_at}
use Rattle.net_semantics.specs.Taking.{GrowsBy}
use Rattle.net_semantics.specs.TakingFail.{AnswersFail, TakesFail}
use Rattle.net_semantics.proofs.Places.{put-there, put-elsewhere, length-change_at, change_at-there, change_at-elsewhere}
use Rattle.net_semantics.proofs.Showing.{with_states}
use Rattle.net_semantics.proofs.Taken.{sound_quiet, each_state_later, each_later}
use Rattle.net_semantics.proofs.FailShowing.{fail_view, all_up, shows_up, sound_up, sound_fail, put_kept, each_kept, still_nothing, refused_up, items_up, shows_next}
use Rattle.lists.specs.Options.{some_holds}
use Rattle.lists.specs.Places.{slice_get_there}

-- a node that a step names exists, and is that number
exists_where : (b : Bool) (n node : ℕ) (found : Result ℕ StepRefusal) → found ≡ Ok node → found ≡ (if b then Ok n else Err refusal.NoSuchNode) → (node ≡ n) × (b ≡ true)
exists_where true n node found is e = (cc, refl)
exists_where false n node found is e = cc

pub exists_node : (n nodes node : ℕ) (found : Result ℕ StepRefusal) → found ≡ Ok node → found ≡ (if nat_lt n nodes then Ok n else Err refusal.NoSuchNode) → (node ≡ n) × (node < nodes)
exists_node n nodes node found is e =
    let both = exists_where (nat_lt n nodes) n node found is e in
    (both.0, subst (λ j. j < nodes) (sym both.0) (ltb-true n nodes both.1))

-- the states that are shown, where one node starts again
states_put : {S : Type 0} (f : ℕ → S) (xs : List S) (nodes n : ℕ) (s : S) → n < length xs → ((j : ℕ) → j < nodes → slice_get xs j ≡ Some (f j)) → (j : ℕ) → j < nodes → slice_get (change_at (λ _. s) n xs) j ≡ Some (put f n s j)
states_put f xs nodes n s lt h j below = elim (cases_eq j n) [
  | inl e ↦ ap (slice_get (change_at (λ _. s) n xs)) e ∙ ((let there = slice_get_there xs n lt in change_at-there (λ _. s) xs n there.0 there.1) ∙ ap (λ x. Some x) (sym (put-there f n s j e)))
  | inr ne ↦ change_at-elsewhere (λ _. s) xs n j ne ∙ (h j below ∙ ap (λ x. Some x) (sym (put-elsewhere f n s j ne)))
]

states_sound_put : {S : Type 0} (P : ℕ → S → Type 0) (xs : List S) (n : ℕ) (s : S) → n < length xs → P n s → ((j : ℕ) → IfSome (slice_get xs j) (P j)) → (j : ℕ) → IfSome (slice_get (change_at (λ _. s) n xs) j) (P j)
states_sound_put P xs n s lt p h j = elim (cases_eq j n) [
  | inl e ↦ subst (λ i. IfSome (slice_get (change_at (λ _. s) n xs) i) (P i)) (sym e) (some_holds (P n) (slice_get (change_at (λ _. s) n xs) n) s (let there = slice_get_there xs n lt in change_at-there (λ _. s) xs n there.0 there.1) p)
  | inr ne ↦ subst (λ o. IfSome o (P j)) (sym (change_at-elsewhere (λ _. s) xs n j ne)) (h j)
]

same_state : {S : Type 0} (a b : S) (o : Option S) → o ≡ Some a → o ≡ Some b → a ≡ b
same_state a b o e f = cc

-- what is shown after a step that changes nothing but which nodes are down
abbrev pub counted : {H S I O M : Type 0} → WorldView H S I O M → WorldView H S I O M
counted u = record u { taken = u.taken + 1 }

module _ {H S K I O M : Type 0} (f : RebootPromises S K I O M) where
  -- a step that the world takes on which this one stands, where the node that acts is up
  module _ {A : Type 0} (u u2 : WorldView H S I O M) (kept : List (Option K)) (s : Step I) (has : has_kind net.Loss (kind_of s) ≡ true) (loss : u.net ≡ net.Loss)
      (was : IsSoundFail f (fail_view u kept)) (up : (w : World S K M) → ShowsFail f.handlers.meaning.nodes (fail_view u kept) w → fails (acting w s) w.is_up ≡ false) (handlers : u2.handlers ≡ u.handlers) where
    refused_shared : (answer : Result A StepFault) → ((w : World S S M) → Shows f.handlers.meaning.nodes u w → IsAnswer answer (refusal_of u.net f.handlers.meaning w s)) → (w : World S K M) → ShowsFail f.handlers.meaning.nodes (fail_view u kept) w → IsAnswer answer (refusal_of net.Fail f.handlers.meaning w s)
    refused_shared answer refused w sh = subst (IsAnswer answer) (ap (λ n. refusal_of n f.handlers.meaning (all_up w) s) loss ∙ sym (refused_up f.handlers.meaning w s has (up w sh))) (refused (all_up w) (shows_up f.handlers.meaning.nodes u kept w sh))

    pub answers_shared : (answer : Result A StepFault)
        → ((w : World S S M) → Shows f.handlers.meaning.nodes u w → IsAnswer answer (refusal_of u.net f.handlers.meaning w s))
        → IfErr answer (λ why. why ≢ fault.Memory → u2 ≡ u)
        → OnOk answer ((w : World S S M) → Shows f.handlers.meaning.nodes u w → Shows f.handlers.meaning.nodes u2 (next f.handlers.meaning no_recovery w s))
        → OnOk answer ((w : World S S M) → Shows f.handlers.meaning.nodes u w → u2.trace ≡ u.trace ++ items_of f.handlers.meaning w s)
        → OnOk answer (GrowsBy (length u.trace) (length u2.trace))
        → OnOk answer (u2.taken ≡ u.taken + 1)
        → OnOk answer (IsSound f.handlers u2)
        → AnswersFail f s (fail_view u kept) (fail_view u2 kept) answer
    answers_shared (Ok x) refused unchanged leads sees grows counts keeps = record {
      refused = refused_shared (Ok x) refused;
      unchanged = tt;
      taken = record {
        leads = λ w sh. shows_next f.handlers.meaning f.recovery f.handlers.meaning.nodes u2 kept w s has sh.kept sh.up (leads (all_up w) (shows_up f.handlers.meaning.nodes u kept w sh));
        sees = λ w sh. sees (all_up w) (shows_up f.handlers.meaning.nodes u kept w sh) ∙ ap (λ xs. u.trace ++ xs) (sym (items_up f.handlers.meaning w s));
        grows = grows;
        counts = counts;
        keeps = sound_fail f u2 kept keeps was.nodes was.stopped;
      };
      same_handlers = handlers;
    }
    answers_shared (Err why) refused unchanged leads sees grows counts keeps = record {
      refused = refused_shared (Err why) refused;
      unchanged = λ ne. ap (λ x. fail_view x kept) (unchanged ne);
      taken = tt;
      same_handlers = handlers;
    }

  module _ (u : WorldView H S I O M) (kept : List (Option K)) (loss : u.net ≡ net.Loss) (was : IsSoundFail f (fail_view u kept)) where
    -- this network keeps no order
    no_order : {A : Type 0} → keeps_order u.net ≡ true → A
    no_order keeps = absurd (false≢true (subst (λ n. keeps_order n ≡ true) loss keeps))

    -- a node stops
    module _ (n : ℕ) (below : n < f.handlers.meaning.nodes) (k : K) (s : S) (stood : slice_get u.states n ≡ Some s) (keeps : k ≡ f.recovery.keep s) (fit : f.fits k) (few : u.taken < MAX_STEPS) where
      takes_crash : TakesFail f (step.Crash n) (fail_view u kept) (fail_view (counted u) (change_at (λ _. Some k) n kept))
      takes_crash =
          let held : n < length kept = subst (λ l. n < l) (sym was.nodes) below in
          let all = sound_up f u kept loss was in
          record {
            leads = λ w sh. record {
              states = sh.states;
              kept = λ j. ap (λ x. put w.kept n (Some (f.recovery.keep x)) j) (same_state (w.state n) s (slice_get u.states n) (sh.states n below) stood) ∙ (ap (λ x. put w.kept n (Some x) j) (sym keeps) ∙ put_kept (λ x. x) w.kept kept n (Some k) held sh.kept j);
              up = put_kept is_none w.is_up kept n (Some k) held sh.up;
              packets = sh.packets;
            };
            sees = λ w sh. sym (append-nil u.trace);
            grows = record { least = omega arith; most = omega arith };
            counts = refl;
            keeps = sound_fail f (counted u) (change_at (λ _. Some k) n kept)
                (sound_quiet f.handlers u (counted u) all few refl refl (each_state_later f.handlers u (counted u) all (omega arith) refl) refl (each_later f.handlers.meaning.nodes u.taken (u.taken + 1) (omega arith) u.packets all.packets) no_order)
                (length-change_at (λ _. Some k) kept n ∙ was.nodes)
                (each_kept f.fits kept n (Some k) held fit was.stopped);
          }

      pub answers_crash : {A : Type 0} (x : A) (u2 : WorldView H S I O M) (kept2 : List (Option K)) → u2 ≡ counted u → kept2 ≡ change_at (λ _. Some k) n kept → ((w : World S K M) → ShowsFail f.handlers.meaning.nodes (fail_view u kept) w → w.is_up n ≡ true)
          → AnswersFail f (step.Crash n) (fail_view u kept) (fail_view u2 kept2) (Ok x)
      answers_crash x u2 kept2 e e2 up = record {
        refused = λ w sh. let t : w.is_up n ≡ true = up w sh in let l : nat_lt n f.handlers.meaning.nodes ≡ true = lt-ltb n f.handlers.meaning.nodes below in rw (l, t) refl;
        unchanged = tt;
        taken = subst (λ v. TakesFail f (step.Crash n) (fail_view u kept) (fail_view v kept2)) (sym e) (subst (λ ks. TakesFail f (step.Crash n) (fail_view u kept) (fail_view (counted u) ks)) (sym e2) takes_crash);
        same_handlers = ap (λ v. v.handlers) e;
      }

    -- a node starts again
    module _ (n : ℕ) (below : n < f.handlers.meaning.nodes) where
      module _ (k : K) (s : S) (stopped : kept_at (slice_get kept n) ≡ Some k) (starts : s ≡ f.recovery.reboot n k) (ok : f.handlers.sound n s) (fresh : f.handlers.spent s ≡ 0) (few : u.taken < MAX_STEPS) where
        abbrev started : WorldView H S I O M
        started = with_states u (change_at (λ _. s) n u.states)

        takes_reboot : TakesFail f (step.Reboot n) (fail_view u kept) (fail_view started (change_at (λ _. None) n kept))
        takes_reboot =
            let held : n < length kept = subst (λ l. n < l) (sym was.nodes) below in
            let all = sound_up f u kept loss was in
            let stands : n < length u.states = subst (λ l. n < l) (sym all.nodes) below in
            record {
              leads = λ w sh. subst (λ o. ShowsFail f.handlers.meaning.nodes (fail_view started (change_at (λ _. None) n kept)) (rebooted f.recovery w n o)) (sym (sh.kept n ∙ stopped)) (record {
                states = λ j lt. states_put w.state u.states f.handlers.meaning.nodes n s stands sh.states j lt ∙ ap (λ x. Some (put w.state n x j)) starts;
                kept = put_kept (λ x. x) w.kept kept n None held sh.kept;
                up = put_kept is_none w.is_up kept n None held sh.up;
                packets = sh.packets;
              });
              sees = λ w sh. sym (append-nil u.trace);
              grows = record { least = omega arith; most = omega arith };
              counts = refl;
              keeps = sound_fail f started (change_at (λ _. None) n kept)
                  (sound_quiet f.handlers u started all few refl (length-change_at (λ _. s) u.states n)
                  (states_sound_put (λ j. IsSoundState (f.handlers.sound j) f.handlers.spent (u.taken + 1)) u.states n s stands (record { keeps = ok; little = omega arith }) (each_state_later f.handlers u (counted u) all (omega arith) refl))
                  refl (each_later f.handlers.meaning.nodes u.taken (u.taken + 1) (omega arith) u.packets all.packets) no_order)
                  (length-change_at (λ _. None) kept n ∙ was.nodes)
                  (each_kept f.fits kept n None held tt was.stopped);
            }

        pub answers_reboot : {A : Type 0} (x : A) (u2 : WorldView H S I O M) (kept2 : List (Option K)) → u2 ≡ started → kept2 ≡ change_at (λ _. None) n kept
            → AnswersFail f (step.Reboot n) (fail_view u kept) (fail_view u2 kept2) (Ok x)
        answers_reboot x u2 kept2 e e2 = record {
          refused = λ w sh. let down : w.is_up n ≡ false = sh.up n ∙ ap is_none stopped in let l : nat_lt n f.handlers.meaning.nodes ≡ true = lt-ltb n f.handlers.meaning.nodes below in rw (l, down) refl;
          unchanged = tt;
          taken = subst (λ v. TakesFail f (step.Reboot n) (fail_view u kept) (fail_view v kept2)) (sym e) (subst (λ ks. TakesFail f (step.Reboot n) (fail_view u kept) (fail_view started ks)) (sym e2) takes_reboot);
          same_handlers = ap (λ v. v.handlers) e;
        }

      -- but not one that is up
      pub answers_reboot_up : {A : Type 0} (kept2 : List (Option K)) → kept_at (slice_get kept n) ≡ None → kept2 ≡ change_at (λ _. None) n kept
          → AnswersFail {A = A} f (step.Reboot n) (fail_view u kept) (fail_view u kept2) (Err (fault.Refused refusal.NodeUp))
      answers_reboot_up kept2 nothing e = record {
        refused = λ w sh. let t : w.is_up n ≡ true = sh.up n ∙ ap is_none nothing in let l : nat_lt n f.handlers.meaning.nodes ≡ true = lt-ltb n f.handlers.meaning.nodes below in rw (l, t) refl;
        unchanged = λ ne. ap (fail_view u) (e ∙ still_nothing kept n nothing);
        taken = tt;
        same_handlers = refl;
      }
