-- A run of retrying handlers on a network that loses packets is explained by its image: a run of the handlers within on one that
-- copies packets.
use Rattle.std.specs.Prelude.{◌≡◌, ℕ, zero, suc, Bool, false, List, [], ◌∷◌, ◌++◌, length, None, option_map, refl}
use Rattle.std.proofs.Common.{ap, sym, subst, ◌∙◌}
use Rattle.std.proofs.lemmas.Option.{none-some}
use Rattle.vst_base.specs.declared.net.Net.TheVariants as net
use Rattle.vst_base.specs.declared.step.Step.{Step}
use Rattle.handler_trait.specs.Handling.{Meaning}
use Rattle.net_semantics.specs.Worlds.{first_world}
use Rattle.net_semantics.specs.Steps.{next, refusal_of}
use Rattle.net_semantics.specs.Runs.{IsAllowed, no_recovery, first_refused_from, trace_from, run_from, run}
use Rattle.net_semantics.specs.RunLaws.{place_and_why-none, later, run_from-append, trace_from-append, first_refused_from-append}
use Rattle.net_semantics.specs.Once.{delivered_from}
use Rattle.net_semantics.specs.OnceLaws.{delivered_from-append}
use Rattle.retry_xform.specs.Retransmission.{retrying}
use Rattle.retry_xform.specs.Image.{image_step, image_from, retried_image, IsDeliveredOrKept}
use Rattle.retry_xform.proofs.Following.{Upper, Lower, Mirrors, FollowedBy, follow}

later-none : (n : ℕ) → later n None ≡ None
later-none zero = refl
later-none (suc n) = ap (option_map _) (later-none n)

module _ {S I O M : Type 0} (m : Meaning S I O M) where
  pub record Explains (delivered : ℕ → Bool) (w' : Upper S M) (w : Lower S M) (ss image : List (Step I)) : Type 0 where
    pub allowed : first_refused_from net.Dup m no_recovery w image ≡ None
    pub items : trace_from (retrying m) no_recovery w' ss ≡ trace_from m no_recovery w image
    pub mirrors : Mirrors m (delivered_from delivered image) (run_from (retrying m) no_recovery w' ss) (run_from m no_recovery w image)

  -- a step, and then the rest
  join : (delivered : ℕ → Bool) (w' : Upper S M) (w : Lower S M) (s : Step I) (ss first rest : List (Step I)) → FollowedBy m delivered w' w s first
      → Explains (delivered_from delivered first) (next (retrying m) no_recovery w' s) (run_from m no_recovery w first) ss rest → Explains delivered w' w (s ∷ ss) (first ++ rest)
  join delivered w' w s ss first rest f r = record {
    allowed = first_refused_from-append m no_recovery net.Dup w first rest f.allowed ∙ (ap (later (length first)) r.allowed ∙ later-none (length first));
    items = (λ i. f.items i ++ r.items i) ∙ sym (trace_from-append m no_recovery w first rest);
    mirrors = subst (λ (e : (ℕ → Bool) × Lower S M). Mirrors m e.0 (run_from (retrying m) no_recovery (next (retrying m) no_recovery w' s) ss) e.1)
        (λ i. (sym (delivered_from-append delivered first rest) i, sym (run_from-append m no_recovery w first rest) i)) r.mirrors;
  }

  pub explained : (ss : List (Step I)) (delivered : ℕ → Bool) (w' : Upper S M) (w : Lower S M) → Mirrors m delivered w' w → first_refused_from net.Loss (retrying m) no_recovery w' ss ≡ None → Explains delivered w' w ss (image_from m w' ss)
  explained [] delivered w' w h allowed = record { allowed = refl; items = refl; mirrors = h }
  explained (s ∷ ss) delivered w' w h allowed =
      let both = place_and_why-none (refusal_of net.Loss (retrying m) w' s) _ allowed in
      let f = follow m delivered w' w h s both.0 in
      let rest = explained ss (delivered_from delivered (image_step w' s)) (next (retrying m) no_recovery w' s) (run_from m no_recovery w (image_step w' s)) f.mirrors both.1 in
      join delivered w' w s ss (image_step w' s) (image_from m (next (retrying m) no_recovery w' s) ss) f rest

  at-first : Mirrors m (λ _. false) (first_world (retrying m)) (first_world m)
  at-first = record {
    up' = λ n. refl;
    up = λ n. refl;
    tied = record {
      named = refl;
      states = λ n. refl;
      counted = refl;
      carried = tt;
      kept = λ n. tt;
      known = λ a y j at. absurd (none-some j at);
      settled = λ j q at. absurd (none-some q at);
    };
  }

  pub run-explained : (ss : List (Step I)) → IsAllowed net.Loss (retrying m) no_recovery ss → Explains (λ _. false) (first_world (retrying m)) (first_world m) ss (retried_image m ss)
  run-explained ss allowed = explained ss (λ _. false) (first_world (retrying m)) (first_world m) at-first allowed

  pub nothing-lost : (ss : List (Step I)) → IsAllowed net.Loss (retrying m) no_recovery ss → IsDeliveredOrKept (retried_image m ss) (run (retrying m) no_recovery ss) (run m no_recovery (retried_image m ss))
  nothing-lost ss allowed = (run-explained ss allowed).mirrors.tied.settled
