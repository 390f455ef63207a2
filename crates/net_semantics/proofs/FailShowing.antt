-- What a `FailWorld` shows, by what the world shows that it stands on.
use Rattle.std.proofs.Common.{◌≡◌, ℕ, zero, suc, ◌<◌, List, [], ◌∷◌, Option, Some, None, true, false, length, refl, ap, sym, ◌∙◌, subst, inl, inr}
use Rattle.std.specs.Prelude.{slice_get, is_none, IfSome}
use Rattle.std.proofs.lemmas.Bool.{cases_eq, false≢true}
use Rattle.handler_trait.specs.Facts.{RebootPromises}
use Rattle.handler_trait.specs.Handling.{Meaning, Recovery}
use Rattle.vst_base.specs.declared.net.Net.TheVariants as net
use Rattle.vst_base.specs.declared.step.Step.{Step}
use Rattle.vst_base.specs.declared.step.StepKind.{StepKind}
use Rattle.vst_base.specs.declared.step.StepKind.TheVariants as kind
use Rattle.vst_base.specs.Nets.{StepView, AtNode, OfPacket, Stops, Starts, view_of, has_kind, keeps_order, kind_at, kind_in, kind_of, kind_of_fate}
use Rattle.net_semantics.specs.Worlds.{World, Packet, put, change_at}
use Rattle.net_semantics.specs.Steps.{acting, acts_at, after_event, copied, delivered, delivery, fails, items_in, items_of, items_of_event, next, next_in, refusal_in, refusal_of, with_packets}
use Rattle.net_semantics.specs.Runs.{no_recovery}
use Rattle.net_semantics.specs.Shown.{WorldView, Shows, IsSound}
use Rattle.net_semantics.specs.ShownFail.{FailView, ShowsFail, IsSoundFail, kept_at}
use Rattle.net_semantics.proofs.Places.{put-there, put-elsewhere, change_at-there, change_at-elsewhere}
use Rattle.lists.specs.Places.{slice_get_there}

-- what is shown where nodes have kept this
abbrev pub fail_view : {H S K I O M : Type 0} → WorldView H S I O M → List (Option K) → FailView H S K I O M
fail_view u kept = record { handlers = u.handlers; states = u.states; stopped = kept; packets = u.packets; trace = u.trace; taken = u.taken }

-- the world with its nodes up
abbrev pub all_up : {S K M : Type 0} → World S K M → World S S M
all_up w = record { state = w.state; is_up = λ _. true; kept = λ _. None; packets = w.packets }

pub shows_up : {H S K I O M : Type 0} (nodes : ℕ) (u : WorldView H S I O M) (kept : List (Option K)) (w : World S K M) → ShowsFail nodes (fail_view u kept) w → Shows nodes u (all_up w)
shows_up nodes u kept w sh = record { states = sh.states; up = λ n. refl; packets = sh.packets }

pub sound_up : {H S K I O M : Type 0} (f : RebootPromises S K I O M) (u : WorldView H S I O M) (kept : List (Option K)) → u.net ≡ net.Loss → IsSoundFail f (fail_view u kept) → IsSound f.handlers u
sound_up f u kept loss was = record {
  nodes = was.world.nodes;
  states = was.world.states;
  packets = was.world.packets;
  few_packets = was.world.few_packets;
  few_steps = was.world.few_steps;
  in_order = λ keeps. absurd (false≢true (subst (λ n. keeps_order n ≡ true) loss keeps));
}

pub sound_fail : {H S K I O M : Type 0} (f : RebootPromises S K I O M) (u : WorldView H S I O M) (kept : List (Option K)) → IsSound f.handlers u → length kept ≡ f.handlers.meaning.nodes → ((n : ℕ) → IfSome (kept_at (slice_get kept n)) f.fits) → IsSoundFail f (fail_view u kept)
sound_fail f u kept h nodes fit = record {
  world = record {
    nodes = h.nodes;
    states = h.states;
    packets = h.packets;
    few_packets = h.few_packets;
    few_steps = h.few_steps;
    in_order = λ keeps. absurd (false≢true keeps);
  };
  nodes = nodes;
  stopped = fit;
}

-- what nodes have kept, where one of them keeps something or nothing from now on
pub put_kept : {K X : Type 0} (g : Option K → X) (f : ℕ → X) (kept : List (Option K)) (n : ℕ) (o : Option K) → n < length kept → ((j : ℕ) → f j ≡ g (kept_at (slice_get kept j))) → (j : ℕ) → put f n (g o) j ≡ g (kept_at (slice_get (change_at (λ _. o) n kept) j))
put_kept g f kept n o lt h j = elim (cases_eq j n) [
  | inl e ↦ put-there f n (g o) j e ∙ ap (λ x. g (kept_at x)) (sym (ap (slice_get (change_at (λ _. o) n kept)) e ∙ (let there = slice_get_there kept n lt in change_at-there (λ _. o) kept n there.0 there.1)))
  | inr ne ↦ put-elsewhere f n (g o) j ne ∙ (h j ∙ ap (λ x. g (kept_at x)) (sym (change_at-elsewhere (λ _. o) kept n j ne)))
]

pub each_kept : {K : Type 0} (fits : K → Type 0) (kept : List (Option K)) (n : ℕ) (o : Option K) → n < length kept → IfSome o fits → ((j : ℕ) → IfSome (kept_at (slice_get kept j)) fits) → (j : ℕ) → IfSome (kept_at (slice_get (change_at (λ _. o) n kept) j)) fits
each_kept fits kept n o lt fit h j = elim (cases_eq j n) [
  | inl e ↦ subst (λ x. IfSome (kept_at x) fits) (sym (ap (slice_get (change_at (λ _. o) n kept)) e ∙ (let there = slice_get_there kept n lt in change_at-there (λ _. o) kept n there.0 there.1))) fit
  | inr ne ↦ subst (λ x. IfSome (kept_at x) fits) (sym (change_at-elsewhere (λ _. o) kept n j ne)) (h j)
]

-- a node that has kept nothing stays as it is where it keeps nothing
pub still_nothing : {K : Type 0} (kept : List (Option K)) (n : ℕ) → kept_at (slice_get kept n) ≡ None → change_at (λ _. None) n kept ≡ kept
still_nothing [] n h = refl
still_nothing (x ∷ xs) zero h = ap (λ y. y ∷ xs) (sym h)
still_nothing (x ∷ xs) (suc n) h = ap (λ ys. x ∷ ys) (still_nothing xs n h)

never_down : (o : Option ℕ) → fails o (λ _. true) ≡ false
never_down None = refl
never_down (Some n) = refl

-- the network that fails has every kind of step that one that loses has
fails_too : (k : StepKind) → has_kind net.Loss k ≡ true → has_kind net.Fail k ≡ true
fails_too kind.In has = refl
fails_too kind.Deliver has = refl
fails_too kind.Tick has = refl
fails_too kind.Dup has = refl
fails_too kind.Lose has = refl
fails_too kind.Crash has = absurd (false≢true has)
fails_too kind.Reboot has = absurd (false≢true has)

module _ {S K I O M : Type 0} (m : Meaning S I O M) where
  -- where the node that acts is up, the step is refused as if all were
  refused_up_in : (w : World S K M) (v : StepView I) → has_kind net.Loss (kind_in v) ≡ true → fails (acts_at w v) w.is_up ≡ false → refusal_in net.Fail m w v ≡ refusal_in net.Loss m (all_up w) v
  refused_up_in w (AtNode n input) has up = rw (has, fails_too (kind_at input) has, up) refl
  refused_up_in w (OfPacket k fate) has up = rw (has, fails_too (kind_of_fate fate) has, up, never_down) refl
  refused_up_in w (Stops n) has up = absurd (false≢true has)
  refused_up_in w (Starts n) has up = absurd (false≢true has)

  pub refused_up : (w : World S K M) (s : Step I) → has_kind net.Loss (kind_of s) ≡ true → fails (acting w s) w.is_up ≡ false → refusal_of net.Fail m w s ≡ refusal_of net.Loss m (all_up w) s
  refused_up w s = refused_up_in w (view_of s)

  same_delivery : (w : World S K M) (o : Option (Packet M)) → items_of_event (delivery m w o) ≡ items_of_event (delivery m (all_up w) o)
  same_delivery w None = refl
  same_delivery w (Some p) = refl

  -- and it is seen as if all were
  items_up_in : (w : World S K M) (v : StepView I) → items_in m w v ≡ items_in m (all_up w) v
  items_up_in w (AtNode n input) = refl
  items_up_in w (OfPacket k fate) = same_delivery w (delivered fate (slice_get w.packets k))
  items_up_in w (Stops n) = refl
  items_up_in w (Starts n) = refl

  pub items_up : (w : World S K M) (s : Step I) → items_of m w s ≡ items_of m (all_up w) s
  items_up w s = items_up_in w (view_of s)

module _ {H S K I O M : Type 0} (m : Meaning S I O M) where
  shows_delivery : (nodes : ℕ) (u : WorldView H S I O M) (kept : List (Option K)) (w : World S K M) (ps : List (Packet M)) (o : Option (Packet M))
      → ((n : ℕ) → w.kept n ≡ kept_at (slice_get kept n)) → ((n : ℕ) → w.is_up n ≡ is_none (kept_at (slice_get kept n)))
      → Shows nodes u (after_event (with_packets (all_up w) ps) (delivery m (all_up w) o)) → ShowsFail nodes (fail_view u kept) (after_event (with_packets w ps) (delivery m w o))
  shows_delivery nodes u kept w ps None keeps up h = record { states = h.states; kept = keeps; up = up; packets = h.packets }
  shows_delivery nodes u kept w ps (Some p) keeps up h = record { states = h.states; kept = keeps; up = up; packets = h.packets }

  -- a step that changes nothing of which nodes are down leads where it leads if all are up
  shows_next_in : (r : Recovery S K) (nodes : ℕ) (u : WorldView H S I O M) (kept : List (Option K)) (w : World S K M) (v : StepView I) → has_kind net.Loss (kind_in v) ≡ true
      → ((n : ℕ) → w.kept n ≡ kept_at (slice_get kept n)) → ((n : ℕ) → w.is_up n ≡ is_none (kept_at (slice_get kept n)))
      → Shows nodes u (next_in m no_recovery (all_up w) v) → ShowsFail nodes (fail_view u kept) (next_in m r w v)
  shows_next_in r nodes u kept w (AtNode n input) has keeps up h = record { states = h.states; kept = keeps; up = up; packets = h.packets }
  shows_next_in r nodes u kept w (OfPacket k fate) has keeps up h = shows_delivery nodes u kept w (change_at (copied fate) k w.packets) (delivered fate (slice_get w.packets k)) keeps up h
  shows_next_in r nodes u kept w (Stops n) has keeps up h = absurd (false≢true has)
  shows_next_in r nodes u kept w (Starts n) has keeps up h = absurd (false≢true has)

  pub shows_next : (r : Recovery S K) (nodes : ℕ) (u : WorldView H S I O M) (kept : List (Option K)) (w : World S K M) (s : Step I) → has_kind net.Loss (kind_of s) ≡ true
      → ((n : ℕ) → w.kept n ≡ kept_at (slice_get kept n)) → ((n : ℕ) → w.is_up n ≡ is_none (kept_at (slice_get kept n)))
      → Shows nodes u (next m no_recovery (all_up w) s) → ShowsFail nodes (fail_view u kept) (next m r w s)
  shows_next r nodes u kept w s = shows_next_in r nodes u kept w (view_of s)
