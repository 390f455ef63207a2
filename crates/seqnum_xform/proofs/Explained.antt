-- Numbered handlers on a network that copies packets do what the handlers within do on a bag, where repeats are left out.
use Rattle.std.specs.Prelude.{◌≡◌, ℕ, Bool, true, false, List, [], ◌∷◌, ◌++◌, Option, Some, None, cond, slice_get, refl}
use Rattle.std.proofs.Common.{ap, ◌∙◌, sym}
use Rattle.std.proofs.lemmas.Bool.{false≢true}
use Rattle.vst_base.specs.declared.net.Net.TheVariants as net
use Rattle.vst_base.specs.declared.step.Step.{Step}
use Rattle.vst_base.specs.declared.step.Step.TheVariants as step
use Rattle.vst_base.specs.declared.step.StepRefusal.{StepRefusal}
use Rattle.vst_base.specs.declared.step.StepRefusal.TheVariants as refusal
use Rattle.vst_base.specs.declared.seq.SeqMsg.{SeqMsg}
use Rattle.handler_trait.specs.Handling.{Meaning, Recovery}
use Rattle.net_semantics.specs.Worlds.{World, first_world}
use Rattle.net_semantics.specs.Steps.{next, refusal_of}
use Rattle.net_semantics.specs.Runs.{IsAllowed, first_refused_from, trace, trace_from, place_and_why}
use Rattle.net_semantics.specs.RunLaws.{place_and_why-none}
use Rattle.net_semantics.specs.Once.{is_repeat, delivered_after, once, once_from}
use Rattle.seqnum_xform.specs.Numbering.{Numbered, sequence_numbered}
use Rattle.seqnum_xform.proofs.Steps.{Mirrors, BothTake, TakeAlone, take-in, take-tick, take-dup, find-sent, carrier, take-first, take-again}

module _ {S K K' I O M : Type 0} (m : Meaning S I O M) (r' : Recovery (Numbered S) K') (r : Recovery S K) where
  module _ (delivered : ℕ → Bool) (w' : World (Numbered S) K' (SeqMsg M)) (w : World S K M) (h : Mirrors m r' r delivered w' w) where
    both-take : (s : Step I) → refusal_of net.Dup (sequence_numbered m) w' s ≡ None → is_repeat delivered s ≡ false → BothTake m r' r delivered w' w s
    both-take (step.In n i) allowed first = take-in m r' r delivered w' w h n i allowed
    both-take (step.Tick n) allowed first = take-tick m r' r delivered w' w h n allowed
    both-take (step.Deliver k) allowed first =
        let found = find-sent m r' r delivered w' w h k (slice_get w'.packets k) refl allowed in
        let c = carrier m r' r delivered w' w h k found.0 found.1 in
        take-first m r' r delivered w' w h k found.0 found.1 c.0 c.1 c.2 first
    both-take (step.Dup k) allowed first = absurd (false≢true (sym first))
    both-take (step.Lose k) allowed first = let clash : Some refusal.NotThisNet ≡ None = allowed in cc
    both-take (step.Crash n) allowed first = let clash : Some refusal.NotThisNet ≡ None = allowed in cc
    both-take (step.Reboot n) allowed first = let clash : Some refusal.NotThisNet ≡ None = allowed in cc

    take-alone : (s : Step I) → refusal_of net.Dup (sequence_numbered m) w' s ≡ None → is_repeat delivered s ≡ true → TakeAlone m r' r delivered w' w s
    take-alone (step.Dup k) allowed again = take-dup m r' r delivered w' w h k
    take-alone (step.Deliver k) allowed again =
        let found = find-sent m r' r delivered w' w h k (slice_get w'.packets k) refl allowed in
        take-again m r' r delivered w' w h k found.0 found.1 again
    take-alone (step.In n i) allowed again = absurd (false≢true again)
    take-alone (step.Tick n) allowed again = absurd (false≢true again)
    take-alone (step.Lose k) allowed again = absurd (false≢true again)
    take-alone (step.Crash n) allowed again = absurd (false≢true again)
    take-alone (step.Reboot n) allowed again = absurd (false≢true again)

  -- a schedule that is left is allowed, and its trace is the same
  abbrev IsExplained : World (Numbered S) K' (SeqMsg M) → World S K M → List (Step I) → List (Step I) → Type 0
  IsExplained w' w ss left = (first_refused_from net.Bag m r w left ≡ None) × (trace_from (sequence_numbered m) r' w' ss ≡ trace_from m r w left)

  none-both : (f : Option StepRefusal) (o : Option (ℕ × StepRefusal)) → f ≡ None → o ≡ None → place_and_why f o ≡ None
  none-both f o e1 e2 = rw (e1, e2) refl

  explained : (ss : List (Step I)) (delivered : ℕ → Bool) (w' : World (Numbered S) K' (SeqMsg M)) (w : World S K M) → Mirrors m r' r delivered w' w
      → first_refused_from net.Dup (sequence_numbered m) r' w' ss ≡ None → IsExplained w' w ss (once_from delivered ss)
  explained [] delivered w' w h allowed = (refl, refl)
  explained (s ∷ ss) delivered w' w h allowed =
      let both = place_and_why-none (refusal_of net.Dup (sequence_numbered m) w' s) (first_refused_from net.Dup (sequence_numbered m) r' (next (sequence_numbered m) r' w' s) ss) allowed in
      elim (is_repeat delivered s) as (λ b. is_repeat delivered s ≡ b
      → IsExplained w' w (s ∷ ss) (cond b (once_from (delivered_after delivered s) ss) (s ∷ once_from (delivered_after delivered s) ss))) [
        | true ↦ λ again.
            let t = take-alone delivered w' w h s both.0 again in
            let rest = explained ss (delivered_after delivered s) (next (sequence_numbered m) r' w' s) w t.mirrors both.1 in
            (rest.0, ap (λ items. items ++ trace_from (sequence_numbered m) r' (next (sequence_numbered m) r' w' s) ss) t.items ∙ rest.1)
        | false ↦ λ first.
            let t = both-take delivered w' w h s both.0 first in
            let rest = explained ss (delivered_after delivered s) (next (sequence_numbered m) r' w' s) (next m r w s) t.mirrors both.1 in
            (none-both (refusal_of net.Bag m w s) _ t.allowed rest.0, (λ i. t.items i ++ rest.1 i))
      ] refl

  at-first : Mirrors m r' r (λ _. false) (first_world (sequence_numbered m)) (first_world m)
  at-first = record {
    up' = λ n. refl;
    up = λ n. refl;
    tied = record {
      states = λ n. refl;
      packets = λ k. refl;
      known = λ d a x seen. absurd (false≢true seen);
      apart = λ j k p q at_j at_k source number. cc;
    };
  }

  pub repeats-do-nothing : (ss : List (Step I)) → IsAllowed net.Dup (sequence_numbered m) r' ss
      → IsAllowed net.Bag m r (once ss) × (trace (sequence_numbered m) r' ss ≡ trace m r (once ss))
  repeats-do-nothing ss allowed = explained ss (λ _. false) (first_world (sequence_numbered m)) (first_world m) at-first allowed
