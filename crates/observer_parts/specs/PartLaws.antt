-- What a schedule without a refusal says of its parts.
use Rattle.std.specs.Prelude.{◌≡◌, List, [], ◌∷◌, ◌++◌, None, refl}
use Rattle.handler_trait.specs.Handling.{Meaning, Recovery}
use Rattle.net_semantics.specs.Runs.{first_refused_from, run_from}
use Rattle.net_semantics.specs.RunLaws.{place_and_why-none}
use Rattle.net_semantics.specs.Steps.{next, refusal_of}
use Rattle.net_semantics.specs.Worlds.{World}
use Rattle.vst_base.specs.declared.net.Net.{Net}
use Rattle.vst_base.specs.declared.step.Step.{Step}

module _ {S K I O M : Type 0} (net : Net) (m : Meaning S I O M) (r : Recovery S K) where
  -- where no step is refused, neither those before the last one are, nor that
  pub allowed-before : (ss : List (Step I)) (s : Step I) (w : World S K M) → first_refused_from net m r w (ss ++ s ∷ []) ≡ None
      → (first_refused_from net m r w ss ≡ None) × (refusal_of net m (run_from m r w ss) s ≡ None)
  allowed-before [] s w allowed = (refl, (place_and_why-none (refusal_of net m w s) None allowed).0)
  allowed-before (t ∷ ss) s w allowed =
      let both = place_and_why-none (refusal_of net m w t) (first_refused_from net m r (next m r w t) (ss ++ s ∷ [])) allowed in
      let rest = allowed-before ss s (next m r w t) both.1 in
      (rw (both.0, rest.0) refl, rest.1)
