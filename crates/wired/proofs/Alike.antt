-- Handlers of which each step is as that of others run as these.
use Rattle.std.specs.Prelude.{◌≡◌, List, [], ◌∷◌, ◌++◌, refl}
use Rattle.std.proofs.Common.{ap, ◌∙◌}
use Rattle.handler_trait.specs.Handling.{Meaning, Recovery}
use Rattle.net_semantics.specs.Runs.{first_refused_from, place_and_why, run, run_from, trace_from}
use Rattle.net_semantics.specs.Steps.{items_of, next, refusal_of}
use Rattle.net_semantics.specs.Worlds.{World, first_world}
use Rattle.vst_base.specs.declared.net.Net.{Net}
use Rattle.vst_base.specs.declared.step.Step.{Step}
use Rattle.wired.specs.Same.{RunsTheSame}

module _ {S K M S2 K2 M2 I O : Type 0} (m2 : Meaning S2 I O M2) (r2 : Recovery S2 K2) (m : Meaning S I O M) (r : Recovery S K) (v : World S K M → World S2 K2 M2) where
  -- a step makes of a world that stands for another one that stands for what it makes of that, and clients see the same
  pub record StepsTheSame (w : World S K M) (s : Step I) : Type 0 where
    pub items : items_of m2 (v w) s ≡ items_of m w s
    pub world : next m2 r2 (v w) s ≡ v (next m r w s)

  abbrev pub EachStepsTheSame : World S K M → List (Step I) → Type 0
  EachStepsTheSame w [] = Unit {0}
  EachStepsTheSame w (s ∷ ss) = StepsTheSame w s × EachStepsTheSame (next m r w s) ss

  record GoesTheSame (net : Net) (w : World S K M) (ss : List (Step I)) : Type 0 where
    refused : first_refused_from net m2 r2 (v w) ss ≡ first_refused_from net m r w ss
    trace : trace_from m2 r2 (v w) ss ≡ trace_from m r w ss
    world : run_from m2 r2 (v w) ss ≡ v (run_from m r w ss)

  module _ (refuses : (net : Net) (w : World S K M) (s : Step I) → refusal_of net m2 (v w) s ≡ refusal_of net m w s) where
    goes : (net : Net) (w : World S K M) (ss : List (Step I)) → EachStepsTheSame w ss → GoesTheSame net w ss
    goes net w [] each = record { refused = refl; trace = refl; world = refl }
    goes net w (s ∷ ss) each =
        let rest = goes net (next m r w s) ss each.1 in
        record {
          refused = (λ i. place_and_why (refuses net w s i) (first_refused_from net m2 r2 (each.0.world i) ss)) ∙ ap (place_and_why (refusal_of net m w s)) rest.refused;
          trace = (λ i. each.0.items i ++ trace_from m2 r2 (each.0.world i) ss) ∙ ap (λ items. items_of m w s ++ items) rest.trace;
          world = ap (λ u. run_from m2 r2 u ss) each.0.world ∙ rest.world;
        }

    pub runs : (net : Net) (ss : List (Step I)) → first_world m2 ≡ v (first_world m) → EachStepsTheSame (first_world m) ss → RunsTheSame net m2 r2 m r v ss
    runs net ss first each =
        let rest = goes net (first_world m) ss each in
        let world : run m2 r2 ss ≡ v (run m r ss) = ap (λ u. run_from m2 r2 u ss) first ∙ rest.world in
        record {
          refused = ap (λ u. first_refused_from net m2 r2 u ss) first ∙ rest.refused;
          trace = ap (λ u. trace_from m2 r2 u ss) first ∙ rest.trace;
          world = world;
          next_refused = λ s. ap (λ u. refusal_of net m2 u s) world ∙ refuses net (run m r ss) s;
        }
