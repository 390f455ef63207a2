-- Laws of what runs: clearing the trace only moves it to what was cleared.
use Rattle.std.specs.Prelude.{◌≡◌, List, [], ◌++◌}
use Rattle.std.proofs.Common.{ap, ◌∙◌}
use Rattle.std.proofs.lemmas.List.{append-nil}
use Rattle.vst_base.specs.declared.step.Step.{Step}
use Rattle.vst_base.specs.declared.step.Item.{Item}
use Rattle.xform_stack.specs.Running.{HasRun, HasTaken, Progress}
use Rattle.xform_stack.specs.Systems.{Played, System}

pub has_run-forget : {R I O G : Type 0} (p : Played I O G) (follows : R → List (Step I) → Type 0) (progress : R → Progress I O)
    (ss : List (Step I)) (gone : List (Item I O)) (r q : R) → progress q ≡ record (progress r) { trace = [] } → follows q ss
    → HasRun p follows progress ss gone r → HasRun p follows progress ss (gone ++ (progress r).trace) q
has_run-forget {I = I} {O = O} p follows progress ss gone r q e followed ran = record {
  followed = followed;
  traced = ap (λ (x : Progress I O). (gone ++ (progress r).trace) ++ x.trace) e ∙ (append-nil (gone ++ (progress r).trace) ∙ ran.traced);
  allowed = ran.allowed;
  counted = ap (λ (x : Progress I O). x.taken) e ∙ ran.counted;
}

pub has_taken-forget : {W S K I O M : Type 0} (sys : System S K I O M) (follows : W → List (Step I) → Type 0)
    (progress : W → Progress I O) (ss : List (Step I)) (r q : W) → progress q ≡ record (progress r) { trace = [] } → follows q ss
    → HasTaken sys follows progress ss r → HasTaken sys follows progress ss q
has_taken-forget {I = I} {O = O} sys follows progress ss r q e followed had = record {
  followed = followed;
  allowed = had.allowed;
  counted = ap (λ (x : Progress I O). x.taken) e ∙ had.counted;
}
