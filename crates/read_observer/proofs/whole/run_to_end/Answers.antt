use Rattle.std.proofs.Common.{◌≡◌, ◌<◌, List, [], ◌++◌, ◌∷◌, ◌+◌, length, take, drop, Err, arith, append_assoc, sym, ◌∙◌, subst}
use Rattle.std.proofs.lemmas.List.{take_more, take_all, length-take-le}
use Rattle.vst_base.specs.declared.step.Item.{Item}
use Rattle.vst_base.specs.declared.step.Step.{Step}
use Rattle.xform_stack.specs.Running.{HasRun, IsRunAnswer, IsRunRefusal}
use Rattle.xform_stack.specs.Systems.{Played}
use Rattle.xform_stack.proofs.More.{at_item}
use Rattle.read_observer.proofs.Ended.{refused-longer}
use Rattle.read_observer.proofs.whole.run_to_end.Given as given
use Rattle.read_observer.proofs.whole.run_to_end.Goals as goal

abbrev PlayedOf : given.Over → Type 0
PlayedOf g = Played g.row.R-Input.Denot g.row.R-Output.Denot g.row.R-Line.Denot

-- these steps, of what is played, are what this has run
abbrev Run : (g : given.Over) → PlayedOf g → List (Step g.row.R-Input.Denot) → List (Item g.row.R-Input.Denot g.row.R-Output.Denot) → g.row.R.Denot → Type 0
Run g p ss gone r = HasRun p g.R.Runs.follows g.R.Runs.progress ss gone r

pub step-requires-clause-sound : goal.step-requires-clause-sound
step-requires-clause-sound g c = c.loop-step.invariant.sound

pub step-requires-clause-steps : goal.step-requires-clause-steps
step-requires-clause-steps g c =
    let xs = c.args.steps.now in
    let i = c.loop-step.step-index in
    let below : i < length xs = c.loop-step-test.true in
    let long = length-take-le i xs (omega (arith, below)) in
    omega (arith, below, long, c.loop-step.invariant.run.counted, c.requires.few)

pub loop-step-preserved : goal.loop-step-preserved
loop-step-preserved g c =
    let inv = c.loop-step.invariant in
    let xs = c.args.steps.now in
    let i = c.loop-step.step-index in
    let x = c.step-item.result in
    let old = c.loop-step.running in
    let new = c.step.new.self in
    let below : i < length xs = c.loop-step-test.true in
    let next = subst (λ (p : PlayedOf g). (ss : List (Step g.row.R-Input.Denot)) (gone : List (Item g.row.R-Input.Denot g.row.R-Output.Denot)) → Run g p ss gone old → Run g p (ss ++ x ∷ []) gone new) inv.same c.in-Ok.ensures.next in
    record {
      same = c.in-Ok.ensures.played ∙ inv.same;
      run = rw (take_more xs i x below, ← c.step-item.is) (next (take i xs) [] inv.run);
      sound = c.in-Ok.ensures.sound;
    }

pub returns-in-Err-clause-refused : goal.returns-in-Err-clause-refused
returns-in-Err-clause-refused g c =
    let inv = c.loop-step.invariant in
    let xs = c.args.steps.now in
    let i = c.loop-step.step-index in
    let x = c.step-item.result in
    let old = c.loop-step.running in
    let p = g.R.Runs.played c.args.running in
    let below : i < length xs = c.loop-step-test.true in
    let refused = subst (λ (p : PlayedOf g). (ss : List (Step g.row.R-Input.Denot)) (gone : List (Item g.row.R-Input.Denot g.row.R-Output.Denot)) → Run g p ss gone old
    → IsRunAnswer {A = Unit {0}} (Err c.in-Err.why) (length ss) (p.refused (ss ++ x ∷ []))) inv.same c.in-Err.ensures.refused in
    let place : c.taken-place.result ≡ length (take i xs) = c.taken-place.ensures ∙ inv.run.counted in
    let named = c.fault_at.ensures.told (p.refused (take i xs ++ x ∷ [])) (rw place (refused (take i xs) [] inv.run)) in
    let found = refused-longer p (g.met.R.Runs.causal c.args.running) (take i xs ++ x ∷ []) (drop (i + 1) xs) c.fault_at.result named in
    subst (λ ss. IsRunRefusal c.fault_at.result (p.refused ss)) (append_assoc (take i xs) (x ∷ []) (drop (i + 1) xs) ∙ sym (at_item xs i x below c.step-item.is)) found

-- at the end the whole schedule was taken
whole : (g : _) (c : goal.In-Ok-finish g) → Run g (g.R.Runs.played c.args.running) c.args.steps.now [] c.loop-step.running
whole g c = rw (← take_all c.loop-step.step-index c.args.steps.now c.loop-step-test.false) c.loop-step.invariant.run

pub returns-in-Ok-finish-clause-allowed : goal.returns-in-Ok-finish-clause-allowed
returns-in-Ok-finish-clause-allowed g c = (whole g c).allowed

pub returns-in-Ok-finish-clause-trace : goal.returns-in-Ok-finish-clause-trace
returns-in-Ok-finish-clause-trace g c = c.in-Ok-finish.ensures.trace ∙ (whole g c).traced

pub returns-in-Ok-finish-clause-image : goal.returns-in-Ok-finish-clause-image
returns-in-Ok-finish-clause-image g c =
    let same = c.loop-step.invariant.same in
    subst (λ (p : PlayedOf g). (ss : List (Step g.row.R-Input.Denot)) (gone : List (Item g.row.R-Input.Denot g.row.R-Output.Denot)) → Run g p ss gone c.loop-step.running → c.in-Ok-finish.ran.image ≡ p.image ss) same
    c.in-Ok-finish.ensures.image c.args.steps.now [] (whole g c)
