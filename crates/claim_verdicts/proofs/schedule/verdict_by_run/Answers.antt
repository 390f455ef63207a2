use Rattle.std.proofs.Common.{◌≡◌, ◌<◌, ℕ, List, [], ◌++◌, ◌+◌, get_or, length, map, take, None, Some, sym, ap, ◌∙◌, subst, refl, arith}
use Rattle.std.proofs.lemmas.List.{append-nil, length-map, map-append, take_all}
use Rattle.vst_base.specs.declared.step.Step.{Step}
use Rattle.vst_base.specs.declared.step.Item.{Item}
use Rattle.net_semantics.specs.Runs.{first_refused, trace}
use Rattle.net_semantics.specs.Steps.{items_of}
use Rattle.schedule_text.specs.Printing.{item_text}
use Rattle.xform_stack.specs.Running.{HasTaken, Progress}
use Rattle.xform_stack.specs.Systems.{System, world_of}
use Rattle.claim_verdicts.specs.Comparing.{difference_after}
use Rattle.claim_verdicts.specs.Places.{first_difference}
use Rattle.claim_verdicts.specs.declared.verdict.Verdict.TheVariants.{No}
use Rattle.claim_verdicts.proofs.Comparing.{Compares, compares-more}
use Rattle.claim_verdicts.proofs.Differences.{says-other, says-same}
use Rattle.claim_verdicts.proofs.Stepping.{refused-at, sees-more, taken-cleared, up-to}
use Rattle.claim_verdicts.proofs.schedule.verdict_by_run.Given as given
use Rattle.claim_verdicts.proofs.schedule.verdict_by_run.Goals as goal
use Rattle.claim_verdicts.proofs.schedule.verdict_by_run.Goals.{After-difference}

-- systems, and items of a trace, over the types of the handlers
abbrev SystemOf : given.Over → Type 0
SystemOf g = System g.row.H-State.Denot g.row.W-Kept.Denot g.row.H-Input.Denot g.row.H-Output.Denot g.row.H-Msg.Denot

abbrev ItemOf : given.Over → Type 0
ItemOf g = Item g.row.H-Input.Denot g.row.H-Output.Denot

abbrev StepOf : given.Over → Type 0
StepOf g = Step g.row.H-Input.Denot

-- the lines of some items
abbrev lines_of : (g : given.Over) → List (ItemOf g) → List (List ℕ)
lines_of g xs = map (item_text g.A.AppText.input_text g.A.AppText.output_text) xs

pub loop-place-init : goal.loop-place-init
loop-place-init g c = record {
  system = refl;
  sound = c.requires.sound;
  taken = c.requires.started;
  clear = c.requires.clear;
  compares = λ more. refl;
  within = omega arith;
}

pub returns-in-Err-Refused : goal.returns-in-Err-Refused
returns-in-Err-Refused g c =
    let inv = c.loop-place.invariant in
    let w = g.W.Network in
    let sys = w.system c.args.network in
    let xs = c.args.claim.now.image in
    let i = c.loop-place.place in
    let x = c.step-item.result in
    let why = c.in-Err-Refused.field-0-0 in
    let below : i < length xs = rw c.image-step-items.ensures at c.loop-place-test.true in
    let is : x ≡ get_or xs i x = rw c.image-step-items.ensures at c.step-item.is in
    let answer = rw (c.in-Err-Refused.field-0-is, inv.system) at c.in-Err-Refused.ensures.refused in
    let refused = answer (take i xs) inv.taken in
    let found : first_refused sys.net sys.meaning sys.recovery xs ≡ Some (i, why) = refused-at sys xs i x below is why inv.taken.allowed refused in
    rw found (ap (No 4) c.image_line.ensures)

pub loop-place-preserved : goal.loop-place-preserved
loop-place-preserved g c =
    let inv = c.loop-place.invariant in
    let w = g.W.Network in
    let sys = w.system c.args.network in
    let xs = c.args.claim.now.image in
    let i = c.loop-place.place in
    let x = c.step-item.result in
    let old = c.loop-place.network in
    let stepped = c.step.new.self in
    let seen = trace sys.meaning sys.recovery (take i xs) in
    let came = items_of sys.meaning (world_of sys (take i xs)) x in
    let claimed = lines_of g c.args.claim.now.trace in
    let below : i < length xs = rw c.image-step-items.ensures at c.loop-place-test.true in
    let is : x ≡ get_or xs i x = rw c.image-step-items.ensures at c.step-item.is in
    let next = rw inv.system at c.in-Ok.ensures.next in
    let grew = rw inv.system at c.in-Ok.ensures.trace in
    let shown : (w.progress stepped).trace ≡ came = grew (take i xs) inv.taken ∙ ap (λ (ys : List (ItemOf g)). ys ++ came) inv.clear in
    let taken : HasTaken sys w.follows w.progress (take (i + 1) xs) stepped = rw (up-to sys xs i x below is) (next (take i xs) inv.taken) in
    let tells = rw (c.trace-in-loop-place.ensures, c.items-came.ensures, c.trace.ensures, shown) at c.in_ok-comparison.ensures.tells in
    record {
      system = c.forget_trace.ensures.system ∙ (c.in-Ok.ensures.system ∙ inv.system);
      sound = c.forget_trace.ensures.sound c.in-Ok.ensures.sound;
      taken = taken-cleared sys w.follows w.progress (take (i + 1) xs) stepped c.forget_trace.new.self taken c.forget_trace.ensures.forgets c.forget_trace.ensures.follows;
      clear = ap (λ (p : Progress g.row.H-Input.Denot g.row.H-Output.Denot). p.trace) c.forget_trace.ensures.forgets;
      compares = subst (λ ys. Compares c.in_ok-comparison.comparison claimed ys)
          (sym (map-append _ seen came) ∙ ap (lines_of g) (sees-more sys xs i x below is))
          (compares-more c.loop-place.comparison c.in_ok-comparison.comparison claimed (lines_of g seen) (lines_of g came) inv.compares tells);
      within = rw c.trace-in-loop-place.ensures at c.in_ok-comparison.ensures.within;
    }

-- at the end the whole schedule was taken
whole : (g : _) (c : After-difference g) → take c.loop-place.place c.args.claim.now.image ≡ c.args.claim.now.image
whole g c = take_all c.loop-place.place c.args.claim.now.image (rw c.image-step-items.ensures at c.loop-place-test.false)

-- so the whole trace was compared with the claimed one
compared : (g : _) (c : After-difference g)
    → let sys = g.W.Network.system c.args.network in
    difference_after c.loop-place.comparison (lines_of g c.args.claim.now.trace) []
    ≡ first_difference 0 (lines_of g c.args.claim.now.trace) (lines_of g (trace sys.meaning sys.recovery c.args.claim.now.image))
compared g c =
    let sys = g.W.Network.system c.args.network in
    let claimed = lines_of g c.args.claim.now.trace in
    sym (c.loop-place.invariant.compares [])
    ∙ ap (first_difference 0 claimed) (append-nil _ ∙ ap (λ ss. lines_of g (trace sys.meaning sys.recovery ss)) (whole g c))

allowed : (g : _) (c : After-difference g)
    → let sys = g.W.Network.system c.args.network in first_refused sys.net sys.meaning sys.recovery c.args.claim.now.image ≡ None
allowed g c = rw (← whole g c) c.loop-place.invariant.taken.allowed

-- as many lines as items are claimed
many : (g : _) (c : After-difference g) → length (lines_of g c.args.claim.now.trace) ≡ length c.trace-2.result.now
many g c = length-map c.args.claim.now.trace _ ∙ ap (λ xs. length xs) (sym c.trace-2.ensures)

pub returns-in-Some : goal.returns-in-Some
returns-in-Some g c =
    let a = g.A.AppText in
    let at = (goal.at.returns-in-Some g c).After-difference in
    let sys = g.W.Network.system c.args.network in
    says-other a.input_text a.output_text c.args.claim.now _ (trace sys.meaning sys.recovery c.args.claim.now.image) (allowed g at) c.in-Some.place c.item_line.result
    (c.in-Some.ensures.first (lines_of g c.args.claim.now.trace) (many g at) ∙ compared g at) c.item_line.ensures

pub returns : goal.returns
returns g c =
    let a = g.A.AppText in
    let at = (goal.at.returns g c).After-difference in
    let sys = g.W.Network.system c.args.network in
    says-same a.input_text a.output_text c.args.claim.now _ (trace sys.meaning sys.recovery c.args.claim.now.image) (allowed g at)
    (c.in-None.ensures.first (lines_of g c.args.claim.now.trace) (many g at) ∙ compared g at)
