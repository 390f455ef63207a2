use Rattle.std.proofs.Common.{◌≡◌, [], take, map, length}
use Rattle.net_semantics.specs.Runs.{trace}
use Rattle.schedule_text.specs.Printing.{item_text}
use Rattle.xform_stack.specs.Running.{HasTaken}
use Rattle.claim_verdicts.specs.Comparing.{IsWithin}
use Rattle.claim_verdicts.proofs.Comparing.{Compares}
use Rattle.claim_verdicts.proofs.schedule.verdict_by_run.Given as goal

-- the steps so far were taken, and what clients saw of them was compared and cleared
abbrev pub invariant-loop-place : goal.invariant-loop-place
invariant-loop-place g l =
    let w = g.W.Network in
    let sys = w.system l.fn.network in
    let text = item_text g.A.AppText.input_text g.A.AppText.output_text in
    let steps = take l.place l.claim.image in
    record {
      system : w.system l.network ≡ sys;
      sound : w.sound l.network;
      taken : HasTaken sys w.follows w.progress steps l.network;
      clear : (w.progress l.network).trace ≡ [];
      compares : Compares l.comparison (map text l.claim.trace) (map text (trace sys.meaning sys.recovery steps));
      within : IsWithin (length l.claim.trace) l.comparison;
    }
