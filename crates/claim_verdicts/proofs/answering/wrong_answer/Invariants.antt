use Rattle.std.proofs.Common.{◌≡◌, ◌≤◌, [], drop, length, take}
use Rattle.net_semantics.specs.BelowPb.{inputs_at, outputs_at}
use Rattle.claim_verdicts.specs.Backups.{is_wrong_answer}
use Rattle.claim_verdicts.specs.Places.{first_wrong}
use Rattle.claim_verdicts.proofs.answering.wrong_answer.Given as goal

-- the first wrong place is not among the items so far, of which so many are inputs and outputs at the primary
abbrev pub invariant-loop-place : goal.invariant-loop-place
invariant-loop-place g l =
    let wrong = is_wrong_answer g.A.AppText.output_text l.outputs in
    record {
      first : first_wrong wrong [] l.trace ≡ first_wrong wrong (take l.place l.trace) (drop l.place l.trace);
      asked : l.asked ≡ length (inputs_at 0 (take l.place l.trace));
      answered : l.answered ≡ length (outputs_at 0 (take l.place l.trace));
      few_asked : l.asked ≤ l.place;
      few_answered : l.answered ≤ l.place;
    }
