use Rattle.std.proofs.Common.{◌≡◌, [], drop, take}
use Rattle.claim_verdicts.specs.Marks.{is_untold}
use Rattle.claim_verdicts.specs.Places.{first_wrong}
use Rattle.claim_verdicts.proofs.explaining.unexplained.Given as goal

-- the first wrong place is not among the items so far
abbrev pub invariant-loop-place : goal.invariant-loop-place
invariant-loop-place g l =
    first_wrong (λ before x after. is_untold g.A.AppText.output_text l.names l.outputs x) [] l.trace
    ≡ first_wrong (λ before x after. is_untold g.A.AppText.output_text l.names l.outputs x) (take l.place l.trace) (drop l.place l.trace)
