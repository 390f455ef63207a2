use Rattle.std.proofs.Common.{◌≡◌, [], drop, take}
use Rattle.claim_verdicts.specs.Backups.{is_at_backup, is_wrong_at_backup, last_of, passes}
use Rattle.claim_verdicts.specs.Places.{first_wrong}
use Rattle.claim_verdicts.proofs.redirecting.wrong_at_backup.Given as goal

-- the first wrong place is not among the items so far
abbrev pub invariant-loop-place : goal.invariant-loop-place
invariant-loop-place g l =
    record {
      first : first_wrong is_wrong_at_backup [] l.trace ≡ first_wrong is_wrong_at_backup (take l.place l.trace) (drop l.place l.trace);
      behind : l.after_input ≡ passes is_at_backup (last_of (take l.place l.trace));
    }
