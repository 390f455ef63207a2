use Rattle.std.proofs.Common.{◌≡◌, ◌+◌, drop}
use Rattle.std.specs.Prelude.{option_map}
use Rattle.claim_verdicts.specs.Marks.{is_mark}
use Rattle.claim_verdicts.specs.Places.{place_of}
use Rattle.claim_verdicts.proofs.marking.first_mark.Given as goal

-- the first place is not before this one
abbrev pub invariant-loop-place : goal.invariant-loop-place
invariant-loop-place l = place_of (is_mark l.mark) l.marks ≡ option_map (λ k. l.place + k) (place_of (is_mark l.mark) (drop l.place l.marks))
