-- What a check of a text of two lines comes to, whose verdict is known.
use Rattle.std.specs.Prelude.{ℕ, List, None, Some, Result, codes}
use Rattle.claim_verdicts.specs.declared.verdict.Verdict.{Verdict}
use Rattle.line_reader.specs.declared.why.Why.{Why}
use Rattle.schedule_replay.specs.Replaying.{Replayed, no_counts}
use Rattle.trace_check.specs.Outcomes.{ComesTo}
use Rattle.trace_check.specs.declared.fault.CheckFault.{CheckFault}

-- where the whole text is this, and no line of one that broke off is refused, with so much left of the source
abbrev pub comes_to : Result Verdict (ℕ × Why) → List ℕ → Result Verdict CheckFault → Type 0
comes_to whole left r = ComesTo (λ _. whole) (λ _. None) (codes "below\ntick 0\n") (Some left) r

-- a replay to the end that wrote this, with an image of so many lines
abbrev pub wrote : List ℕ → ℕ → Replayed
wrote out lines = record { out = out; refused = None; counts = record no_counts { image = lines } }
