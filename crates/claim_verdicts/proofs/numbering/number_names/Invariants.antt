use Rattle.std.proofs.Common.{◌≡◌, take}
use Rattle.linearizability.specs.Linearizable.{AreDistinct}
use Rattle.claim_verdicts.specs.Marks.{names_of}
use Rattle.claim_verdicts.proofs.numbering.number_names.Given as goal

-- the names so far, none of them twice
abbrev pub invariant-loop-request : goal.invariant-loop-request
invariant-loop-request g l = record { names : l.names ≡ names_of (take l.request-index l.order); distinct : AreDistinct (take l.request-index l.order) }
