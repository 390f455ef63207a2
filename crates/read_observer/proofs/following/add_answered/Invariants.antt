use Rattle.std.proofs.Common.{◌≡◌, ◌++◌, map, take}
use Rattle.read_observer.proofs.following.add_answered.Given as goal

abbrev pub invariant-loop-read : goal.invariant-loop-read
invariant-loop-read g l =
    l.answered.items ≡ l.initial.answered.items ++ map (λ x. (l.place, x.input)) (take l.read-index l.reads)
