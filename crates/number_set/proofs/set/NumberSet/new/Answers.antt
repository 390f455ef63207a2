use Rattle.std.proofs.Common.{ap, ◌∙◌}
use Rattle.number_set.specs.Members.{members}
use Rattle.number_set.proofs.Members.{members-none}
use Rattle.number_set.proofs.set.NumberSet.new.Goals as goal

pub returns : goal.returns
returns c = ap (λ xs. members 0 xs) c.new.ensures ∙ members-none
