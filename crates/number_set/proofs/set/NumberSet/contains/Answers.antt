use Rattle.std.proofs.Common.{ap, sym, ◌∙◌}
use Rattle.std.proofs.lemmas.Bool.{lt-ltb}
use Rattle.number_set.specs.Members.{members}
use Rattle.number_set.proofs.Members.{has-below, placed}
use Rattle.number_set.proofs.set.NumberSet.contains.Goals as goal

pub returns-then-n-self : goal.returns-then-n-self
returns-then-n-self c =
    lt-ltb c.args.n c.self.inside.mark c.if-n-self.true ∙ sym (has-below c.self.inside.mark c.self.inside.above c.args.self.now c.args.n c.self.view_is c.if-n-self.true)

pub returns-else-n-self : goal.returns-else-n-self
returns-else-n-self c =
    c.is_ok.ensures.value
    ∙ placed c.self.inside.mark c.numbers.result.now c.args.self.now c.args.n c.place.result (ap (λ xs. members c.self.inside.mark xs) c.numbers.ensures ∙ c.self.view_is)
    c.if-n-self.false c.place.ensures.stands c.place.ensures.found c.place.ensures.goes
