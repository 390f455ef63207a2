use Rattle.std.proofs.Common.{Some, [], ◌∷◌, ap, arith, length, refl}
use Rattle.act_world.proofs.examples.worked_turns.Goals as goal

pub returns-clause-begun : goal.returns-clause-begun
returns-clause-begun c = record { event = refl; state = refl; sends = refl; outputs = refl; acts = refl }

pub returns-clause-not_with_the_state_before : goal.returns-clause-not_with_the_state_before
returns-clause-not_with_the_state_before c = λ s. (let e = s.state in omega (arith, e))

pub returns-clause-not_with_an_act_less : goal.returns-clause-not_with_an_act_less
returns-clause-not_with_an_act_less c = λ s. (let e = ap length s.acts in omega (arith, e))

pub returns-clause-after_an_act : goal.returns-clause-after_an_act
returns-clause-after_an_act c = record { event = refl; state = refl; sends = refl; outputs = refl; acts = refl }

pub returns-clause-saved : goal.returns-clause-saved
returns-clause-saved c =
    (refl, record { saved = refl; sends = refl; outputs = refl; place = refl; number = refl; listed_is = record { entry = record { node = 0; input = Some 5; sent = []; unsent = 5 ∷ [] }; there = refl; node = refl; unsent = refl } })

pub returns-clause-not_saved_before : goal.returns-clause-not_saved_before
returns-clause-not_saved_before c = λ s. (let e = s.0 in omega (arith, e))

pub returns-clause-sent : goal.returns-clause-sent
returns-clause-sent c =
    (refl, record { saved = refl; sends = refl; outputs = refl; place = refl; number = refl; listed_is = record { entry = record { node = 0; input = Some 5; sent = []; unsent = 5 ∷ [] }; there = refl; node = refl; unsent = refl } })

pub returns-clause-not_with_another_number : goal.returns-clause-not_with_another_number
returns-clause-not_with_another_number c = λ s. (let e = s.1.number in omega (arith, e))
