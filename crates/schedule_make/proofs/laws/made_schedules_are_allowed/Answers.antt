use Rattle.net_semantics.specs.Worlds.{first_world}
use Rattle.schedule_make.specs.Made.{generator}
use Rattle.schedule_make.proofs.Allowed.{all-allowed, as-many, first-has-steps}
use Rattle.schedule_make.proofs.laws.made_schedules_are_allowed.Goals as goal

pub returns-clause-steps : goal.returns-clause-steps
returns-clause-steps g c = λ net m r inputs seed steps. as-many net m r inputs (first_world m) 0 (generator seed) steps

pub returns-clause-allowed : goal.returns-clause-allowed
returns-clause-allowed g c = λ net m r inputs seed steps ticks some.
    all-allowed net m r inputs (first_world m) 0 (generator seed) steps (first-has-steps net m r inputs ticks some)
