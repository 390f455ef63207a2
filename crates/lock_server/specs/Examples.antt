-- What runs of the lock server are computed on.
use Rattle.std.specs.Prelude.{List, [], ◌∷◌}
use Rattle.vst_base.specs.declared.lock.LockInput.{LockInput}
use Rattle.vst_base.specs.declared.lock.LockInput.TheVariants as ask
use Rattle.vst_base.specs.declared.step.Step.{Step}
use Rattle.vst_base.specs.declared.step.Step.TheVariants as step

-- clients 1 and 2 ask, 1 is told, and gives the lock back, and 2 is told
abbrev pub hand_over : List (Step LockInput)
hand_over =
    step.In 1 ask.Lock
    ∷ step.In 2 ask.Lock
    ∷ step.Deliver 0
    ∷ step.Deliver 1
    ∷ step.Deliver 2
    ∷ step.In 1 ask.Unlock
    ∷ step.Deliver 3
    ∷ step.Deliver 4
    ∷ []

-- the same, but the packet that tells 1 is copied, and its copy comes to 1 at the end
abbrev pub copied_hand_over : List (Step LockInput)
copied_hand_over =
    step.In 1 ask.Lock
    ∷ step.In 2 ask.Lock
    ∷ step.Deliver 0
    ∷ step.Deliver 1
    ∷ step.Dup 2
    ∷ step.Deliver 2
    ∷ step.In 1 ask.Unlock
    ∷ step.Deliver 3
    ∷ step.Deliver 4
    ∷ step.Deliver 2
    ∷ []
