-- Layers over the lock server, and a schedule in which a packet comes twice; and over the mirror, and one in which packets come in another
-- order.
use Rattle.std.specs.Prelude.{List, [], ◌∷◌}
use Rattle.vst_base.specs.declared.mirror.MirrorInput.{MirrorInput}
use Rattle.vst_base.specs.declared.mirror.MirrorInput.TheVariants.{Put}
use Rattle.transformers.specs.Numbering.{numbering}
use Rattle.transformers.specs.Ordering.{ordering}
use Rattle.transformers.specs.Retransmission.{retransmission}
use Rattle.vst_base.specs.declared.lock.LockInput.{LockInput}
use Rattle.vst_base.specs.declared.lock.LockInput.TheVariants.{Lock}
use Rattle.vst_base.specs.declared.stack.StackId.TheVariants as id
use Rattle.vst_base.specs.declared.step.Step.{Step}
use Rattle.vst_base.specs.declared.step.Step.TheVariants as step
use Rattle.stacks.specs.Kinds.{Itself, Own, Through, service}
use Rattle.stacks.specs.Table.{locks, mirrors}

-- a client asks for the lock, and its packet comes twice
abbrev pub repeated : List (Step LockInput)
repeated = step.In 1 Lock ∷ step.Dup 0 ∷ step.Deliver 0 ∷ step.Deliver 0 ∷ []

abbrev pub delivered : List (Step LockInput)
delivered = step.In 1 Lock ∷ step.Deliver 0 ∷ []

-- images, of layers through numbered packets; of these as a stack whose image is its own schedule; and through numbered packets again,
-- over such a stack
abbrev pub through : List (Step LockInput) → List (Step LockInput)
through ss = (service (Through numbering (Own locks))).image 4 ss []

abbrev pub as_itself : List (Step LockInput) → List (Step LockInput)
as_itself ss = (service (Itself id.LockSeq (Through numbering (Own locks)))).image 4 ss []

abbrev pub over_itself : List (Step LockInput) → List (Step LockInput)
over_itself ss = (service (Through numbering (Itself id.LockSeq (Through numbering (Own locks))))).image 4 ss []

-- a client asks for the lock, its packet is lost, and is sent again with the timer
abbrev pub lost : List (Step LockInput)
lost = step.In 1 Lock ∷ step.Lose 0 ∷ step.Tick 1 ∷ step.Deliver 1 ∷ []

abbrev pub copied : List (Step LockInput)
copied = step.In 1 Lock ∷ step.Tick 1 ∷ step.Dup 0 ∷ step.Deliver 0 ∷ []

-- the image, of such a stack with packets that are sent again: the schedule within as one of that stack, and not what that runs
abbrev pub retried : List (Step LockInput) → List (Step LockInput)
retried ss = (service (Through retransmission (Itself id.LockSeq (Through numbering (Own locks))))).image 4 ss []

-- two values are put at a node, and the packet of the second comes first: a tick gives it
abbrev pub swapped : List (Step MirrorInput)
swapped = step.In 1 (Put (97 ∷ [])) ∷ step.In 1 (Put (98 ∷ [])) ∷ step.Deliver 1 ∷ step.Deliver 0 ∷ step.Tick 0 ∷ []

abbrev pub in_turn : List (Step MirrorInput)
in_turn = step.In 1 (Put (97 ∷ [])) ∷ step.In 1 (Put (98 ∷ [])) ∷ step.Deliver 0 ∷ step.Deliver 1 ∷ []

-- an image, of the mirror over FIFO channels
abbrev pub in_order : List (Step MirrorInput) → List (Step MirrorInput)
in_order ss = (service (Through ordering (Own mirrors))).image 2 ss []
