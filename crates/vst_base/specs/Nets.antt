-- Which network has which kinds of step, and what a step is of.
use Rattle.std.specs.Prelude.{Bool, true, false, Option, Some, None, ℕ}
use Rattle.vst_base.specs.declared.net.Net.{Net}
use Rattle.vst_base.specs.declared.net.Net.TheVariants as net
use Rattle.vst_base.specs.declared.step.Step.{Step}
use Rattle.vst_base.specs.declared.step.StepKind.{StepKind}
use Rattle.vst_base.specs.declared.step.StepKind.TheVariants as kind
use Rattle.vst_base.specs.declared.step.Step.TheVariants as step

-- what comes of a copy in flight
pub data Fate : Type 0 where
  Delivered : Fate
  Copied : Fate
  Lost : Fate

-- a step is of a node, with an input or else its timer; of a packet in flight; of a node that stops; or of one that starts again
pub data StepView (I : Type 0) : Type 0 where
  AtNode : ℕ → Option I → StepView I
  OfPacket : ℕ → Fate → StepView I
  Stops : ℕ → StepView I
  Starts : ℕ → StepView I

abbrev pub view_of : {I : Type 0} → Step I → StepView I
view_of (step.In n i) = AtNode n (Some i)
view_of (step.Tick n) = AtNode n None
view_of (step.Deliver k) = OfPacket k Delivered
view_of (step.Dup k) = OfPacket k Copied
view_of (step.Lose k) = OfPacket k Lost
view_of (step.Crash n) = Stops n
view_of (step.Reboot n) = Starts n

-- the kind of what happens at a node: an input, or its timer
abbrev pub kind_at : {I : Type 0} → Option I → StepKind
kind_at None = kind.Tick
kind_at (Some i) = kind.In

abbrev pub kind_of_fate : Fate → StepKind
kind_of_fate Delivered = kind.Deliver
kind_of_fate Copied = kind.Dup
kind_of_fate Lost = kind.Lose

abbrev pub kind_in : {I : Type 0} → StepView I → StepKind
kind_in (AtNode n input) = kind_at input
kind_in (OfPacket k fate) = kind_of_fate fate
kind_in (Stops n) = kind.Crash
kind_in (Starts n) = kind.Reboot

abbrev pub kind_of : {I : Type 0} → Step I → StepKind
kind_of s = kind_in (view_of s)

-- one machine takes inputs; packets are delivered and timers fire on a bag, and where packets keep their order; packets are
-- copied too on dup, and lost as well on loss; nodes crash and reboot too on fail; and on acts they reboot, but stop otherwise
abbrev pub has_kind : Net → StepKind → Bool
has_kind net.One kind.In = true
has_kind net.One kind.Deliver = false
has_kind net.One kind.Tick = false
has_kind net.One kind.Dup = false
has_kind net.One kind.Lose = false
has_kind net.One kind.Crash = false
has_kind net.One kind.Reboot = false
has_kind net.Bag kind.In = true
has_kind net.Bag kind.Deliver = true
has_kind net.Bag kind.Tick = true
has_kind net.Bag kind.Dup = false
has_kind net.Bag kind.Lose = false
has_kind net.Bag kind.Crash = false
has_kind net.Bag kind.Reboot = false
has_kind net.Dup kind.In = true
has_kind net.Dup kind.Deliver = true
has_kind net.Dup kind.Tick = true
has_kind net.Dup kind.Dup = true
has_kind net.Dup kind.Lose = false
has_kind net.Dup kind.Crash = false
has_kind net.Dup kind.Reboot = false
has_kind net.Fail kind.In = true
has_kind net.Fail kind.Deliver = true
has_kind net.Fail kind.Tick = true
has_kind net.Fail kind.Dup = true
has_kind net.Fail kind.Lose = true
has_kind net.Fail kind.Crash = true
has_kind net.Fail kind.Reboot = true
has_kind net.Ord kind.In = true
has_kind net.Ord kind.Deliver = true
has_kind net.Ord kind.Tick = true
has_kind net.Ord kind.Dup = false
has_kind net.Ord kind.Lose = false
has_kind net.Ord kind.Crash = false
has_kind net.Ord kind.Reboot = false
has_kind net.Loss kind.In = true
has_kind net.Loss kind.Deliver = true
has_kind net.Loss kind.Tick = true
has_kind net.Loss kind.Dup = true
has_kind net.Loss kind.Lose = true
has_kind net.Loss kind.Crash = false
has_kind net.Loss kind.Reboot = false
has_kind net.Acts kind.In = true
has_kind net.Acts kind.Deliver = true
has_kind net.Acts kind.Tick = true
has_kind net.Acts kind.Dup = true
has_kind net.Acts kind.Lose = true
has_kind net.Acts kind.Crash = false
has_kind net.Acts kind.Reboot = true

-- all nodes are always up
abbrev pub stops_no_node : Net → Bool
stops_no_node net.One = true
stops_no_node net.Bag = true
stops_no_node net.Dup = true
stops_no_node net.Fail = false
stops_no_node net.Ord = true
stops_no_node net.Loss = true
stops_no_node net.Acts = false

-- packets of one source to one destination come in the order in which they were sent
abbrev pub keeps_order : Net → Bool
keeps_order net.One = false
keeps_order net.Bag = false
keeps_order net.Dup = false
keeps_order net.Fail = false
keeps_order net.Ord = true
keeps_order net.Loss = false
keeps_order net.Acts = false
