-- A stack is an application and the transformers over it: its kind says which, and how it plays follows from that.
use Rattle.std.specs.Prelude.{◌≡◌, ℕ, List, Option, Some, None}
use Rattle.vst_base.specs.Machines.{MachineMeaning}
use Rattle.vst_base.specs.Stacks.{row_of}
use Rattle.vst_base.specs.declared.net.Net.{Net}
use Rattle.vst_base.specs.declared.net.Net.TheVariants as net
use Rattle.vst_base.specs.declared.pb_msg.PbMsg.{PbMsg}
use Rattle.vst_base.specs.declared.pb_out.PbOut.{PbOut}
use Rattle.vst_base.specs.declared.stack.StackId.{StackId}
use Rattle.vst_base.specs.declared.step.Item.{Item}
use Rattle.vst_base.specs.declared.step.Step.{Step}
use Rattle.app_text.specs.PbTexts.{pb_output_of, pb_output_text, pb_replies}
use Rattle.check_text.specs.Claims.{Claim}
use Rattle.handler_trait.specs.Handling.{Meaning}
use Rattle.linearizability.specs.Linearizable.{IsLinearizable}
use Rattle.net_semantics.specs.BelowPb.{IsExplainedBy, below_pb}
use Rattle.net_semantics.specs.Runs.{IsAllowed, machine_trace, no_recovery, trace}
use Rattle.primary_backup.specs.Backup.{Backed as Backup, primary_backup}
use Rattle.raft_text.specs.RaftTexts.{order_text, raft_input_of, raft_input_text, raft_output_of, raft_output_text, raft_replies}
use Rattle.raft_types.specs.declared.client.RaftInput.{RaftInput}
use Rattle.raft_types.specs.declared.client.RaftOut.{RaftOut}
use Rattle.schedule_text.specs.Printing.{step_text}
use Rattle.schedule_text.specs.declared.header.Header.{Header}
use Rattle.trace_maps.specs.SingleNode.{commands, single_node, alone}
use Rattle.transformers.specs.Transformers.{Transformer}
use Rattle.xform_stack.specs.Systems.{played_on, system_of}
use Rattle.stacks.specs.Clusters.{ClusterOf, cluster_played, raft_cluster}
use Rattle.stacks.specs.Plays.{AnyPlay, ImageTexts, Play, Texts, any_play, play_of}

-- handlers of so many nodes, with their texts and the inputs of made schedules by a random word and a step's place, which without a
-- transformer are this stack
pub record OwnHandlers : Type 1 where
  pub State : Type 0
  pub Input : Type 0
  pub Output : Type 0
  pub Msg : Type 0
  pub own : StackId
  pub handlers : ℕ → Meaning State Input Output Msg
  pub texts : Texts Input Output
  pub makes : ℕ → ℕ → Input

abbrev pub own_handlers : {S I O M : Type 0} → StackId → (ℕ → Meaning S I O M) → Texts I O → (ℕ → ℕ → I) → OwnHandlers
own_handlers {S = S} {I = I} {O = O} {M = M} own handlers t makes =
    record { State = S; Input = I; Output = O; Msg = M; own = own; handlers = handlers; texts = t; makes = makes }

-- a machine with its texts and the commands of made schedules, which alone is this stack
pub record Application : Type 1 where
  pub State : Type 0
  pub Command : Type 0
  pub Output : Type 0
  pub own : StackId
  pub machine : MachineMeaning State Command Output
  pub texts : Texts Command Output
  pub makes : ℕ → ℕ → Command

abbrev pub application : {S C O : Type 0} → StackId → MachineMeaning S C O → Texts C O → (ℕ → ℕ → C) → Application
application {S = S} {C = C} {O = O} own m t makes =
    record { State = S; Command = C; Output = O; own = own; machine = m; texts = t; makes = makes }

-- an application whose nodes never stop, and the transformers over it: handlers of its own, a machine at one node, or a machine under
-- primary-backup; a transformer over such layers; and layers whose image is their own schedule, as one of this stack
pub data Layers : Type 1 where
  Own : OwnHandlers → Layers
  Alone : Application → Layers
  Backed : Application → Layers
  Through : Transformer → Layers → Layers
  Itself : StackId → Layers → Layers

-- an application on a kind of cluster, whose nodes stop and start again
pub record OnCluster : Type 1 where
  pub application : Application
  pub cluster : ClusterOf application.Command application.Output

-- on Raft
abbrev pub raft_of : Application → OnCluster
raft_of p = record { application = p; cluster = raft_cluster p.machine }

-- a kind of stack: such layers, or a machine on a cluster
pub data Kind : Type 1 where
  Steady : Layers → Kind
  Clustered : OnCluster → Kind

-- the header of a schedule of a stack on its network
abbrev pub header_on : StackId → ℕ → Header
header_on i nodes = record { net = (row_of i).net; stack = i; nodes = nodes }

-- an image that is a schedule with this header, and one that is an order of requests
abbrev pub schedule_below : {I O : Type 0} → Header → Texts I O → ImageTexts (Step I)
schedule_below h t = record { header = Some h; line = step_text t.input_text }

abbrev pub order_below : {C O : Type 0} → Texts C O → ImageTexts (RaftInput C)
order_below t = record { header = None; line = order_text t.input_text }

-- how a machine's commands and outputs are spelled under primary-backup, and on a cluster
abbrev pub pb_texts : {C O : Type 0} → Texts C O → Texts C (PbOut O)
pb_texts t = record {
  input_of = t.input_of;
  input_text = t.input_text;
  output_of = pb_output_of t.output_of;
  output_text = pb_output_text t.output_text;
  is_reply = pb_replies;
}

abbrev pub raft_texts : {C O : Type 0} → Texts C O → Texts (RaftInput C) (RaftOut O)
raft_texts t = record {
  input_of = raft_input_of t.input_of;
  input_text = raft_input_text t.input_text;
  output_of = raft_output_of t.output_of;
  output_text = raft_output_text t.output_text;
  is_reply = raft_replies;
}

-- how many nodes the header of an image names: none where there is no header
abbrev pub nodes_of : Option Header → ℕ
nodes_of None = 0
nodes_of (Some h) = h.nodes

-- the network allows the image, and what clients then see is the trace
pub record IsWhatClientsSee {S I O M : Type 0} (net : Net) (m : Meaning S I O M) (c : Claim I O (Step I)) : Type 0 where
  pub allowed : IsAllowed net m (no_recovery {S = S}) c.image
  pub trace : c.trace ≡ trace m (no_recovery {S = S}) c.image

module _ {S C O : Type 0} (m : MachineMeaning S C O) where
  -- the image is a schedule of the machine at its one node, and the trace has each of its commands with the machine's answer
  pub record IsMachineAlone (c : Claim C O (Step C)) : Type 0 where
    pub allowed : IsAllowed net.One (single_node m) (no_recovery {S = S}) c.image
    pub trace : c.trace ≡ machine_trace m (commands c.image)

  -- one machine explains what clients saw, and the image is the schedule of what it took
  pub record IsOneMachine (c : Claim C (PbOut O) (Step C)) : Type 0 where
    pub machine : IsExplainedBy m c.trace
    pub image : c.image ≡ alone (below_pb c.trace)

-- what layers come to: handlers of so many nodes on a network that stops no node, their texts, and the image of a schedule and of what
-- clients see of it, with what it means that it explains a trace
pub record Service : Type 1 where
  pub State : Type 0
  pub Input : Type 0
  pub Output : Type 0
  pub Msg : Type 0
  pub Line : Type 0
  pub net : Net
  pub handlers : ℕ → Meaning State Input Output Msg
  pub texts : Texts Input Output
  pub image : ℕ → List (Step Input) → List (Item Input Output) → List Line
  pub below : ℕ → ImageTexts Line
  pub Explains : Claim Input Output Line → Type 0

-- handlers whose image is the schedule itself, as one of this stack on as many nodes as its header says
abbrev pub itself : {S I O M : Type 0} → StackId → Net → (ℕ → Meaning S I O M) → Texts I O → Service
itself {S = S} {I = I} {O = O} {M = M} i on handlers t = record {
  State = S;
  Input = I;
  Output = O;
  Msg = M;
  Line = Step I;
  net = on;
  handlers = handlers;
  texts = t;
  image = λ n ss items. ss;
  below = λ n. schedule_below (header_on i n) t;
  Explains = λ c. IsWhatClientsSee on (handlers (nodes_of c.header)) c;
}

-- a machine at its one node
abbrev pub single : Application → Service
single p = record {
  State = p.State;
  Input = p.Command;
  Output = p.Output;
  Msg = Unit {0};
  Line = Step p.Command;
  net = net.One;
  handlers = λ n. single_node p.machine;
  texts = p.texts;
  image = λ n ss items. ss;
  below = λ n. schedule_below (header_on p.own 1) p.texts;
  Explains = IsMachineAlone p.machine;
}

-- a machine under primary-backup: the image is what the machine alone took
abbrev pub backed : Application → Service
backed p = record {
  State = Backup p.State p.Command;
  Input = p.Command;
  Output = PbOut p.Output;
  Msg = PbMsg p.Command;
  Line = Step p.Command;
  net = net.Bag;
  handlers = λ n. primary_backup p.machine;
  texts = pb_texts p.texts;
  image = λ n ss items. alone (below_pb items);
  below = λ n. schedule_below (header_on p.own 1) p.texts;
  Explains = IsOneMachine p.machine;
}

-- transformed handlers on the worse network: the image is that of the schedule within
abbrev pub through : Transformer → Service → Service
through t s = record {
  State = t.State s.State s.Msg;
  Input = s.Input;
  Output = s.Output;
  Msg = t.Msg s.Msg;
  Line = s.Line;
  net = t.upper;
  handlers = λ n. t.transforms (s.handlers n);
  texts = s.texts;
  image = λ n ss items. s.image n (t.within (s.handlers n) ss) items;
  below = s.below;
  Explains = s.Explains;
}

abbrev pub service : Layers → Service
service (Own h) = itself h.own (row_of h.own).net h.handlers h.texts
service (Alone p) = single p
service (Backed p) = backed p
service (Through t l) = through t (service l)
service (Itself i l) = itself i (service l).net (service l).handlers (service l).texts

-- how the schedules of so many nodes play
abbrev pub service_play : (s : Service) → ℕ → Play s.Input s.Output s.Line
service_play s n =
    play_of (played_on (system_of s.net (s.handlers n)) (λ ss. s.image n ss (trace (s.handlers n) (no_recovery {S = s.State}) ss)))
    s.texts (s.below n)

abbrev pub steady_plays : Service → ℕ → AnyPlay
steady_plays s n = any_play (service_play s n) s.Explains

-- on a cluster the image is the order in which one machine takes the requests
abbrev pub cluster_play : (k : OnCluster) → ℕ → Play (RaftInput k.application.Command) (RaftOut k.application.Output) (RaftInput k.application.Command)
cluster_play k n = play_of (cluster_played k.cluster n) (raft_texts k.application.texts) (order_below k.application.texts)

abbrev pub cluster_plays : OnCluster → ℕ → AnyPlay
cluster_plays k n = any_play (cluster_play k n) (λ c. IsLinearizable k.application.machine c.image c.trace)

abbrev pub plays : Kind → ℕ → AnyPlay
plays (Steady l) n = steady_plays (service l) n
plays (Clustered k) n = cluster_plays k n
