-- A cluster with reads, as functions, and its runs on a network that loses and copies packets, and whose nodes stop and start again.
use Rattle.std.specs.Prelude.{ℕ, Bool, List, Option, None}
use Rattle.handler_trait.specs.Handling.{Meaning, Recovery}
use Rattle.net_semantics.specs.Runs.{first_refused_from, run_from, trace}
use Rattle.net_semantics.specs.Steps.{next}
use Rattle.net_semantics.specs.Worlds.{World, first_world}
use Rattle.vst_base.specs.Machines.{MachineMeaning}
use Rattle.vst_base.specs.Nets.{StepView, AtNode, OfPacket, Stops, Starts, view_of}
use Rattle.vst_base.specs.declared.net.Net.TheVariants as net
use Rattle.vst_base.specs.declared.step.Item.{Item}
use Rattle.vst_base.specs.declared.step.Step.{Step}
use Rattle.vst_base.specs.declared.step.StepRefusal.{StepRefusal}
use Rattle.raft_types.specs.Messages.{KeptView}
use Rattle.raft_types.specs.declared.client.RaftInput.{RaftInput}
use Rattle.raft_types.specs.declared.client.RaftOut.{RaftOut}
use Rattle.raft_reads.specs.ReadRaft.{read_raft, read_recovery}
use Rattle.raft_types.specs.Rounds.{ReadMsg}
use Rattle.raft_reads.specs.Reads.{ReadView}

abbrev pub ReadWorld : Type 0 → Type 0 → Type 0 → Type 0
ReadWorld S C O = World (ReadView S C O) (KeptView C) (ReadMsg C)

-- the input that a step gives a node, if it gives one
abbrev pub input_in : {I : Type 0} → StepView I → Option I
input_in (AtNode n input) = input
input_in (OfPacket k fate) = None
input_in (Stops n) = None
input_in (Starts n) = None

abbrev pub input_of : {I : Type 0} → Step I → Option I
input_of s = input_in (view_of s)

-- a machine, which of its commands read, and how many nodes there are
pub record ReadCluster (S C O : Type 0) : Type 0 where
  pub machine : MachineMeaning S C O
  pub is_read : C → Bool
  pub nodes : ℕ

module _ {S C O : Type 0} where
  abbrev pub handlers : ReadCluster S C O → Meaning (ReadView S C O) (RaftInput C) (RaftOut O) (ReadMsg C)
  handlers c = read_raft c.nodes c.machine c.is_read

  abbrev pub recovery : ReadCluster S C O → Recovery (ReadView S C O) (KeptView C)
  recovery c = read_recovery c.nodes c.machine

  abbrev pub next_world : ReadCluster S C O → ReadWorld S C O → Step (RaftInput C) → ReadWorld S C O
  next_world c = next (handlers c) (recovery c)

  abbrev pub first : ReadCluster S C O → ReadWorld S C O
  first c = first_world (handlers c)

  abbrev pub world_from : ReadCluster S C O → ReadWorld S C O → List (Step (RaftInput C)) → ReadWorld S C O
  world_from c = run_from (handlers c) (recovery c)

  abbrev pub world_after : ReadCluster S C O → List (Step (RaftInput C)) → ReadWorld S C O
  world_after c ss = world_from c (first c) ss

  -- what clients see
  abbrev pub seen : ReadCluster S C O → List (Step (RaftInput C)) → List (Item (RaftInput C) (RaftOut O))
  seen c ss = trace (handlers c) (recovery c) ss

  -- the first step that is refused, with its place
  abbrev pub refused_from : ReadCluster S C O → ReadWorld S C O → List (Step (RaftInput C)) → Option (ℕ × StepRefusal)
  refused_from c w ss = first_refused_from net.Fail (handlers c) (recovery c) w ss
