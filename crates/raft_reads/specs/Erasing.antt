-- The run of Raft that a run with reads is: a read that waits is a timeout of the leader, and rounds and reads are left out.
use Rattle.std.specs.Prelude.{◌≡◌, List, [], ◌∷◌, map, if◌then◌else◌, IfSome, IsFalse}
use Rattle.net_semantics.specs.Runs.{first_refused_from, run_from, trace}
use Rattle.net_semantics.specs.Steps.{next, refusal_of}
use Rattle.net_semantics.specs.Worlds.{Packet, World}
use Rattle.vst_base.specs.declared.net.Net.TheVariants as net
use Rattle.vst_base.specs.declared.step.Step.{Step}
use Rattle.vst_base.specs.declared.step.Step.TheVariants as step
use Rattle.lists.specs.Each.{Each}
use Rattle.raft_types.specs.Messages.{KeptView}
use Rattle.raft_types.specs.declared.client.RaftInput.{RaftInput}
use Rattle.raft_types.specs.declared.msg.RaftMsg.{RaftMsg}
use Rattle.raft_xform.specs.Nodes.{RaftView}
use Rattle.raft_xform.specs.Raft.{raft, raft_recovery}
use Rattle.raft_reads.specs.Clusters.{ReadCluster, ReadWorld, first, handlers, input_of, next_world, refused_from, seen, world_from}
use Rattle.raft_reads.specs.ReadRaft.{waits}
use Rattle.raft_types.specs.Rounds.{ReadMsg}

abbrev pub erased_packet : {C : Type 0} → Packet (ReadMsg C) → Packet (RaftMsg C)
erased_packet p = record { source = p.source; destination = p.destination; content = p.content.raft; copies = p.copies }

module _ {S C O : Type 0} where
  -- the world of Raft
  abbrev pub erased_world : ReadWorld S C O → World (RaftView S C O) (KeptView C) (RaftMsg C)
  erased_world w = record { state = λ n. (w.state n).raft; is_up = w.is_up; kept = w.kept; packets = map erased_packet w.packets }

  -- the step of Raft that does the same but for rounds and reads
  abbrev pub erased_step : ReadCluster S C O → ReadWorld S C O → Step (RaftInput C) → Step (RaftInput C)
  erased_step c w (step.In n i) = if waits c.is_read (w.state n) i then step.Tick n else step.In n i
  erased_step c w (step.Deliver k) = step.Deliver k
  erased_step c w (step.Tick n) = step.Tick n
  erased_step c w (step.Dup k) = step.Dup k
  erased_step c w (step.Lose k) = step.Lose k
  erased_step c w (step.Crash n) = step.Crash n
  erased_step c w (step.Reboot n) = step.Reboot n

  abbrev pub erased_from : ReadCluster S C O → ReadWorld S C O → List (Step (RaftInput C)) → List (Step (RaftInput C))
  erased_from c w [] = []
  erased_from c w (s ∷ ss) = erased_step c w s ∷ erased_from c (next_world c w s) ss

  -- the schedule of Raft
  abbrev pub erased : ReadCluster S C O → List (Step (RaftInput C)) → List (Step (RaftInput C))
  erased c ss = erased_from c (first c) ss

  -- the step puts in no read
  abbrev pub NoRead : ReadCluster S C O → Step (RaftInput C) → Type 0
  NoRead c s = IfSome (input_of s) (λ i. IsFalse (c.is_read i.cmd))

module _ (S C O : Type 0) where
  -- step by step: what Raft refuses is refused, and else the same becomes of nodes and packets
  abbrev pub StepsErase : Type 0
  StepsErase = (c : ReadCluster S C O) (w : ReadWorld S C O) (s : Step (RaftInput C)) →
      (refusal_of net.Fail (raft c.nodes c.machine) (erased_world w) (erased_step c w s) ≡ refusal_of net.Fail (handlers c) w s)
      × (erased_world (next_world c w s) ≡ next (raft c.nodes c.machine) (raft_recovery c.machine) (erased_world w) (erased_step c w s))

  -- so a run from any world on comes to the same nodes and packets, and the same step of it is the first that is refused
  abbrev pub RunsErase : Type 0
  RunsErase = (c : ReadCluster S C O) (w : ReadWorld S C O) (ss : List (Step (RaftInput C))) →
      let m = raft c.nodes c.machine in
      (erased_world (world_from c w ss) ≡ run_from m (raft_recovery c.machine) (erased_world w) (erased_from c w ss))
      × (refused_from c w ss ≡ first_refused_from net.Fail m (raft_recovery c.machine) (erased_world w) (erased_from c w ss))

  -- a schedule without reads is its own, and clients see what they see of Raft
  abbrev pub WithoutReads : Type 0
  WithoutReads = (c : ReadCluster S C O) (ss : List (Step (RaftInput C))) → Each (NoRead c) ss →
      (erased c ss ≡ ss) × (seen c ss ≡ trace (raft c.nodes c.machine) (raft_recovery c.machine) ss)
