-- What a node has between its calls, and what a turn makes of it.
use Rattle.std.specs.Prelude.{ℕ, ◌≤◌, List, ◌++◌, length}
use Rattle.node_acts.specs.Stores.{StoreView, Knows, common}
use Rattle.node_body.specs.declared.who.Who.{Who}
use Rattle.node_config.specs.declared.config.Config.{Config}
use Rattle.node_core.specs.declared.replica.Replica.{Replica}
use Rattle.node_core.specs.declared.taken.Taken.{Taken}
use Rattle.node_datagrams.specs.Configured.{settings_of}
use Rattle.node_run.specs.Events.{replied, sent}
use Rattle.node_run.specs.Runs.{NodeView, deadline_after, effect_of}
use Rattle.node_run.specs.Settings.{later}
use Rattle.node_run.specs.declared.event.Event.{Event}
use Rattle.node_state.specs.Calls.{IsNodeOf}
use Rattle.outside.specs.declared.device.Address.{Address}
use Rattle.raft_types.specs.Messages.{KeptView}
use Rattle.raft_types.specs.declared.client.RaftOut.{RaftOut}
use Rattle.raft_types.specs.declared.msg.RaftMsg.{RaftMsg}
use Rattle.raft_xform.specs.Nodes.{RaftView, RaftEffect, started_with}
use Rattle.raft_xform.specs.Sound.{IsSoundNode}
use Rattle.vst_base.specs.Machines.{MachineMeaning}
use Rattle.vst_base.specs.declared.stack.StackId.{StackId}
use Rattle.wire_fields.specs.Formats.{Format}

-- whose state the node's areas hold
abbrev pub who_of : Config → Who
who_of config = record { stack = config.stack; me = config.me; nodes = length config.peers; name = config.cluster }

-- what outlives a crash of a node in this state
abbrev pub kept_of : {S C O : Type 0} → RaftView S C O → KeptView C
kept_of s = record { term = s.ballot.term; voted = s.ballot.voted; log = s.log }

-- the node between two turns, as its run knows it
abbrev pub view_of : {S C O : Type 0} → Replica S C O → NodeView S C O
view_of replica = record { state = replica.state; deadline = replica.deadline }

-- A node of this stack, in a state in which a node can be.
pub record IsReplica {S C O : Type 0} (s : StackId) (replica : Replica S C O) : Type 0 where
  pub of : IsNodeOf s replica.store.who
  pub sound : IsSoundNode replica.store.who.nodes replica.store.who.me replica.state

-- one whose areas hold what it would keep
pub record IsReady {S C O : Type 0} (s : StackId) (replica : Replica S C O) : Type 0 where
  pub is : IsReplica s replica
  pub knows : Knows replica.store (kept_of replica.state)

-- One that has taken an event. So many of its entries, at least, are held.
pub record IsTaken {S C O : Type 0} (s : StackId) (taken : Taken S C O) : Type 0 where
  pub is : IsReplica s taken.replica
  pub same : taken.same ≤ common taken.replica.store.terms taken.replica.state.log

module _ {S C O : Type 0} (config : Config) (m : MachineMeaning S C O) (f : Format C) (g : Format O) where
  -- what an event makes of its state
  abbrev pub effect_on : Replica S C O → Event C → RaftEffect S C O
  effect_on replica event = effect_of (settings_of config) m f g replica.state event

  -- the node after the event
  abbrev pub after_event : Replica S C O → Event C → Replica S C O
  after_event replica event =
      let state : RaftView S C O = (effect_on replica event).state in
      record replica { state = state; deadline = deadline_after (settings_of config) m f g event replica.time replica.deadline state }

-- a node that starts at this time from what it kept
abbrev pub starting : {S C O : Type 0} → Config → MachineMeaning S C O → StoreView → KeptView C → ℕ → Replica S C O
starting config m store kept now =
    record { state = started_with m kept.term kept.voted kept.log; deadline = later now config.election_ms; time = now; store = store }

-- the datagrams of these packets, and then of these outputs
abbrev pub said_of : {C O : Type 0} → Config → Format C → Format O → List (ℕ × RaftMsg C) → List (RaftOut O) → List (Address × List ℕ)
said_of config f g sends outputs = sent (settings_of config) f sends ++ replied (settings_of config) g outputs
