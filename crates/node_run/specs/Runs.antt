-- A node's run, read off the acts of its device: each event, with what the node keeps after it and the datagrams that it sends.
use Rattle.std.specs.Prelude.{◌≡◌, ℕ, ◌+◌, List, [], ◌∷◌, ◌++◌, length, Option, Some, None}
use Rattle.outside.specs.declared.device.Address.{Address}
use Rattle.disk.specs.Acts.{Act, Now, Took, Quiet, ReceiveFailed}
use Rattle.raft_types.specs.Messages.{KeptView}
use Rattle.raft_xform.specs.Nodes.{RaftView, RaftEffect, is_leader}
use Rattle.raft_xform.specs.Raft.{raft, raft_recovery}
use Rattle.vst_base.specs.Machines.{MachineMeaning}
use Rattle.wire_fields.specs.Formats.{Format}
use Rattle.node_run.specs.Settings.{Settings, due, later, period}
use Rattle.node_run.specs.declared.due.Due.{Due}
use Rattle.node_run.specs.declared.due.Due.TheVariants.{Timeout, Wait}
use Rattle.node_run.specs.Events.{event_of, said_by}
use Rattle.node_run.specs.declared.event.Event.{Event}
use Rattle.node_run.specs.declared.event.Event.TheVariants.{Tick, Peer, Asked}

-- a node between two turns, and when its timer is to fire
pub record NodeView (S C O : Type 0) : Type 0 where
  pub state : RaftView S C O
  pub deadline : ℕ

-- an event that was taken, what the node keeps after it, and what it sends
pub record Done (C : Type 0) : Type 0 where
  pub event : Event C
  pub kept : KeptView C
  pub said : List (Address × List ℕ)

-- where a node stands within its acts: before its first clock value, between two turns, waiting in a turn that began then, or after a
-- receive that failed
pub data Stage (S C O : Type 0) : Type 0 where
  Starting : (kept : KeptView C) → Stage S C O
  Between : (node : NodeView S C O) → Stage S C O
  Waiting : (node : NodeView S C O) → (time : ℕ) → Stage S C O
  Broken : Stage S C O

-- where it stands after an act, the event that this decided, and how many turns it decided, which is one or none
pub record Step (S C O : Type 0) : Type 0 where
  pub stage : Stage S C O
  pub done : List (Done C)
  pub turns : ℕ

module _ {S C O : Type 0} (settings : Settings) (m : MachineMeaning S C O) (f : Format C) (g : Format O) where
  -- what an event makes of the state
  abbrev pub effect_of : RaftView S C O → Event C → RaftEffect S C O
  effect_of state Tick = (raft (length settings.peers) m).timeout settings.me state
  effect_of state (Peer from message) = (raft (length settings.peers) m).message settings.me state from message
  effect_of state (Asked request) = (raft (length settings.peers) m).input settings.me state request

  -- A timeout and a message of another node move the deadline; a request leaves it.
  abbrev pub deadline_after : Event C → ℕ → ℕ → RaftView S C O → ℕ
  deadline_after (Asked request) time deadline state = deadline
  deadline_after event time deadline state = later time (period settings (is_leader state.role))

  -- an event is taken in a turn that began at this time
  abbrev pub takes : NodeView S C O → ℕ → Event C → Step S C O
  takes node time event =
      let effect = effect_of node.state event in
      record {
        stage = Between (record { state = effect.state; deadline = deadline_after event time node.deadline effect.state });
        done = record { event = event; kept = (raft_recovery m).keep effect.state; said = said_by settings f g effect } ∷ [];
        turns = 1;
      }

  abbrev pub goes_to : Stage S C O → Step S C O
  goes_to stage = record { stage = stage; done = []; turns = 0 }

  -- a turn without an event
  abbrev pub passes : NodeView S C O → Step S C O
  passes node = record { stage = Between node; done = []; turns = 1 }

  abbrev pub takes_if : NodeView S C O → ℕ → Option (Event C) → Step S C O
  takes_if node time None = passes node
  takes_if node time (Some event) = takes node time event

  abbrev pub begins : NodeView S C O → ℕ → Due → Step S C O
  begins node time Timeout = takes node time Tick
  begins node time (Wait ms) = goes_to (Waiting node time)

  -- The first clock value sets the deadline, and each further one begins a turn. A turn that waits ends with a datagram or without one.
  abbrev pub step : Stage S C O → Act → Step S C O
  step (Starting kept) (Now time) =
      goes_to (Between (record { state = (raft_recovery m).reboot settings.me kept; deadline = later time settings.election }))
  step (Between node) (Now time) = begins node time (due node.deadline time)
  step (Waiting node time) (Took wait from bytes) = takes_if node time (event_of settings f from bytes)
  step (Waiting node time) (Quiet wait) = passes node
  step (Waiting node time) (ReceiveFailed wait) = goes_to Broken
  step stage act = goes_to stage

  -- the events of some acts, and where the node stands after them
  abbrev pub done_in : Stage S C O → List Act → List (Done C)
  done_in stage [] = []
  done_in stage (act ∷ acts) = (step stage act).done ++ done_in (step stage act).stage acts

  abbrev pub stage_after : Stage S C O → List Act → Stage S C O
  stage_after stage [] = stage
  stage_after stage (act ∷ acts) = stage_after (step stage act).stage acts

  -- the events of a node that starts from what it kept
  abbrev pub node_run : KeptView C → List Act → List (Done C)
  node_run kept acts = done_in (Starting kept) acts

  -- how many turns were decided
  abbrev pub turns_in : Stage S C O → List Act → ℕ
  turns_in stage [] = 0
  turns_in stage (act ∷ acts) = (step stage act).turns + turns_in (step stage act).stage acts

  -- a wait is as long as the deadline asks for
  abbrev pub IsWait : NodeView S C O → ℕ → ℕ → Type 0
  IsWait node time wait = due node.deadline time ≡ Wait wait

  -- The clock is read before the first turn and once at the beginning of each, a turn that waits receives once, and nothing follows a
  -- receive that failed.
  abbrev pub IsOrderly : Stage S C O → Act → Type 0
  IsOrderly (Starting kept) (Took wait from bytes) = ⊥
  IsOrderly (Starting kept) (Quiet wait) = ⊥
  IsOrderly (Starting kept) (ReceiveFailed wait) = ⊥
  IsOrderly (Between node) (Took wait from bytes) = ⊥
  IsOrderly (Between node) (Quiet wait) = ⊥
  IsOrderly (Between node) (ReceiveFailed wait) = ⊥
  IsOrderly (Waiting node time) (Now later) = ⊥
  IsOrderly (Waiting node time) (Took wait from bytes) = IsWait node time wait
  IsOrderly (Waiting node time) (Quiet wait) = IsWait node time wait
  IsOrderly (Waiting node time) (ReceiveFailed wait) = IsWait node time wait
  IsOrderly Broken act = ⊥
  IsOrderly stage act = Unit {0}

  abbrev pub AreOrderly : Stage S C O → List Act → Type 0
  AreOrderly stage [] = Unit {0}
  AreOrderly stage (act ∷ acts) = IsOrderly stage act × AreOrderly (step stage act).stage acts

-- all that was said, in order
abbrev pub said_in : {C : Type 0} → List (Done C) → List (Address × List ℕ)
said_in [] = []
said_in (d ∷ done) = d.said ++ said_in done
