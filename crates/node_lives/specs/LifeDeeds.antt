-- The deeds of a node, by its lives.
use Rattle.std.specs.Prelude.{◌≡◌, ℕ, List, [], ◌∷◌, ◌++◌, map, ◌⊎◌}
use Rattle.cluster_histories.specs.Deeds.{Answered, Decided, Deed, Opened, Said}
use Rattle.disk.specs.Acts.{Act}
use Rattle.disk.specs.DiskLaws.{IsCutShort}
use Rattle.node_config.specs.declared.config.Config.{Config}
use Rattle.node_datagrams.specs.Configured.{settings_of}
use Rattle.node_histories.specs.Histories as history
use Rattle.node_run.specs.Events.{packet_to, reply_of, reply_to}
use Rattle.node_run.specs.Runs.{Done, Stage, Starting, step}
use Rattle.node_run.specs.Settings.{Settings}
use Rattle.node_run.specs.declared.event.Event.{Event}
use Rattle.node_run.specs.declared.event.Event.TheVariants.{Asked, Peer, Tick}
use Rattle.outside.specs.declared.device.Address.{Address}
use Rattle.raft_types.specs.Messages.{KeptView}
use Rattle.raft_types.specs.declared.client.RaftInput.{RaftInput}
use Rattle.raft_types.specs.declared.client.RaftOut.{RaftOut}
use Rattle.raft_types.specs.declared.msg.RaftMsg.{RaftMsg}
use Rattle.slots.specs.Turns.{datagrams}
use Rattle.udp_node.specs.Serving.{StartsFrom, found_in, opening_of}
use Rattle.vst_base.specs.Machines.{MachineMeaning}
use Rattle.vst_base.specs.declared.stack.StackId.{StackId}
use Rattle.wire_fields.specs.Formats.{Format}
use Rattle.node_lives.specs.Lives.{Life}

abbrev pub RaftDeed : Type 0 → Type 0 → Type 0
RaftDeed C O = Deed (RaftInput C) (RaftOut O) (RaftMsg C) (KeptView C)

-- what a node acts on, apart from bytes and clocks
abbrev pub acts_on : {C : Type 0} → Event C → history.Event (RaftInput C) (RaftMsg C)
acts_on Tick = history.Fired
acts_on (Peer from message) = history.Heard from message
acts_on (Asked request) = history.Asked request

abbrev pub decided_on : {C O : Type 0} → List (Done C) → List (RaftDeed C O)
decided_on done = map (λ d. Decided (acts_on d.event)) done

module _ {C O : Type 0} (settings : Settings) (f : Format C) (g : Format O) where
  -- this datagram is that message or that reply: it is what a node sends of it
  abbrev pub IsOf : Address × List ℕ → RaftDeed C O → Type 0
  IsOf datagram (Said to c) = packet_to settings f (to, c) ≡ datagram ∷ []
  IsOf datagram (Answered o) = reply_to settings g (reply_of o) ≡ datagram ∷ []
  IsOf datagram (Decided event) = ⊥
  IsOf datagram (Opened kept) = ⊥

  -- each of these is, in order
  abbrev pub AreOf : List (Address × List ℕ) → List (RaftDeed C O) → Type 0
  AreOf [] deeds = deeds ≡ []
  AreOf (datagram ∷ datagrams) [] = ⊥
  AreOf (datagram ∷ datagrams) (deed ∷ deeds) = IsOf datagram deed × AreOf datagrams deeds

module _ {S C O : Type 0} (settings : Settings) (m : MachineMeaning S C O) (f : Format C) (g : Format O) where
  -- An act is the event that it decides, or the message or reply that went out, or may have. Any other is no deed.
  pub record IsActOf (stage : Stage S C O) (act : Act) (deeds : List (RaftDeed C O)) : Type 0 where
    pub out : List (RaftDeed C O)
    pub are_out : AreOf settings f g (datagrams (act ∷ [])) out
    pub are : deeds ≡ decided_on (step settings m f g stage act).done ++ out

  -- act by act, from this stage on
  abbrev pub AreActsOf : Stage S C O → List Act → List (RaftDeed C O) → Type 0
  AreActsOf stage [] deeds = deeds ≡ []
  AreActsOf stage (act ∷ acts) deeds =
      (here later : List (RaftDeed C O)) × IsActOf stage act here
      × AreActsOf (step settings m f g stage act).stage acts later × (deeds ≡ here ++ later)

module _ {S C O : Type 0} (s : StackId) (config : Config) (m : MachineMeaning S C O) (f : Format C) (g : Format O) where
  -- It was killed, or ended, in its opening, of which it did a front, or all; what it wrote there is no deed.
  pub record EndsInOpening (life : Life) (deeds : List (RaftDeed C O)) : Type 0 where
    pub acts : IsCutShort (opening_of s config f life.begun) life.acts
    pub none : deeds ≡ []

  -- The opening ended well, from this state on, and then there were turns, whole or cut short.
  pub record Opens (life : Life) (deeds : List (RaftDeed C O)) : Type 0 where
    pub kept : KeptView C
    pub turns : List Act
    pub later : List (RaftDeed C O)
    pub acts : life.acts ≡ opening_of s config f life.begun ++ turns
    pub from : StartsFrom (found_in s config f life.begun) kept
    pub of_turns : AreActsOf (settings_of config) m f g (Starting kept) turns later
    pub are : deeds ≡ Opened kept ∷ later

  -- these are the deeds of this life
  abbrev pub IsLifeOf : Life → List (RaftDeed C O) → Type 0
  IsLifeOf life deeds = EndsInOpening life deeds ⊎ Opens life deeds

  -- those of lives one after the other
  abbrev pub AreLivesOf : List Life → List (RaftDeed C O) → Type 0
  AreLivesOf [] deeds = deeds ≡ []
  AreLivesOf (life ∷ lives) deeds =
      (here later : List (RaftDeed C O)) × IsLifeOf life here × AreLivesOf lives later × (deeds ≡ here ++ later)
