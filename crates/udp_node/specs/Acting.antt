-- What a node does with an event: it takes it, saves what it keeps then, and says what the event sends.
use Rattle.std.specs.Prelude.{◌≡◌, ℕ, true, List, ◌++◌, take, ◌⊎◌}
use Rattle.disk.specs.Acts.{Act}
use Rattle.disk.specs.Disk.{Image, may_leave}
use Rattle.disk.specs.DiskLaws.{IsCutShort}
use Rattle.node_acts.specs.StateActs.{state_acts, store_after}
use Rattle.node_acts.specs.StateLaws.{StateSaved}
use Rattle.node_acts.specs.Stores.{found_by}
use Rattle.node_config.specs.declared.config.Config.{Config}
use Rattle.node_core.specs.Replicas.{after_event, effect_on, kept_of, said_of, who_of}
use Rattle.node_core.specs.declared.replica.Replica.{Replica}
use Rattle.node_device.specs.Telling.{Told, told_after}
use Rattle.node_run.specs.declared.event.Event.{Event}
use Rattle.outside.specs.declared.device.Address.{Address}
use Rattle.raft_types.specs.Messages.{KeptView}
use Rattle.slots.specs.Opening.{OpensAs}
use Rattle.slots.specs.Turns.{Says, datagrams}
use Rattle.vst_base.specs.Machines.{MachineMeaning}
use Rattle.vst_base.specs.declared.stack.StackId.{StackId}
use Rattle.wire_fields.specs.Formats.{Format}
use Rattle.lists.specs.Each.{Each}
use Rattle.lists.specs.Prefixes.{IsPrefix}

module _ {S C O : Type 0} (s : StackId) (config : Config) (m : MachineMeaning S C O) (f : Format C) (g : Format O) (replica : Replica S C O) (event : Event C) where
  -- what it keeps after the event
  abbrev pub kept_then : KeptView C
  kept_then = kept_of (after_event config m f g replica event).state

  -- the acts that make this durable
  abbrev pub saves : List Act
  saves = state_acts s f replica.store kept_then

  -- what it then says
  abbrev pub says : List (Address × List ℕ)
  says = said_of config f g (effect_on config m f g replica event).sends (effect_on config m f g replica event).outputs

  -- the node after all of that
  abbrev pub next_replica : Replica S C O
  next_replica = record (after_event config m f g replica event) { store = store_after s f replica.store kept_then }

  -- The acts were the save, and then some by which this was said.
  pub record SavedAndSaid (said : List Act) (before now : Told) : Type 0 where
    pub is : now ≡ told_after (told_after before saves) said
    pub saved : StateSaved s f replica.store (kept_of replica.state) kept_then before.disk
    pub only : Each Says said

  pub record Acted (before now : Told) : Type 0 where
    pub said : List Act
    pub acts : SavedAndSaid said before now
    pub all : datagrams said ≡ says

  -- the save was cut short
  pub record SavedInPart (before now : Told) : Type 0 where
    pub did : List Act
    pub acts : now.acts ≡ before.acts ++ did
    pub short : IsCutShort saves did
    pub either : (n : ℕ) (image : Image) → may_leave before.disk (take n did) image ≡ true →
        OpensAs (found_by s f (who_of config)) (kept_of replica.state) image
        ⊎ OpensAs (found_by s f (who_of config)) kept_then image

  -- all was saved, and a front of it was said
  pub record SaidInPart (before now : Told) : Type 0 where
    pub said : List Act
    pub acts : SavedAndSaid said before now
    pub front : IsPrefix (datagrams said) says

  abbrev pub ActedInPart : Told → Told → Type 0
  ActedInPart before now = (now ≡ before) ⊎ (SavedInPart before now ⊎ SaidInPart before now)
