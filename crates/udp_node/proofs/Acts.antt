-- Taking an event, saving the state after it and saying what it sends, as the device tells them.
use Rattle.std.proofs.Common.{◌≡◌, ℕ, List, ◌++◌, Option, Some, None, IfSome, sym, ap, subst, ◌∙◌, ◌⊎◌, inl, inr}
use Rattle.std.proofs.lemmas.List.{append_cancel_left}
use Rattle.disk.specs.Acts.{Act}
use Rattle.disk.specs.Disk.{Disk}
use Rattle.disk.specs.DiskLaws.{IsCutShort}
use Rattle.node_acts.specs.StateActs.{state_acts}
use Rattle.node_acts.specs.Stores.{StoreView, Holds, Continues, found_by}
use Rattle.node_body.specs.declared.who.Who.{Who}
use Rattle.node_config.specs.declared.config.Config.{Config}
use Rattle.node_core.specs.Replicas.{after_event, effect_on, kept_of, said_of, who_of}
use Rattle.node_core.specs.declared.replica.Replica.{Replica}
use Rattle.node_datagrams.specs.Saying.{HasBegunToSay, HasSaid}
use Rattle.node_device.specs.Telling.{Told, told_after, Did, StoppedIn, WhereTold}
use Rattle.node_records.proofs.ActKinds.{says_after}
use Rattle.node_run.specs.declared.event.Event.{Event}
use Rattle.node_state.specs.Crashes.{IsHeldBefore, LeavesEither, Saves}
use Rattle.outside.specs.declared.device.Address.{Address}
use Rattle.raft_types.specs.Messages.{KeptView}
use Rattle.raft_types.specs.declared.client.RaftOut.{RaftOut}
use Rattle.raft_types.specs.declared.msg.RaftMsg.{RaftMsg}
use Rattle.slots.specs.Opening.{OpensAs}
use Rattle.slots.specs.Turns.{Says, datagrams}
use Rattle.vst_base.specs.Machines.{MachineMeaning}
use Rattle.vst_base.specs.declared.stack.StackId.{StackId}
use Rattle.wire_fields.specs.Formats.{Format}
use Rattle.udp_node.specs.Acting.{Acted, ActedInPart, SavedAndSaid, SavedInPart, kept_then, says, saves}
use Rattle.udp_node.proofs.Telling.{told_is}
use Rattle.lists.specs.Each.{Each}
use Rattle.lists.specs.Prefixes.{IsPrefix}

-- what is said leaves the areas as they are
pub holds_after_saying : {S C O : Type 0} (s : StackId) (f : Format C) (x y : Replica S C O)
    (said : List (Address × List ℕ)) (b c : Option Told) → IfSome b (λ told. Holds s f x.store (kept_of x.state) told.disk) → y ≡ x →
    WhereTold b c (HasSaid said) → IfSome c (λ told. Holds s f y.store (kept_of y.state) told.disk)
holds_after_saying s f x y said None c holds same w = subst (λ (o : Option Told). IfSome o (λ told. Holds s f y.store (kept_of y.state) told.disk)) (sym w) tt
holds_after_saying s f x y said (Some before) None holds same w = tt
holds_after_saying {S} {C} {O} s f x y said (Some before) (Some now) holds same w =
    subst (λ (r : Replica S C O). Holds s f r.store (kept_of r.state) now.disk) (sym same)
    (subst (λ (d : Disk). Holds s f x.store (kept_of x.state) d) (sym (ap (λ x. x.disk) w.is ∙ says_after w.did before.disk w.says)) holds)

module _ {S C O : Type 0} (s : StackId) (config : Config) (m : MachineMeaning S C O) (f : Format C) (g : Format O) (replica : Replica S C O) (event : Event C) where
  abbrev then : KeptView C
  then = kept_then s config m f g replica event

  abbrev Held : Told → Type 0
  Held told = Holds s f replica.store (kept_of replica.state) told.disk

  abbrev Taken : Replica S C O → Type 0
  Taken taken = taken ≡ after_event config m f g replica event

  -- the areas hold a state that the new one continues
  pub held_before : (taken : Replica S C O) → Taken taken → Continues replica.store (kept_of replica.state) (kept_of taken.state) →
      (a : Option Told) → IfSome a Held → IfSome a (IsHeldBefore s f taken.store (kept_of taken.state))
  held_before taken is continues None held = tt
  held_before taken is continues (Some told) held =
      let store : taken.store ≡ replica.store = ap (λ r. r.store) is in
      subst (λ (x : StoreView). IsHeldBefore s f x (kept_of taken.state) told) (sym store) (kept_of replica.state, held, continues)

  continues_as : (taken : Replica S C O) → Taken taken → Continues replica.store (kept_of replica.state) (kept_of taken.state) →
      Continues replica.store (kept_of replica.state) then
  continues_as taken is continues = subst (λ (r : Replica S C O). Continues replica.store (kept_of replica.state) (kept_of r.state)) is continues

  -- the save was cut short
  in_part : (before now : Told) (did : List Act) → IsCutShort (saves s config m f g replica event) did → now.acts ≡ before.acts ++ did →
      LeavesEither s f replica.store then before now → Held before → Continues replica.store (kept_of replica.state) then →
      replica.store.who ≡ who_of config → SavedInPart s config m f g replica event before now
  in_part before now did cut acts leaves held continues who =
      let same : did ≡ leaves.did = append_cancel_left before.acts did leaves.did (sym acts ∙ leaves.acts) in
      record {
        did = leaves.did;
        acts = leaves.acts;
        short = subst (λ (d : List Act). IsCutShort (saves s config m f g replica event) d) same cut;
        either = λ n image may.
            subst (λ (w : Who). OpensAs (found_by s f w) (kept_of replica.state) image ⊎ OpensAs (found_by s f w) then image) who
            (leaves.each (kept_of replica.state) n image held continues may);
      }

  pub saved_in_part : (taken : Replica S C O) → Taken taken → Continues replica.store (kept_of replica.state) (kept_of taken.state) →
      replica.store.who ≡ who_of config → (a b : Option Told) → IfSome a Held →
      StoppedIn a b (state_acts s f taken.store (kept_of taken.state)) →
      WhereTold a b (LeavesEither s f taken.store (kept_of taken.state)) → WhereTold a b (ActedInPart s config m f g replica event)
  saved_in_part taken is continues who None b held stopped leaves = leaves
  saved_in_part taken is continues who (Some before) None held stopped leaves = absurd leaves
  saved_in_part taken is continues who (Some before) (Some now) held stopped leaves =
      let cut = subst (λ (r : Replica S C O). IsCutShort (state_acts s f r.store (kept_of r.state)) stopped.0) is stopped.1 in
      let each = subst (λ (r : Replica S C O). LeavesEither s f r.store (kept_of r.state) before now) is leaves in
      inr (inl (in_part before now stopped.0 cut stopped.2.acts each held (continues_as taken is continues) who))

  -- all was saved, and then this was said
  and_said : (taken : Replica S C O) → Taken taken → Continues replica.store (kept_of replica.state) (kept_of taken.state) → (before mid now : Told) →
      Held before → Saves s f taken.store (kept_of taken.state) before →
      mid ≡ told_after before (state_acts s f taken.store (kept_of taken.state)) → (said : List Act) → now ≡ told_after mid said → Each Says said →
      SavedAndSaid s config m f g replica event said before now
  and_said taken is continues before mid now held keeps saved said e only = record {
    is = e ∙ ap (λ (x : Told). told_after x said) (subst (λ (r : Replica S C O). mid ≡ told_after before (state_acts s f r.store (kept_of r.state))) is saved);
    saved = subst (λ (r : Replica S C O). Saves s f r.store (kept_of r.state) before) is keeps (kept_of replica.state) held (continues_as taken is continues);
    only = only;
  }

  -- what these packets and outputs say, if they are the event's
  same_said : (sends : List (ℕ × RaftMsg C)) (outputs : List (RaftOut O)) → sends ≡ (effect_on config m f g replica event).sends →
      outputs ≡ (effect_on config m f g replica event).outputs → said_of config f g sends outputs ≡ says s config m f g replica event
  same_said sends outputs e d =
      ap (λ x. said_of config f g x outputs) e ∙ ap (λ x. said_of config f g (effect_on config m f g replica event).sends x) d

  module _ (taken : Replica S C O) (is : Taken taken) (continues : Continues replica.store (kept_of replica.state) (kept_of taken.state))
      (sends : List (ℕ × RaftMsg C)) (outputs : List (RaftOut O)) (sent : sends ≡ (effect_on config m f g replica event).sends)
      (told : outputs ≡ (effect_on config m f g replica event).outputs) where
    abbrev list : List (Address × List ℕ)
    list = said_of config f g sends outputs

    pub acted : (a b c : Option Told) → IfSome a Held → IfSome a (Saves s f taken.store (kept_of taken.state)) →
        Did a b (state_acts s f taken.store (kept_of taken.state)) → WhereTold b c (HasSaid list) → WhereTold a c (Acted s config m f g replica event)
    acted None b c held keeps did w = subst (λ (o : Option Told). WhereTold o c (HasSaid list)) did w
    acted (Some before) None c held keeps did w = cc
    acted (Some before) (Some mid) None held keeps did w = absurd w
    acted (Some before) (Some mid) (Some now) held keeps did w = record {
      said = w.did;
      acts = and_said taken is continues before mid now held keeps (told_is before mid _ did) w.did w.is w.says;
      all = w.datagrams ∙ same_said sends outputs sent told;
    }

    pub said_in_part : (a b c : Option Told) → IfSome a Held → IfSome a (Saves s f taken.store (kept_of taken.state)) →
        Did a b (state_acts s f taken.store (kept_of taken.state)) → WhereTold b c (HasBegunToSay list) → WhereTold a c (ActedInPart s config m f g replica event)
    said_in_part None b c held keeps did w = subst (λ (o : Option Told). WhereTold o c (HasBegunToSay list)) did w
    said_in_part (Some before) None c held keeps did w = cc
    said_in_part (Some before) (Some mid) None held keeps did w = absurd w
    said_in_part (Some before) (Some mid) (Some now) held keeps did w = inr (inr (record {
      said = w.did;
      acts = and_said taken is continues before mid now held keeps (told_is before mid _ did) w.did w.is w.says;
      front = subst (λ (l : List (Address × List ℕ)). IsPrefix (datagrams w.did) l) (same_said sends outputs sent told) w.datagrams;
    }))
