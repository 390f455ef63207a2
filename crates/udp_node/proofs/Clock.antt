-- Acts without a clock value, over which a device goes on telling.
use Rattle.std.proofs.Common.{◌≡◌, ◌+◌, ◌≤◌, ℕ, List, [], ◌∷◌, ◌++◌, Option, Some, None, Result, Ok, Err, IfOk, OnErr, OnOk, refl, sym, ap, subst, arith, inl, inr}
use Rattle.disk.specs.Acts.{Act, Took, Quiet, ReceiveFailed, Sent, SendFailed, Wrote, Cut, Synced, StoreFailed}
use Rattle.disk.specs.Areas.{area_at}
use Rattle.disk.specs.Disk.{Image, contents}
use Rattle.node_acts.specs.StateActs.{acts_by_selector, acts_on_slot, opening_acts, renewing_acts}
use Rattle.node_acts.specs.Stores.{StoreView}
use Rattle.node_body.specs.Slots.{slot_found}
use Rattle.node_body.specs.declared.slot.Held.{Held}
use Rattle.node_body.specs.declared.version.Version.{Version}
use Rattle.node_body.specs.declared.version.Version.TheVariants.{One, Two}
use Rattle.node_body.specs.declared.who.Who.{Who}
use Rattle.node_body.specs.declared.why.Why.{Why}
use Rattle.node_config.specs.declared.config.Config.{Config}
use Rattle.node_core.specs.Replicas.{who_of}
use Rattle.node_core.specs.declared.replica.Replica.{Replica}
use Rattle.node_device.proofs.ClockValues.{nows_append}
use Rattle.node_device.specs.Telling.{Told, told_after, nows_in, StoppedIn, TellsOn, WhereTold}
use Rattle.node_records.specs.Records.{Stores}
use Rattle.node_records.proofs.ActKinds.{areas_store, save_on_areas, short_stores}
use Rattle.node_run.specs.Settings.{Settings}
use Rattle.node_run.specs.declared.event.Event.{Event}
use Rattle.raft_types.specs.Messages.{KeptView}
use Rattle.slots.specs.Opening.{named}
use Rattle.slots.specs.Saving.{sync_acts}
use Rattle.slots.specs.Turns.{Says, OnAreas}
use Rattle.vst_base.specs.Machines.{MachineMeaning}
use Rattle.vst_base.specs.declared.stack.StackId.{StackId}
use Rattle.wire_fields.specs.Formats.{Format}
use Rattle.udp_node.specs.Acting.{Acted, ActedInPart, SavedAndSaid, saves}
use Rattle.udp_node.specs.Listening.{HasCutOff, HasReceived, IsCutOff, IsReceipt}
use Rattle.udp_node.specs.Serving.{HasOpened, OpeningEnds, opening_of}
use Rattle.udp_node.specs.declared.fault.NodeFault.{NodeFault}
use Rattle.udp_node.specs.declared.fault.NodeFault.TheVariants as fault
use Rattle.lists.specs.Each.{Each, each_weaker}

-- clock values among acts

none_both : (xs ys : List Act) → nows_in xs ≡ 0 → nows_in ys ≡ 0 → nows_in (xs ++ ys) ≡ 0
none_both xs ys p q = omega (arith, nows_append xs ys, p, q)

none_stored : (acts : List Act) → Each Stores acts → nows_in acts ≡ 0
none_stored [] h = refl
none_stored (Wrote area at bytes ∷ acts) h = none_stored acts h.1
none_stored (Cut area len ∷ acts) h = none_stored acts h.1
none_stored (Synced area ∷ acts) h = none_stored acts h.1
none_stored (StoreFailed call ∷ acts) h = none_stored acts h.1
none_stored (act ∷ acts) h = absurd h.0

none_on_areas : (acts : List Act) → Each OnAreas acts → nows_in acts ≡ 0
none_on_areas acts h = none_stored acts (each_weaker OnAreas Stores areas_store acts h)

none_said : (acts : List Act) → Each Says acts → nows_in acts ≡ 0
none_said [] h = refl
none_said (Sent to bytes ∷ acts) h = none_said acts h.1
none_said (SendFailed to bytes ∷ acts) h = none_said acts h.1
none_said (act ∷ acts) h = absurd h.0

-- acts of an opening are on the areas

renewing_on_areas : {C : Type 0} (s : StackId) (f : Format C) (who : Who) (selector : ℕ) (version : Version) (kept : KeptView C) →
    Each OnAreas (renewing_acts s f who selector version kept)
renewing_on_areas s f who selector One kept = (tt, (tt, (tt, (tt, (tt, tt)))))
renewing_on_areas s f who selector Two kept = tt

slot_on_areas : {C : Type 0} (s : StackId) (f : Format C) (who : Who) (selector : ℕ) (found : Result (Held C) Why) →
    Each OnAreas (acts_on_slot s f who selector found)
slot_on_areas s f who selector (Err why) = tt
slot_on_areas s f who selector (Ok slot) = renewing_on_areas s f who selector slot.version slot.journal.kept

by_selector_on_areas : {C : Type 0} (s : StackId) (f : Format C) (who : Who) (image : Image) (selector : List ℕ) →
    Each OnAreas (acts_by_selector s f who image selector)
by_selector_on_areas s f who image [] = (tt, (tt, (tt, (tt, (tt, (tt, (tt, (tt, tt))))))))
by_selector_on_areas s f who image (selector ∷ []) =
    slot_on_areas s f who selector (slot_found s f who (area_at image (named selector)))
by_selector_on_areas s f who image (a ∷ b ∷ rest) = tt

opening_on_areas : {C : Type 0} (s : StackId) (f : Format C) (who : Who) (image : Image) →
    Each OnAreas (opening_acts s f who image)
opening_on_areas s f who image = (tt, (tt, (tt, by_selector_on_areas s f who image image.selector)))

-- going on

pub tells_same : (a : Option Told) → TellsOn 0 a a
tells_same None = refl
tells_same (Some told) = omega arith

pub tells_more : (j k : ℕ) → j ≤ k → (a b : Option Told) → TellsOn j a b → TellsOn k a b
tells_more j k le None b p = p
tells_more j k le (Some before) None p = omega (arith, le, p)
tells_more j k le (Some before) (Some now) p = omega (arith, le, p)

pub tells_both : (j k : ℕ) (a b c : Option Told) → TellsOn j a b → TellsOn k b c → TellsOn (j + k) a c
tells_both j k None b c p q = subst (λ (o : Option Told). TellsOn k o c) p q
tells_both j k (Some before) None c p q = subst (λ (o : Option Told). TellsOn (j + k) (Some before) o) (sym q) (omega (arith, p))
tells_both j k (Some before) (Some mid) None p q = omega (arith, p, q)
tells_both j k (Some before) (Some mid) (Some now) p q = omega (arith, p, q)

quiet_did : (before now : Told) (did : List Act) → now.acts ≡ before.acts ++ did → nows_in did ≡ 0 → nows_in now.acts ≤ nows_in before.acts + 0
quiet_did before now did is none = omega (arith, ap nows_in is, nows_append before.acts did, none)

quiet_after : (before now : Told) (did : List Act) → now ≡ told_after before did → nows_in did ≡ 0 → nows_in now.acts ≤ nows_in before.acts + 0
quiet_after before now did is none = quiet_did before now did (ap (λ (told : Told). told.acts) is) none

quiet_cut : (before now : Told) (acts : List Act) → Each OnAreas acts → StoppedIn (Some before) (Some now) acts → nows_in now.acts ≤ nows_in before.acts + 0
quiet_cut before now acts on s = quiet_did before now s.0 s.2.acts (none_stored s.0 (short_stores acts s.0 on s.1))

-- what is told over such acts
quiet_where : (P : Told → Told → Type 0) (a b : Option Told) → WhereTold a b P → ((before now : Told) → P before now → nows_in now.acts ≤ nows_in before.acts + 0) →
    TellsOn 0 a b
quiet_where P None b p by = p
quiet_where P (Some before) None p by = absurd p
quiet_where P (Some before) (Some now) p by = by before now p

-- a receive

none_received : {C : Type 0} (settings : Settings) (f : Format C) (wait : ℕ) (act : Act) (event : Option (Event C)) → IsReceipt settings f wait act event →
    nows_in (act ∷ []) ≡ 0
none_received settings f wait (Took w from bytes) event r = refl
none_received settings f wait (Quiet w) event r = refl
none_received settings f wait act event r = absurd r

none_cut_off : (wait : ℕ) (acts : List Act) → IsCutOff wait acts → nows_in acts ≡ 0
none_cut_off wait [] c = refl
none_cut_off wait (Took w from bytes ∷ []) c = refl
none_cut_off wait (ReceiveFailed w ∷ []) c = refl
none_cut_off wait acts c = absurd c

pub heard_tells : {C E : Type 0} (settings : Settings) (f : Format C) (wait : ℕ) (a b : Option Told) (r : Result (Option (Event C)) E) →
    IfOk r (λ event. WhereTold a b (HasReceived settings f wait event)) → OnErr r (WhereTold a b (HasCutOff wait)) → TellsOn 0 a b
heard_tells settings f wait a b (Ok event) p q =
    quiet_where (HasReceived settings f wait event) a b p
    (λ before now x. quiet_after before now (x.act ∷ []) x.is (none_received settings f wait x.act event x.receipt))
heard_tells settings f wait a b (Err e) p q =
    quiet_where (HasCutOff wait) a b q (λ before now x. quiet_after before now x.acts x.is (none_cut_off wait x.acts x.cut))

-- an event's acts

module _ {S C O : Type 0} (s : StackId) (config : Config) (m : MachineMeaning S C O) (f : Format C) (g : Format O)
    (replica : Replica S C O) (event : Event C) where
  quiet_said : (said : List Act) (before now : Told) → SavedAndSaid s config m f g replica event said before now → nows_in now.acts ≤ nows_in before.acts + 0
  quiet_said said before now x =
      let first = saves s config m f g replica event in
      let saved = quiet_after before (told_after before first) first refl (none_on_areas first (save_on_areas s f replica.store _)) in
      omega (arith, saved, quiet_after (told_after before first) now said x.is (none_said said x.only))

  quiet_part : (before now : Told) → ActedInPart s config m f g replica event before now → nows_in now.acts ≤ nows_in before.acts + 0
  quiet_part before now (inl same) = omega (arith, ap (λ (told : Told). nows_in told.acts) same)
  quiet_part before now (inr (inl x)) =
      quiet_did before now x.did x.acts
      (none_stored x.did (short_stores (saves s config m f g replica event) x.did (save_on_areas s f replica.store _) x.short))
  quiet_part before now (inr (inr x)) = quiet_said x.said before now x.acts

  pub acted_tells : {T E : Type 0} (a b : Option Told) (r : Result T E) → OnOk r (WhereTold a b (Acted s config m f g replica event)) →
      OnErr r (WhereTold a b (ActedInPart s config m f g replica event)) → TellsOn 0 a b
  acted_tells a b (Ok x) p q = quiet_where (Acted s config m f g replica event) a b p (λ before now x. quiet_said x.said before now x.acts)
  acted_tells a b (Err e) p q = quiet_where (ActedInPart s config m f g replica event) a b q quiet_part

-- an opening

module _ {C : Type 0} (s : StackId) (config : Config) (f : Format C) where
  on_areas : (before : Told) → Each OnAreas (opening_of s config f before)
  on_areas before = opening_on_areas s f (who_of config) (contents before.disk)

  quiet_opened : (store : StoreView) (kept : KeptView C) (before now : Told) → HasOpened s config f store kept before now →
      nows_in now.acts ≤ nows_in before.acts + 0
  quiet_opened store kept before now x = quiet_after before now (opening_of s config f before) x.is (none_on_areas (opening_of s config f before) (on_areas before))

  quiet_ended : (e : NodeFault) (before now : Told) → OpeningEnds s config f e before now → nows_in now.acts ≤ nows_in before.acts + 0
  quiet_ended (fault.Refused why) before now x = quiet_after before now sync_acts x.is refl
  quiet_ended fault.Receive before now x = absurd x
  quiet_ended fault.Store before now x = quiet_cut before now (opening_of s config f before) (on_areas before) x.stopped
  quiet_ended fault.Memory before now x = quiet_cut before now (opening_of s config f before) (on_areas before) x.stopped

  pub opened_tells : (store : StoreView) (kept : KeptView C) (a b : Option Told) → WhereTold a b (HasOpened s config f store kept) → TellsOn 0 a b
  opened_tells store kept a b p = quiet_where (HasOpened s config f store kept) a b p (quiet_opened store kept)

  pub ended_tells : (e : NodeFault) (a b : Option Told) → WhereTold a b (OpeningEnds s config f e) → TellsOn 0 a b
  ended_tells e a b p = quiet_where (OpeningEnds s config f e) a b p (quiet_ended e)
