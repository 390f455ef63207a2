-- One turn of a node: what it heard, and what it did with the event that this was.
use Rattle.std.proofs.Common.{◌≡◌, ℕ, List, [], ◌∷◌, Option, Some, None, IfSome, IfOk, OnOk, OnErr, Result, Ok, Err, arith, sym, ap, subst, ◌∙◌, inl, inr}
use Rattle.disk.specs.Acts.{Act}
use Rattle.disk.specs.Disk.{Disk}
use Rattle.node_acts.specs.Stores.{Holds}
use Rattle.node_config.specs.declared.config.Config.{Config}
use Rattle.node_core.specs.Replicas.{IsReady, effect_on, kept_of, view_of, who_of}
use Rattle.node_core.specs.declared.replica.Replica.{Replica}
use Rattle.node_core.specs.declared.shipped.Shipped.{Shipped}
use Rattle.node_datagrams.specs.Configured.{settings_of}
use Rattle.node_device.specs.Telling.{Told, told_after, WhereTold}
use Rattle.node_progress.proofs.Going.{who_after}
use Rattle.node_progress.proofs.Halting.{heard_halts, save_halts, say_halts}
use Rattle.node_progress.proofs.Turns.{event_goes, quiet_goes}
use Rattle.node_records.proofs.ActKinds.{hears_after}
use Rattle.node_run.specs.Events.{said_by}
use Rattle.node_run.specs.Runs.{Done, Between}
use Rattle.node_run.specs.declared.event.Event.{Event}
use Rattle.slots.specs.Turns.{Hears as Heeds}
use Rattle.vst_base.specs.Machines.{MachineMeaning}
use Rattle.vst_base.specs.declared.stack.StackId.{StackId}
use Rattle.wire_fields.specs.Formats.{Format}
use Rattle.udp_node.specs.Acting.{Acted, ActedInPart, next_replica}
use Rattle.udp_node.specs.Listening.{HasHeard, HasStoppedHearing, Hears}
use Rattle.udp_node.specs.Serving.{Halted, StillTold, Went}
use Rattle.udp_node.proofs.Telling.{still_as, still_if, still_then}
use Rattle.lists.specs.Each.{Each}

module _ {S C O : Type 0} (s : StackId) (config : Config) (m : MachineMeaning S C O) (f : Format C) (g : Format O) (replica : Replica S C O)
    (who : replica.store.who ≡ who_of config) (stack : config.stack ≡ s) where
  abbrev Held : Told → Type 0
  Held told = Holds s f replica.store (kept_of replica.state) told.disk

  -- a turn without an event
  pub went_quiet : (time : ℕ) (before now : Told) → Held before → HasHeard S (settings_of config) f g (view_of replica) time None before now →
      Went s config m f g replica 1 replica before now
  went_quiet time before now held heard =
      subst (λ (x : Told). Went s config m f g replica 1 replica before x) (sym heard.is)
      (quiet_goes (settings_of config) m s f g (who_of config) (Between (view_of replica)) (kept_of replica.state) replica.store 1 (view_of replica)
      heard.acts before (heard.heard m) held who)

  -- one that was cut short as the node heard
  pub halted_hearing : (before now : Told) → Held before → HasStoppedHearing S (settings_of config) f g (view_of replica) before now →
      Halted s config m f g replica 1 before now
  halted_hearing before now held stopped =
      let x = stopped.heard m in
      let halts =
      heard_halts (settings_of config) m s f g (who_of config) (Between (view_of replica)) x.next (kept_of replica.state) replica.store x.done x.count
      stopped.acts before x.heard x.one held who in
      subst (λ (y : Told). Halted s config m f g replica 1 before y) (sym stopped.is)
      (record {
        did = halts.did;
        acts = halts.acts;
        stopped = record { of_turns = halts.stopped.of_turns; orderly = halts.stopped.orderly; turns = omega (arith, halts.stopped.turns, x.few); stored = halts.stopped.stored; said = halts.stopped.said };
        leaves = halts.leaves;
      })

  -- the disk is as it was before what was heard
  hears_any : (acts : List Act) (time : ℕ) (e : Option (Event C)) → Hears (settings_of config) m f g (view_of replica) time acts e → Each Heeds acts
  hears_any acts time None x = x.hears
  hears_any acts time (Some event) x = x.hears

  pub held_then : (time : ℕ) (e : Option (Event C)) (clocked : Replica S C O) → clocked ≡ record replica { time = clocked.time } → (before now : Told) → Held before →
      HasHeard S (settings_of config) f g (view_of replica) time e before now → Holds s f clocked.store (kept_of clocked.state) now.disk
  held_then time e clocked same before now held heard =
      let disk : now.disk ≡ before.disk = ap (λ x. x.disk) heard.is ∙ hears_after heard.acts before.disk (hears_any heard.acts time e (heard.heard m)) in
      subst (λ (r : Replica S C O). Holds s f r.store (kept_of r.state) now.disk) (sym same)
      (subst (λ (d : Disk). Holds s f replica.store (kept_of replica.state) d) (sym disk) held)

  module _ (event : Event C) (time : ℕ) where
    abbrev clocked : Replica S C O
    clocked = record replica { time = time }

    abbrev next : Replica S C O
    next = next_replica s config m f g clocked event

    -- the event, as the node's run decides it
    abbrev decided : Done C
    decided = record {
      event = event;
      kept = kept_of (effect_on config m f g clocked event).state;
      said = said_by (settings_of config) f g (effect_on config m f g clocked event);
    }

    went_then : (before now : Told) (acts : List Act) → Held before → Hears (settings_of config) m f g (view_of replica) time acts (Some event) →
        Acted s config m f g clocked event (told_after before acts) now → Went s config m f g replica 1 next before now
    went_then before now acts held heard acted =
        event_goes (settings_of config) m s f g (who_of config) (Between (view_of replica)) (kept_of replica.state) replica.store 1 (view_of next) decided
        acts acted.said before now stack heard held who acted.acts.saved acted.acts.only acted.all acted.acts.is

    pub went_event : (before mid now : Told) → Held before → HasHeard S (settings_of config) f g (view_of replica) time (Some event) before mid →
        Acted s config m f g clocked event mid now → Went s config m f g replica 1 next before now
    went_event before mid now held heard acted =
        went_then before now heard.acts held (heard.heard m) (subst (λ (x : Told). Acted s config m f g clocked event x now) heard.is acted)

    halted_then : (before now : Told) (acts : List Act) → Held before → Hears (settings_of config) m f g (view_of replica) time acts (Some event) →
        ActedInPart s config m f g clocked event (told_after before acts) now → Halted s config m f g replica 1 before now
    halted_then before now acts held heard (inl same) =
        subst (λ (x : Told). Halted s config m f g replica 1 before x) (sym same)
        (heard_halts (settings_of config) m s f g (who_of config) (Between (view_of replica)) (Between (view_of next)) (kept_of replica.state) replica.store
        (decided ∷ []) 1 acts before heard (omega arith) held who)
    halted_then before now acts held heard (inr (inl saved)) =
        save_halts (settings_of config) m s f g (who_of config) (Between (view_of replica)) (kept_of replica.state) replica.store 1 (view_of next) decided
        acts saved.did before now stack heard held who saved.short saved.either saved.acts
    halted_then before now acts held heard (inr (inr said)) =
        say_halts (settings_of config) m s f g (who_of config) (Between (view_of replica)) (kept_of replica.state) replica.store 1 (view_of next) decided
        acts said.said before now stack heard held who said.acts.saved said.acts.only said.front said.acts.is

    pub halted_event : (before mid now : Told) → Held before → HasHeard S (settings_of config) f g (view_of replica) time (Some event) before mid →
        ActedInPart s config m f g clocked event mid now → Halted s config m f g replica 1 before now
    halted_event before mid now held heard acted =
        halted_then before now heard.acts held (heard.heard m) (subst (λ (x : Told). ActedInPart s config m f g clocked event x now) heard.is acted)

  -- the same by what is told

  pub turn_holds : (time : ℕ) (e : Option (Event C)) (clocked : Replica S C O) → clocked ≡ record replica { time = clocked.time } → (a b : Option Told) →
      IfSome a Held → StillTold 1 a b (HasHeard S (settings_of config) f g (view_of replica) time e) →
      IfSome b (λ told. Holds s f clocked.store (kept_of clocked.state) told.disk)
  turn_holds time e clocked same a b held heard =
      still_if Held (λ told. Holds s f clocked.store (kept_of clocked.state) told.disk)
      (HasHeard S (settings_of config) f g (view_of replica) time e) 1 a b held heard (held_then time e clocked same)

  pub turn_quiet : (time : ℕ) (e : Option (Event C)) → e ≡ None → (clocked : Replica S C O) → clocked ≡ record replica { time = clocked.time } → (a b : Option Told) →
      IfSome a Held → StillTold 1 a b (HasHeard S (settings_of config) f g (view_of replica) time e) →
      StillTold 1 a b (Went s config m f g replica 1 clocked)
  turn_quiet time e none clocked same a b held heard =
      subst (λ (r : Replica S C O). StillTold 1 a b (Went s config m f g replica 1 r)) (sym same)
      (still_as Held (HasHeard S (settings_of config) f g (view_of replica) time None) (Went s config m f g replica 1 replica) 1 a b held
      (subst (λ (o : Option (Event C)). StillTold 1 a b (HasHeard S (settings_of config) f g (view_of replica) time o)) none heard) (went_quiet time))

  pub turn_halts_hearing : (a b : Option Told) → IfSome a Held → StillTold 1 a b (HasStoppedHearing S (settings_of config) f g (view_of replica)) →
      StillTold 1 a b (Halted s config m f g replica 1)
  turn_halts_hearing a b held stopped =
      still_as Held (HasStoppedHearing S (settings_of config) f g (view_of replica)) (Halted s config m f g replica 1) 1 a b held stopped halted_hearing

  module _ (clocked : Replica S C O) (same : clocked ≡ record replica { time = clocked.time }) (e : Option (Event C)) (event : Event C) (is : e ≡ Some event)
      (a b c : Option Told) (held : IfSome a Held) (heard : StillTold 1 a b (HasHeard S (settings_of config) f g (view_of replica) clocked.time e)) where
    heard_event : StillTold 1 a b (HasHeard S (settings_of config) f g (view_of replica) clocked.time (Some event))
    heard_event = subst (λ (o : Option (Event C)). StillTold 1 a b (HasHeard S (settings_of config) f g (view_of replica) clocked.time o)) is heard

    next_same : next_replica s config m f g clocked event ≡ next event clocked.time
    next_same = ap (λ (r : Replica S C O). next_replica s config m f g r event) same

    pub turn_went : {E : Type 0} (r : Result (Shipped S C O) E) → OnOk r (WhereTold b c (Acted s config m f g clocked event)) →
        IfOk r (λ shipped. shipped.replica ≡ next_replica s config m f g clocked event) →
        IfOk r (λ shipped. StillTold 1 a c (Went s config m f g replica 1 shipped.replica))
    turn_went (Err e) acted is_next = tt
    turn_went (Ok shipped) acted is_next =
        subst (λ (r : Replica S C O). StillTold 1 a c (Went s config m f g replica 1 r)) (sym (is_next ∙ next_same))
        (still_then Held (HasHeard S (settings_of config) f g (view_of replica) clocked.time (Some event))
        (Acted s config m f g (record replica { time = clocked.time }) event)
        (Went s config m f g replica 1 (next event clocked.time)) 1 a b c held heard_event
        (subst (λ (r : Replica S C O). WhereTold b c (Acted s config m f g r event)) same acted)
        (went_event event clocked.time))

    pub turn_halts : {T E : Type 0} (r : Result T E) → OnErr r (WhereTold b c (ActedInPart s config m f g clocked event)) →
        OnErr r (StillTold 1 a c (Halted s config m f g replica 1))
    turn_halts (Ok x) acted = tt
    turn_halts (Err e) acted =
        still_then Held (HasHeard S (settings_of config) f g (view_of replica) clocked.time (Some event))
        (ActedInPart s config m f g (record replica { time = clocked.time }) event)
        (Halted s config m f g replica 1) 1 a b c held heard_event
        (subst (λ (r : Replica S C O). WhereTold b c (ActedInPart s config m f g r event)) same acted)
        (halted_event event clocked.time)

-- a node that read its clock is as ready as before
pub ready_at : {S C O : Type 0} (s : StackId) (replica clocked : Replica S C O) → clocked ≡ record replica { time = clocked.time } → IsReady s replica → IsReady s clocked
ready_at {S} {C} {O} s replica clocked same ready =
    subst (λ (r : Replica S C O). IsReady s r) (sym same)
    (record { is = record { of = ready.is.of; sound = ready.is.sound }; knows = record { term = ready.knows.term; voted = ready.knows.voted; terms = ready.knows.terms } })

-- whose state it is stays
pub who_stays : {S C O E : Type 0} (s : StackId) (config : Config) (m : MachineMeaning S C O) (f : Format C) (g : Format O)
    (replica clocked : Replica S C O) (event : Event C) → replica.store.who ≡ who_of config → clocked ≡ record replica { time = clocked.time } →
    (r : Result (Shipped S C O) E) → IfOk r (λ shipped. shipped.replica ≡ next_replica s config m f g clocked event) →
    IfOk r (λ shipped. shipped.replica.store.who ≡ who_of config)
who_stays s config m f g replica clocked event who same (Err e) is = tt
who_stays s config m f g replica clocked event who same (Ok shipped) is =
    ap (λ r. r.store.who) is ∙ (who_after s f clocked.store _ ∙ (ap (λ r. r.store.who) same ∙ who))
