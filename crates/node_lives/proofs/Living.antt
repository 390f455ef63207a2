-- One life, from its opening to its kill: its deeds store first, and its areas open as these say.
use Rattle.std.proofs.Common.{◌≡◌, ℕ, zero, suc, ◌-◌, ◌<◌, ◌≤◌, true, List, [], ◌∷◌, ◌++◌, length, take, Option, None, Some, refl, sym, ap, subst, ◌∙◌, append_assoc, ◌⊎◌, inl, inr, arith}
use Rattle.std.proofs.lemmas.Bool.{cases_lt}
use Rattle.std.proofs.lemmas.List.{append_cancel_left, length-append, take-append-le, take_all}
use Rattle.std.proofs.Math.Seq.{take-append-add}
use Rattle.cluster_histories.specs.Deeds.{Opened, StoresFirst_from, after_deeds}
use Rattle.disk.specs.Acts.{Act, Now, Took}
use Rattle.disk.specs.Disk.{Disk, Image, after, contents, may_become, may_hold, may_leave}
use Rattle.disk.specs.DiskLaws.{IsCutShort}
use Rattle.disk.proofs.Between.{by_model}
use Rattle.disk.proofs.CutShort.{fronts_are_cut_short}
use Rattle.disk.proofs.Disks.{holds_self}
use Rattle.handler_trait.specs.Handling.{Meaning, Recovery}
use Rattle.lists.specs.Prefixes.{IsPrefix}
use Rattle.node_acts.specs.StateActs.{first_kept}
use Rattle.node_acts.specs.StateLaws.{IsAsFound}
use Rattle.node_acts.specs.Stores.{StoreView, found_by}
use Rattle.node_acts.proofs.StateOpens.{syncs_leave}
use Rattle.node_config.specs.declared.config.Config.{Config}
use Rattle.node_core.specs.Replicas.{kept_of, view_of, who_of}
use Rattle.node_core.specs.declared.replica.Replica.{Replica}
use Rattle.node_datagrams.specs.Configured.{settings_of}
use Rattle.node_device.specs.Telling.{Told, told_after}
use Rattle.node_progress.proofs.Going.{told_twice}
use Rattle.node_records.proofs.ActKinds.{whole as all_cut_short}
use Rattle.node_records.proofs.Folds.{done_append, kept_append, stage_append}
use Rattle.node_records.specs.Moments.{Leaves}
use Rattle.node_records.specs.Records.{kept_by}
use Rattle.node_run.specs.Events.{event_of}
use Rattle.node_run.specs.Runs.{Between, Done, NodeView, Stage, Starting, Step, Waiting, begins, done_in, stage_after, step, takes_if, turns_in}
use Rattle.node_run.specs.Settings.{Settings, due}
use Rattle.node_run.specs.declared.due.Due.{Due}
use Rattle.node_run.specs.declared.due.Due.TheVariants.{Timeout, Wait}
use Rattle.node_run.specs.declared.event.Event.{Event}
use Rattle.node_state.specs.Crashes.{LeavesFound}
use Rattle.node_state.specs.declared.opening.Refusal.{Refusal}
use Rattle.raft_types.specs.Messages.{KeptView}
use Rattle.raft_types.specs.declared.client.RaftInput.{RaftInput}
use Rattle.raft_types.specs.declared.client.RaftOut.{RaftOut}
use Rattle.raft_types.specs.declared.msg.RaftMsg.{RaftMsg}
use Rattle.raft_xform.specs.Nodes.{RaftView}
use Rattle.raft_xform.specs.Raft.{raft, raft_recovery}
use Rattle.slots.proofs.Elsewhere.{after_append}
use Rattle.slots.specs.Opening.{Found}
use Rattle.slots.specs.Saving.{sync_acts}
use Rattle.udp_node.specs.Serving.{EndsWith, HasOpened, HasServed, Interrupted, IsRefused, Served, StartsFrom, Unopened, Went, WentEach, found_in, opening_of}
use Rattle.udp_node.specs.declared.fault.NodeFault.{NodeFault}
use Rattle.udp_node.specs.declared.fault.NodeFault.TheVariants as fault
use Rattle.vst_base.specs.Machines.{MachineMeaning}
use Rattle.vst_base.specs.declared.stack.StackId.{StackId}
use Rattle.wire_fields.specs.Formats.{Format}
use Rattle.node_lives.specs.LifeDeeds.{IsLifeOf, RaftDeed}
use Rattle.node_lives.specs.Lives.{IsLife, Life, left_by}
use Rattle.node_lives.proofs.Opening.{IsDurable, cut_short_is_durable, may_start, starts_as}
use Rattle.node_lives.proofs.Stages.{RaftRunning}
use Rattle.node_lives.proofs.Turning.{Does, DoesAt, does_at_both, ran, turn_does}

-- a turn decides an event at most

module _ {S C O : Type 0} (settings : Settings) (m : MachineMeaning S C O) (f : Format C) (g : Format O) where
  abbrev FewDone : Step S C O → Type 0
  FewDone next = length next.done ≤ next.turns

  begins_few : (node : NodeView S C O) (time : ℕ) (is : Due) → FewDone (begins settings m f g node time is)
  begins_few node time Timeout = omega arith
  begins_few node time (Wait ms) = omega arith

  takes_few : (node : NodeView S C O) (time : ℕ) (event : Option (Event C)) → FewDone (takes_if settings m f g node time event)
  takes_few node time None = omega arith
  takes_few node time (Some event) = omega arith

  step_few : (stage : Stage S C O) (act : Act) → FewDone (step settings m f g stage act)
  step_few (Starting kept) (Now time) = omega arith
  step_few (Between node) (Now time) = begins_few node time (due node.deadline time)
  step_few (Waiting node time) (Took wait from bytes) = takes_few node time (event_of settings f from bytes)
  step_few stage act = omega arith

  few_done : (stage : Stage S C O) (acts : List Act) → length (done_in settings m f g stage acts) ≤ turns_in settings m f g stage acts
  few_done stage [] = omega arith
  few_done stage (act ∷ acts) =
      let next = step settings m f g stage act in
      omega (arith, step_few stage act, few_done next.stage acts, length-append next.done (done_in settings m f g next.stage acts))

module _ {S C O : Type 0} (s : StackId) (config : Config) (m : MachineMeaning S C O) (f : Format C) (g : Format O) where
  abbrev settings : Settings
  settings = settings_of config

  abbrev found : List ℕ → Found (KeptView C)
  found bytes = found_by s f (who_of config) bytes

  abbrev handlers : Meaning (RaftView S C O) (RaftInput C) (RaftOut O) (RaftMsg C)
  handlers = raft (length config.peers) m

  abbrev recovery : Recovery (RaftView S C O) (KeptView C)
  recovery = raft_recovery m

  abbrev decides : Stage S C O → List Act → List (Done C)
  decides stage acts = done_in settings m f g stage acts

  abbrev stands : Stage S C O → List Act → Stage S C O
  stands stage acts = stage_after settings m f g stage acts

  -- a node that has opened its areas
  abbrev booted : KeptView C → RaftRunning S C O
  booted kept = record { state = recovery.reboot config.me kept; sends = []; outputs = []; before = None }

  abbrev does : KeptView C → Told → List Act → Type 0
  does kept opened acts = Does settings m f g found (Starting kept) kept (booted kept) opened.disk acts

  abbrev does_at : KeptView C → Told → List Act → Type 0
  does_at kept opened acts = DoesAt settings m f g found (Starting kept) kept (booted kept) opened.disk acts

  -- since its opening it went through these turns, and is this then
  record Stood (kept : KeptView C) (opened : Told) (replica : Replica S C O) (now : Told) : Type 0 where
    pub acts : List Act
    pub is : now ≡ told_after opened acts
    pub each : does_at kept opened acts
    pub all : does kept opened acts
    pub stage : stands (Starting kept) acts ≡ Between (view_of replica)
    pub keeps : kept_by kept (decides (Starting kept) acts) ≡ kept_of replica.state

  whole_of : (kept : KeptView C) (opened : Told) (acts : List Act) → does_at kept opened acts → does kept opened acts
  whole_of kept opened acts each = subst (does kept opened) (take_all (length acts) acts (omega arith)) (each (length acts))

  -- one turn more, whole or cut short
  more_at : (kept : KeptView C) (opened : Told) (replica : Replica S C O) (mid : Told) (st : Stood kept opened replica mid)
      (did : List Act) →
      Leaves settings m f g found (Between (view_of replica)) (kept_of replica.state) mid.disk did →
      turns_in settings m f g (Between (view_of replica)) did ≤ 1 →
      does_at kept opened (st.acts ++ did)
  more_at kept opened replica mid st did leaves one =
      let there : Leaves settings m f g found (stands (Starting kept) st.acts) (kept_by kept (decides (Starting kept) st.acts))
      (after opened.disk st.acts) did =
      subst (λ (at : Stage S C O). Leaves settings m f g found at (kept_by kept (decides (Starting kept) st.acts))
      (after opened.disk st.acts) did) (sym st.stage)
      (subst (λ (k : KeptView C). Leaves settings m f g found (Between (view_of replica)) k (after opened.disk st.acts) did) (sym st.keeps)
      (subst (λ (told : Told). Leaves settings m f g found (Between (view_of replica))
      (kept_of replica.state) told.disk did) st.is leaves)) in
      let few : length (decides (stands (Starting kept) st.acts) did) ≤ 1 =
      subst (λ (at : Stage S C O). length (decides at did) ≤ 1) (sym st.stage) (omega (
        arith,
        one,
        few_done settings m f g (Between
            (view_of replica)) did,
      )) in
      does_at_both settings m f g found (Starting kept) kept (booted kept) opened.disk st.acts did st.each st.all
      (turn_does settings m f g found (stands (Starting kept) st.acts) (kept_by kept (decides (Starting kept) st.acts))
      (ran settings m f g found (booted kept) st.all.deeds)
      (after opened.disk st.acts) did st.all.has st.all.keeps there few)

  went : (kept : KeptView C) (opened : Told) (replica next : Replica S C O) (mid now : Told) → Stood kept opened replica mid →
      Went s config m f g replica 1 next mid now → Stood kept opened next now
  went kept opened replica next mid now st w =
      let each = more_at kept opened replica mid st w.did (λ n image may. (w.leaves n image may).at)
      (let e = w.record_is.turns in omega arith) in
      record {
        acts = st.acts ++ w.did;
        is = w.is ∙ (ap (λ (told : Told). told_after told w.did) st.is ∙ told_twice opened st.acts w.did);
        each = each;
        all = whole_of kept opened (st.acts ++ w.did) each;
        stage = stage_append settings m f g (Starting kept) st.acts w.did ∙ (ap (λ (at : Stage S C O). stands at w.did) st.stage
            ∙ w.stands);
        keeps = ap (kept_by kept) (done_append settings m f g (Starting kept) st.acts w.did)
            ∙ (kept_append kept (decides (Starting kept) st.acts) (decides (stands (Starting kept) st.acts) w.did)
            ∙ ((λ i. kept_by (st.keeps i) (decides (st.stage i) w.did)) ∙ w.keeps));
      }

  went_each : (count : ℕ) (kept : KeptView C) (opened : Told) (replica next : Replica S C O) (mid now : Told) →
      Stood kept opened replica mid →
      WentEach s config m f g count replica next mid now → Stood kept opened next now
  went_each zero kept opened replica next mid now st w = subst (λ (r : Replica S C O). Stood kept opened r now) (sym w.0) (subst
      (Stood kept opened replica) (sym w.1) st)
  went_each (suc count) kept opened replica next mid now st (middle, told, before, last) =
      went kept opened middle next told now (went_each count kept opened replica middle mid told st before) last

  -- its first clock value
  stood_first : (first : Replica S C O) (before begun : Told) (start : Served s config m f g 0 first before begun) →
      Stood start.kept start.opened first begun
  stood_first first before begun start =
      let t = start.turns in
      let kept = start.kept in
      let few : length (decides (Starting kept) t.did) ≤ 1 = let e = t.record_is.turns in omega (
        arith,
        few_done settings m f g
            (Starting kept) t.did,
      ) in
      let each : does_at kept start.opened t.did =
      turn_does settings m f g found (Starting kept) kept (booted kept) start.opened.disk t.did refl refl (λ n image may.
      (t.leaves n image may).at) few in
      record { acts = t.did; is = t.is; each = each; all = whole_of kept start.opened t.did each; stage = t.stands; keeps = t.keeps }

  -- what a life is to a node that ran like this
  pub record Lived (x : RaftRunning S C O) (life : Life) : Type 0 where
    pub deeds : List (RaftDeed C O)
    pub of : IsLifeOf s config m f g life deeds
    pub stores : StoresFirst_from handlers recovery config.me x deeds
    pub durable : IsDurable s config m f (after_deeds handlers recovery config.me x deeds) (left_by life)

  module _ (x : RaftRunning S C O) (life : Life) (durable : IsDurable s config m f x life.begun.disk) where
    abbrev disk : Disk
    disk = life.begun.disk

    abbrev opening : List Act
    opening = opening_of s config f life.begun

    reads : may_hold disk (contents disk) ≡ true
    reads = holds_self may_become by_model disk

    -- it ended in its opening
    ended : IsCutShort opening life.acts →
        ((image : Image) → may_leave disk life.acts image ≡ true → take 3 life.acts ≡ sync_acts →
        IsAsFound found first_kept disk image) → Lived x life
    ended short leaves = record {
      deeds = [];
      of = inl (record { acts = short; none = refl });
      stores = tt;
      durable = cut_short_is_durable s config m f x disk life.acts durable short leaves;
    }

    ended_as_found : (now : Told) (whole : List Act) → LeavesFound s f (who_of config) life.begun now →
        now.acts ≡ life.begun.acts ++ whole →
        IsCutShort opening whole → IsPrefix life.acts whole → Lived x life
    ended_as_found now whole found_so told short front =
        let n = length life.acts in
        let same : found_so.did ≡ whole = append_cancel_left life.begun.acts found_so.did whole (sym found_so.acts ∙ told) in
        let cut : take n found_so.did ≡ life.acts = ap (take n) same ∙ front in
        ended (subst (IsCutShort opening) front (fronts_are_cut_short opening whole n short))
        (λ image may third. found_so.each n image (subst (λ (acts : List Act). may_leave disk acts image ≡ true) (sym cut) may)
        (ap (take 3) cut ∙ third))

    -- it opened its areas, and went on
    opened_and_did : (kept : KeptView C) (turns : List Act) → life.acts ≡ opening ++ turns →
        StartsFrom (found_in s config f life.begun) kept →
        Does settings m f g found (Starting kept) kept (booted kept) (after disk opening) turns → Lived x life
    opened_and_did kept turns is from d = record {
      deeds = Opened kept ∷ d.deeds;
      of = inr (record { kept = kept; turns = turns; later = d.deeds; acts = is; from = from; of_turns = d.of; are = refl });
      stores = (may_start s config m f x (contents disk) kept (durable (contents disk) reads) from, d.stores);
      durable = λ image may.
          let w = d.opens image (subst (λ (there : Disk). may_hold there image ≡ true) (ap (after disk) is
          ∙ after_append disk opening turns) may) in
          starts_as s config m f (ran settings m f g found (booted kept) d.deeds) image w.0 w.1 w.2;
    }

    of_opened : (store : StoreView) (kept : KeptView C) (opened now : Told) (whole turns : List Act) →
        HasOpened s config f store kept life.begun opened →
        does_at kept opened turns → now.acts ≡ opened.acts ++ turns → now.acts ≡ life.begun.acts ++ whole → IsPrefix life.acts whole →
        Lived x life
    of_opened store kept opened now whole turns start each did told front = by (cases_lt (length life.acts) (length opening))
      where
        acts_opened : opened.acts ≡ life.begun.acts ++ opening
        acts_opened = ap (λ (t : Told). t.acts) start.is

        whole_is : whole ≡ opening ++ turns
        whole_is =
            append_cancel_left life.begun.acts whole (opening ++ turns)
            (sym told ∙ (did ∙ (ap (λ acts. acts ++ turns) acts_opened ∙ append_assoc life.begun.acts opening turns)))

        front_is : take (length life.acts) (opening ++ turns) ≡ life.acts
        front_is = ap (take (length life.acts)) (sym whole_is) ∙ front

        by : (length life.acts < length opening) ⊎ (length opening ≤ length life.acts) → Lived x life
        by (inl l) =
            ended_as_found opened opening start.leaves acts_opened (all_cut_short opening)
            (sym (take-append-le (length life.acts) opening turns (omega (arith, l))) ∙ front_is)
        by (inr l) =
            let rest = length life.acts - length opening in
            opened_and_did kept (take rest turns)
            (sym front_is ∙ (ap (λ k. take k (opening ++ turns)) (omega (arith, l)) ∙ take-append-add opening turns rest)) start.from
            (subst (λ (t : Told). Does settings m f g found (Starting kept) kept (booted kept) t.disk (take rest turns)) start.is
            (each rest))

    -- a process that served, and one that a fault ended

    of_served : (count : ℕ) (now : Told) (whole : List Act) → HasServed s config m f g count life.begun now →
        now.acts ≡ life.begun.acts ++ whole →
        IsPrefix life.acts whole → Lived x life
    of_served count now whole served told front =
        let start = served.starts in
        let st = went_each count start.kept start.opened served.first served.next served.begun now
        (stood_first served.first life.begun served.begun start) served.each in
        of_opened start.store start.kept start.opened now whole st.acts start.opening st.each (ap (λ (t : Told). t.acts) st.is) told front

    of_interrupted : (most : ℕ) (now : Told) (whole : List Act) → Interrupted s config m f g most life.begun now →
        now.acts ≡ life.begun.acts ++ whole →
        IsPrefix life.acts whole → Lived x life
    of_interrupted most now whole ended_so told front =
        let start = ended_so.starts in
        let each = ended_so.each in
        let st = went_each each.count start.kept start.opened ended_so.first each.middle ended_so.begun each.mid
        (stood_first ended_so.first life.begun ended_so.begun start) each.each in
        let halt = each.last in
        of_opened start.store start.kept start.opened now whole (st.acts ++ halt.did) start.opening
        (more_at start.kept start.opened each.middle each.mid st halt.did halt.leaves halt.stopped.turns)
        (halt.acts ∙ (ap (λ (t : Told). t.acts ++ halt.did) st.is ∙ append_assoc start.opened.acts st.acts halt.did)) told front

    of_unopened : (now : Told) (whole : List Act) → Unopened s config f life.begun now → now.acts ≡ life.begun.acts ++ whole →
        IsPrefix life.acts whole → Lived x life
    of_unopened now whole u told front =
        let stop = u.stopped in
        let same : stop.0 ≡ whole = append_cancel_left life.begun.acts stop.0 whole (sym stop.2.acts ∙ told) in
        ended_as_found now whole u.leaves told (subst (IsCutShort opening) same stop.1) front

    of_refused : (why : Refusal) (now : Told) (whole : List Act) → IsRefused s config f why life.begun now →
        now.acts ≡ life.begun.acts ++ whole →
        IsPrefix life.acts whole → Lived x life
    of_refused why now whole r told front =
        let n = length life.acts in
        let same : whole ≡ sync_acts = append_cancel_left life.begun.acts whole sync_acts (sym told ∙ ap (λ (t : Told). t.acts) r.is) in
        let cut : take n sync_acts ≡ life.acts = ap (take n) (sym same) ∙ front in
        ended (subst (IsCutShort opening) cut (fronts_are_cut_short opening sync_acts n (inl (refl, inl (refl, inl (refl, tt))))))
        (λ image may third. inl (syncs_leave disk life.acts image (subst (IsCutShort sync_acts) cut
        (fronts_are_cut_short sync_acts sync_acts n (all_cut_short sync_acts))) may third))

    of_ended : (why : NodeFault) (most : ℕ) (now : Told) (whole : List Act) → EndsWith s config m f g why most life.begun now →
        now.acts ≡ life.begun.acts ++ whole → IsPrefix life.acts whole → Lived x life
    of_ended (fault.Refused why) most now whole e told front = of_refused why now whole e told front
    of_ended fault.Receive most now whole e told front = of_interrupted most now whole e told front
    of_ended fault.Store most now whole (inl e) told front = of_unopened now whole e told front
    of_ended fault.Store most now whole (inr e) told front = of_interrupted most now whole e told front
    of_ended fault.Memory most now whole (inl e) told front = of_unopened now whole e told front
    of_ended fault.Memory most now whole (inr e) told front = of_interrupted most now whole e told front

    pub lived : IsLife s config m f g life → Lived x life
    lived is = elim (is.runs) [
      | inl (turns, served) ↦ of_served turns is.now is.whole served is.told is.front
      | inr (why, most, ended_so) ↦ of_ended why most is.now is.whole ended_so is.told is.front
    ]
