-- A turn that was cut short.
use Rattle.std.proofs.Common.{◌≡◌, ℕ, ◌≤◌, List, [], ◌∷◌, ◌++◌, length, refl, sym, ap, subst, ◌∙◌, append_assoc, inl, arith}
use Rattle.std.proofs.lemmas.List.{append-nil}
use Rattle.disk.specs.Acts.{Act}
use Rattle.disk.specs.Disk.{Disk}
use Rattle.disk.specs.DiskLaws.{IsCutShort}
use Rattle.raft_types.specs.Messages.{KeptView}
use Rattle.slots.specs.Opening.{Found}
use Rattle.slots.specs.Turns.{Says, datagrams}
use Rattle.vst_base.specs.Machines.{MachineMeaning}
use Rattle.vst_base.specs.declared.stack.StackId.{StackId}
use Rattle.wire_fields.specs.Formats.{Format}
use Rattle.node_body.specs.declared.who.Who.{Who}
use Rattle.node_acts.specs.StateActs.{state_acts}
use Rattle.node_acts.specs.StateLaws.{StateSaved}
use Rattle.node_acts.specs.Stores.{StoreView, Holds, found_by}
use Rattle.node_device.specs.Telling.{Told, told_after}
use Rattle.node_run.specs.Runs.{Done, NodeView, Stage, Between}
use Rattle.node_run.specs.Settings.{Settings}
use Rattle.node_records.specs.MomentLaws.{OpensAsEither}
use Rattle.node_records.specs.Records.{HearsAs, IsStopped}
use Rattle.node_records.proofs.ActKinds.{save_on_areas, short_stores, whole}
use Rattle.node_records.proofs.Leaving.{event_leaves, hearing}
use Rattle.node_records.proofs.Turning.{event_stops, heard_stops}
use Rattle.node_progress.specs.Progress.{Halts}
use Rattle.node_progress.proofs.Turns.{event_moments, rests, same_disk, told_thrice}
use Rattle.lists.specs.Each.{Each}
use Rattle.lists.specs.Prefixes.{IsPrefix}

module _ {S C O : Type 0} (settings : Settings) (m : MachineMeaning S C O) (s : StackId) (f : Format C) (g : Format O) (who : Who) where
  abbrev found : List ℕ → Found (KeptView C)
  found bytes = found_by s f who bytes

  pub heard_halts : (stage next : Stage S C O) (kept : KeptView C) (store : StoreView) (done : List (Done C)) (count : ℕ) (hs : List Act)
      (before : Told) →
      HearsAs settings m f g stage hs done count next → length done ≤ 1 → Holds s f store kept before.disk → store.who ≡ who →
      Halts settings m s f g who stage kept store count before (told_after before hs)
  heard_halts stage next kept store done count hs before heard one held is =
      let events = ap (λ ds. length ds) heard.events in
      record {
        did = hs;
        acts = refl;
        stopped = heard_stops settings m f g stage store done count next hs heard;
        leaves = hearing settings m f g found stage kept store.selector before.disk hs heard.hears (omega (arith, events, one)) heard.last
            (rests settings m s f g who store kept before.disk held is);
      }

  -- an event is heard, a part of its save is done, and a part of what it says is said
  stops : (stage : Stage S C O) (kept : KeptView C) (store : StoreView) (count : ℕ) (node : NodeView S C O) (d : Done C)
      (hs saves said : List Act) →
      settings.stack ≡ s → HearsAs settings m f g stage hs (d ∷ []) count (Between node) → IsCutShort (state_acts s f store d.kept) saves →
      Each Says said → IsPrefix (datagrams said) d.said → IsStopped settings m f g stage store count (hs ++ (saves ++ said))
  stops stage kept store count node d hs saves said stack heard short q front =
      event_stops settings m f g stage store count node d hs saves said heard
      (subst (λ (x : StackId). IsCutShort (state_acts x f store d.kept) saves) (sym stack) short) q front

  pub save_halts : (stage : Stage S C O) (kept : KeptView C) (store : StoreView) (count : ℕ) (node : NodeView S C O) (d : Done C)
      (hs did : List Act) (before now : Told) →
      settings.stack ≡ s → HearsAs settings m f g stage hs (d ∷ []) count (Between node) → Holds s f store kept before.disk →
      store.who ≡ who →
      IsCutShort (state_acts s f store d.kept) did → OpensAsEither found kept d.kept (told_after before hs).disk did →
      now.acts ≡ (told_after before hs).acts ++ did → Halts settings m s f g who stage kept store count before now
  save_halts stage kept store count node d hs did before now stack heard held is short either e = record {
    did = hs ++ (did ++ []);
    acts = e ∙ (append_assoc before.acts hs did ∙ ap (λ xs. before.acts ++ (hs ++ xs)) (sym (append-nil did)));
    stopped = stops stage kept store count node d hs did [] stack heard short tt refl;
    leaves = (event_leaves settings m f g found stage kept store.selector before.disk count node d hs did [] heard
        (rests settings m s f g who store kept before.disk held is)
        (short_stores (state_acts s f store d.kept) did (save_on_areas s f store d.kept) short) tt refl
        (subst (λ (disk : Disk). OpensAsEither found kept d.kept disk did)
        (same_disk settings m s f g who stage (Between node) (d ∷ []) count hs before heard) either) (inl refl)).0;
  }

  pub say_halts : (stage : Stage S C O) (kept : KeptView C) (store : StoreView) (count : ℕ) (node : NodeView S C O) (d : Done C)
      (hs said : List Act) (before now : Told) →
      settings.stack ≡ s → HearsAs settings m f g stage hs (d ∷ []) count (Between node) → Holds s f store kept before.disk →
      store.who ≡ who →
      StateSaved s f store kept d.kept (told_after before hs).disk → Each Says said → IsPrefix (datagrams said) d.said →
      now ≡ told_after (told_after (told_after before hs) (state_acts s f store d.kept)) said →
      Halts settings m s f g who stage kept store count before now
  say_halts stage kept store count node d hs said before now stack heard held is saved q front e =
      let saves = state_acts s f store d.kept in
      record {
        did = hs ++ (saves ++ said);
        acts = ap (λ (told : Told). told.acts) (e ∙ told_thrice before hs saves said);
        stopped = stops stage kept store count node d hs saves said stack heard (whole saves) q front;
        leaves = event_moments settings m s f g who stage kept store count node d hs said before heard held is saved q front;
      }
