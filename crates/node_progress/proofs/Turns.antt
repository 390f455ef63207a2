-- One whole turn.
use Rattle.std.proofs.Common.{◌≡◌, ℕ, true, List, [], ◌∷◌, ◌++◌, refl, sym, ap, subst, ◌∙◌, inr}
use Rattle.std.proofs.lemmas.List.{append-nil}
use Rattle.disk.specs.Acts.{Act, Now}
use Rattle.disk.specs.Disk.{Disk, Image, after, may_hold}
use Rattle.raft_types.specs.Messages.{KeptView}
use Rattle.raft_xform.specs.Raft.{raft_recovery}
use Rattle.slots.specs.Opening.{Found, OpensAs}
use Rattle.slots.specs.SavingLaws.{Rests}
use Rattle.slots.specs.Turns.{Says, datagrams}
use Rattle.slots.proofs.Turning.{rests_opens}
use Rattle.vst_base.specs.Machines.{MachineMeaning}
use Rattle.vst_base.specs.declared.stack.StackId.{StackId}
use Rattle.wire_fields.specs.Formats.{Format}
use Rattle.node_body.specs.declared.who.Who.{Who}
use Rattle.node_acts.specs.StateActs.{state_acts, store_after}
use Rattle.node_acts.specs.StateLaws.{StateSaved}
use Rattle.node_acts.specs.Stores.{StoreView, Holds, found_by}
use Rattle.node_acts.proofs.Helds.{holds_rests}
use Rattle.node_device.specs.Telling.{Told, told_after}
use Rattle.node_run.specs.Runs.{Done, NodeView, Stage, Starting, Between}
use Rattle.node_run.specs.Settings.{Settings, later}
use Rattle.node_records.specs.MomentLaws.{IsSaving}
use Rattle.node_records.specs.Moments.{Leaves}
use Rattle.node_records.specs.Records.{HearsAs, kept_by, store_by}
use Rattle.node_records.proofs.ActKinds.{hears_after, says_after}
use Rattle.node_records.proofs.Leaving.{event_leaves, keeps_is_saving, quiet_leaves}
use Rattle.node_records.proofs.Saved.{event_saves, quiet_saves}
use Rattle.node_records.proofs.Turning.{event_turn, quiet_turn, turn, turn_follows, turns_hear}
use Rattle.node_progress.specs.Progress.{Goes}
use Rattle.node_progress.proofs.Going.{told_twice, who_after}
use Rattle.lists.specs.Each.{Each}
use Rattle.lists.specs.Prefixes.{IsPrefix, prefix_of}

-- what was heard, then what was stored, and then what was said
pub told_thrice : (told : Told) (hs saves said : List Act) →
    told_after (told_after (told_after told hs) saves) said ≡ told_after told (hs ++ (saves ++ said))
told_thrice told hs saves said = told_twice (told_after told hs) saves said ∙ told_twice told hs (saves ++ said)

module _ {S C O : Type 0} (settings : Settings) (m : MachineMeaning S C O) (s : StackId) (f : Format C) (g : Format O) (who : Who) where
  abbrev found : List ℕ → Found (KeptView C)
  found bytes = found_by s f who bytes

  pub rests : (store : StoreView) (kept : KeptView C) (disk : Disk) → Holds s f store kept disk → store.who ≡ who →
      Rests found kept store.selector disk
  rests store kept disk held is =
      subst (λ (w : Who). Rests (found_by s f w) kept store.selector disk) is (holds_rests s f store kept disk held)

  -- what the areas hold, each image of them opens as
  ends_as : (store : StoreView) (kept : KeptView C) (disk : Disk) (image : Image) → Holds s f store kept disk → store.who ≡ who →
      may_hold disk image ≡ true → OpensAs found kept image
  ends_as store kept disk image held is may = rests_opens found kept store.selector disk image (rests store kept disk held is) may

  pub quiet_goes : (stage : Stage S C O) (kept : KeptView C) (store : StoreView) (count : ℕ) (node : NodeView S C O) (hs : List Act)
      (before : Told) →
      HearsAs settings m f g stage hs [] count (Between node) → Holds s f store kept before.disk → store.who ≡ who →
      Goes settings m s f g who stage kept store count node kept store before (told_after before hs)
  quiet_goes stage kept store count node hs before heard held is =
      let at_rest = rests store kept before.disk held is in
      let quiet = quiet_leaves settings m f g found stage (Between node) kept store.selector before.disk count hs heard at_rest in
      let held_still : Holds s f store kept (after before.disk hs) = subst (λ (disk : Disk). Holds s f store kept disk) (sym quiet.1) held in
      record {
        did = hs;
        is = refl;
        record_is = quiet_turn settings m f g stage store count node hs heard;
        stands = heard.stands;
        keeps = ap (λ ds. kept_by kept ds) heard.events;
        knows = ap (λ ds. store_by settings.stack f store ds) heard.events;
        leaves = quiet_saves settings m f g found stage (Between node) kept store store.selector before.disk count hs heard at_rest;
        holds = held_still;
        ends = λ image may. ends_as store kept (after before.disk hs) image held_still is may;
      }

  pub first_goes : (kept : KeptView C) (store : StoreView) (time : ℕ) (before : Told) → Holds s f store kept before.disk →
      store.who ≡ who →
      Goes settings m s f g who (Starting kept) kept store 0
      (record { state = (raft_recovery m).reboot settings.me kept; deadline = later time settings.election }) kept store before
      (told_after before (Now time ∷ []))
  first_goes kept store time before held is =
      quiet_goes (Starting kept) kept store 0
      (record { state = (raft_recovery m).reboot settings.me kept; deadline = later time settings.election }) (Now time ∷ []) before
      ((turns_hear settings m f g).first kept time) held is

  -- what is saved is of the node
  pub saving : (store : StoreView) (kept new : KeptView C) (disk : Disk) → store.who ≡ who → StateSaved s f store kept new disk →
      IsSaving found kept new (state_acts s f store new) disk
  saving store kept new disk is saved =
      subst (λ (w : Who). IsSaving (found_by s f w) kept new (state_acts s f store new) disk) is
      (keeps_is_saving (found_by s f store.who) kept new (store_after s f store new).selector (state_acts s f store new) disk
      saved.keeps)

  -- what was heard leaves the disk as it was
  pub same_disk : (stage next : Stage S C O) (done : List (Done C)) (count : ℕ) (hs : List Act) (before : Told) →
      HearsAs settings m f g stage hs done count next →
      (told_after before hs).disk ≡ before.disk
  same_disk stage next done count hs before heard = hears_after hs before.disk heard.hears

  pub event_moments : (stage : Stage S C O) (kept : KeptView C) (store : StoreView) (count : ℕ) (node : NodeView S C O) (d : Done C)
      (hs said : List Act) (before : Told) →
      HearsAs settings m f g stage hs (d ∷ []) count (Between node) → Holds s f store kept before.disk → store.who ≡ who →
      StateSaved s f store kept d.kept (told_after before hs).disk → Each Says said → IsPrefix (datagrams said) d.said →
      Leaves settings m f g found stage kept before.disk (hs ++ (state_acts s f store d.kept ++ said))
  event_moments stage kept store count node d hs said before heard held is saved q front =
      let e = same_disk stage (Between node) (d ∷ []) count hs before heard in
      let whole = (saving store kept d.kept before.disk is
      (subst (λ (disk : Disk). StateSaved s f store kept d.kept disk) e saved)).whole in
      (event_leaves settings m f g found stage kept store.selector before.disk count node d hs (state_acts s f store d.kept) said heard
      (rests store kept before.disk held is) whole.0 q front whole.1 (inr whole.2)).0

  pub event_goes : (stage : Stage S C O) (kept : KeptView C) (store : StoreView) (count : ℕ) (node : NodeView S C O) (d : Done C)
      (hs said : List Act) (before now : Told) →
      settings.stack ≡ s → HearsAs settings m f g stage hs (d ∷ []) count (Between node) → Holds s f store kept before.disk →
      store.who ≡ who →
      StateSaved s f store kept d.kept (told_after before hs).disk → Each Says said → datagrams said ≡ d.said →
      now ≡ told_after (told_after (told_after before hs) (state_acts s f store d.kept)) said →
      Goes settings m s f g who stage kept store count node d.kept (store_after s f store d.kept) before now
  event_goes stage kept store count node d hs said before now stack heard held is saved q all e =
      let saves = state_acts s f store d.kept in
      let whole = (saving store kept d.kept before.disk is
      (subst (λ (disk : Disk). StateSaved s f store kept d.kept disk) (same_disk stage (Between node) (d ∷ []) count hs before heard) saved)).whole in
      let stored = whole.0 in
      let decided = turn settings m f g stage (d ∷ []) count node hs (saves ++ said) heard (turn_follows saves said stored q) in
      let held_then : Holds s f (store_after s f store d.kept) d.kept now.disk =
      subst (λ (told : Told). Holds s f (store_after s f store d.kept) d.kept told.disk) (sym e)
      (subst (λ (disk : Disk). Holds s f (store_after s f store d.kept) d.kept disk)
      (sym (says_after said (after (told_after before hs).disk saves) q)) saved.holds) in
      record {
        did = hs ++ (saves ++ said);
        is = e ∙ told_thrice before hs saves said;
        record_is = event_turn settings m f g stage store count node d hs saves said heard
            (ap (λ (x : StackId). state_acts x f store d.kept) (sym stack)) q all;
        stands = decided.stands;
        keeps = ap (λ ds. kept_by kept ds) decided.events;
        knows = ap (λ ds. store_by settings.stack f store ds) decided.events ∙ ap (λ (x : StackId). store_after x f store d.kept) stack;
        leaves = event_saves settings m f g found stage kept store store.selector before.disk count node d hs saves said heard
            (rests store kept before.disk held is) (ap (λ (x : StackId). state_acts x f store d.kept) (sym stack)) whole.0 q
            (prefix_of _ [] _ (append-nil (datagrams said) ∙ all)) whole.1 whole.2;
        holds = held_then;
        ends = λ image may. ends_as (store_after s f store d.kept) d.kept now.disk image held_then (who_after s f store d.kept ∙ is) may;
      }
