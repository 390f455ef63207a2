-- What is folded over acts, or over events, that stand one after the other.
use Rattle.std.proofs.Common.{◌≡◌, ◌+◌, List, [], ◌∷◌, ◌++◌, refl, sym, ap, ◌∙◌, append_assoc, arith}
use Rattle.disk.specs.Acts.{Act}
use Rattle.disk.specs.Disk.{Disk}
use Rattle.raft_types.specs.Messages.{KeptView}
use Rattle.slots.proofs.Elsewhere.{after_append}
use Rattle.vst_base.specs.Machines.{MachineMeaning}
use Rattle.vst_base.specs.declared.stack.StackId.{StackId}
use Rattle.wire_fields.specs.Formats.{Format}
use Rattle.node_acts.specs.StateActs.{state_acts, store_after}
use Rattle.node_acts.specs.Stores.{StoreView}
use Rattle.node_run.specs.Runs.{Done, Stage, Step, AreOrderly, done_in, said_in, stage_after, step, turns_in}
use Rattle.node_run.specs.Settings.{Settings}
use Rattle.node_records.specs.Records.{kept_by, saves_of, store_by}
use Rattle.node_records.specs.RecordLaws.{IsJoined}

-- over events

pub said_append : {C : Type 0} (ds es : List (Done C)) → said_in (ds ++ es) ≡ said_in ds ++ said_in es
said_append [] es = refl
said_append (d ∷ ds) es = ap (λ r. d.said ++ r) (said_append ds es) ∙ sym (append_assoc d.said (said_in ds) (said_in es))

pub kept_append : {C : Type 0} (kept : KeptView C) (ds es : List (Done C)) → kept_by kept (ds ++ es) ≡ kept_by (kept_by kept ds) es
kept_append kept [] es = refl
kept_append kept (d ∷ ds) es = kept_append d.kept ds es

pub store_append : {C : Type 0} (s : StackId) (f : Format C) (store : StoreView) (ds es : List (Done C)) → store_by s f store (ds ++ es) ≡ store_by s f (store_by s f store ds) es
store_append s f store [] es = refl
store_append s f store (d ∷ ds) es = store_append s f (store_after s f store d.kept) ds es

pub saves_append : {C : Type 0} (s : StackId) (f : Format C) (store : StoreView) (ds es : List (Done C)) →
    saves_of s f store (ds ++ es) ≡ saves_of s f store ds ++ saves_of s f (store_by s f store ds) es
saves_append s f store [] es = refl
saves_append s f store (d ∷ ds) es =
    let next = store_after s f store d.kept in
    ap (λ r. state_acts s f store d.kept ++ r) (saves_append s f next ds es)
    ∙ sym (append_assoc (state_acts s f store d.kept) (saves_of s f next ds) (saves_of s f (store_by s f next ds) es))

-- over acts

module _ {S C O : Type 0} (settings : Settings) (m : MachineMeaning S C O) (f : Format C) (g : Format O) where
  abbrev goes : Stage S C O → Act → Step S C O
  goes stage act = step settings m f g stage act

  abbrev decides : Stage S C O → List Act → List (Done C)
  decides stage acts = done_in settings m f g stage acts

  abbrev stands : Stage S C O → List Act → Stage S C O
  stands stage acts = stage_after settings m f g stage acts

  pub stage_append : (stage : Stage S C O) (xs ys : List Act) → stands stage (xs ++ ys) ≡ stands (stands stage xs) ys
  stage_append stage [] ys = refl
  stage_append stage (x ∷ xs) ys = stage_append (goes stage x).stage xs ys

  pub done_append : (stage : Stage S C O) (xs ys : List Act) → decides stage (xs ++ ys) ≡ decides stage xs ++ decides (stands stage xs) ys
  done_append stage [] ys = refl
  done_append stage (x ∷ xs) ys =
      let next = (goes stage x).stage in
      ap (λ r. (goes stage x).done ++ r) (done_append next xs ys)
      ∙ sym (append_assoc (goes stage x).done (decides next xs) (decides (stands next xs) ys))

  pub turns_append : (stage : Stage S C O) (xs ys : List Act) →
      turns_in settings m f g stage (xs ++ ys) ≡ turns_in settings m f g stage xs + turns_in settings m f g (stands stage xs) ys
  turns_append stage [] ys = omega arith
  turns_append stage (x ∷ xs) ys = omega (arith, turns_append (goes stage x).stage xs ys)

  pub orderly_append : (stage : Stage S C O) (xs ys : List Act) → AreOrderly settings m f g stage xs → AreOrderly settings m f g (stands stage xs) ys →
      AreOrderly settings m f g stage (xs ++ ys)
  orderly_append stage [] ys a b = b
  orderly_append stage (x ∷ xs) ys a b = (a.0, orderly_append (goes stage x).stage xs ys a.1 b)

  pub joins : (stage : Stage S C O) (store : StoreView) (kept : KeptView C) (disk : Disk) (xs ys : List Act) → IsJoined settings m f g stage store kept disk xs ys
  joins stage store kept disk xs ys =
      let events = done_append stage xs ys in
      let ds = decides stage xs in
      let es = decides (stands stage xs) ys in
      record {
        stands = stage_append stage xs ys;
        events = events;
        turns = turns_append stage xs ys;
        store = ap (λ r. store_by settings.stack f store r) events ∙ store_append settings.stack f store ds es;
        kept = ap (λ r. kept_by kept r) events ∙ kept_append kept ds es;
        disk = after_append disk xs ys;
      }
