-- Whole turns, and what follows them.
use Rattle.std.proofs.Common.{◌≡◌, ℕ, ◌+◌, ◌-◌, Bool, true, false, List, [], ◌∷◌, ◌++◌, length, refl, sym, ap, subst, ◌∙◌, append_assoc, if◌then◌else◌, ◌==◌}
use Rattle.disk.specs.Acts.{Act}
use Rattle.disk.specs.Disk.{after}
use Rattle.raft_types.specs.Messages.{KeptView}
use Rattle.slots.specs.Opening.{Found}
use Rattle.slots.specs.Saving.{next}
use Rattle.slots.proofs.Elsewhere.{after_append}
use Rattle.vst_base.specs.Machines.{MachineMeaning}
use Rattle.vst_base.specs.declared.stack.StackId.{StackId}
use Rattle.wire_fields.specs.Formats.{Format}
use Rattle.node_body.specs.declared.who.Who.{Who}
use Rattle.node_acts.specs.StateActs.{record_bytes, store_after, store_at_base}
use Rattle.node_acts.specs.Stores.{StoreView, found_by, is_held, store_of}
use Rattle.node_device.specs.Telling.{Told, told_after}
use Rattle.node_run.specs.Runs.{Done, NodeView, Stage, Between, done_in, stage_after}
use Rattle.node_run.specs.Settings.{Settings}
use Rattle.node_records.specs.Records.{AreRecord, IsStopped, kept_by, store_by}
use Rattle.node_records.specs.Moments.{Leaves, LeavesSaved}
use Rattle.node_records.proofs.Folds.{joins}
use Rattle.node_records.proofs.Growing.{record_stops, records_grow, stops_grow}
use Rattle.node_records.proofs.Leaving.{moments_grow}
use Rattle.node_records.proofs.Saved.{saves_grow}
use Rattle.node_progress.specs.Progress.{Goes, Halts}

pub told_twice : (told : Told) (xs ys : List Act) → told_after (told_after told xs) ys ≡ told_after told (xs ++ ys)
told_twice told xs ys = λ i. record { acts = append_assoc told.acts xs ys i; disk = sym (after_append told.disk xs ys) i }

-- a save changes nothing of whose state it is

pub who_after : {C : Type 0} (s : StackId) (f : Format C) (store : StoreView) (kept : KeptView C) →
    (store_after s f store kept).who ≡ store.who
who_after s f store kept = by (is_held store kept) (store.left == 0)
  where
    by : (same full : Bool) →
        (if same then store
        else if full then store_at_base s f store.who (next store.selector) kept
        else store_of store.who store.selector (store.gate + length (record_bytes f store kept)) (store.left - 1) kept).who
        ≡ store.who
    by true full = refl
    by false true = refl
    by false false = refl

who_by : {C : Type 0} (s : StackId) (f : Format C) (store : StoreView) (done : List (Done C)) → (store_by s f store done).who ≡ store.who
who_by s f store [] = refl
who_by s f store (d ∷ done) = who_by s f (store_after s f store d.kept) done ∙ who_after s f store d.kept

module _ {S C O : Type 0} (settings : Settings) (m : MachineMeaning S C O) (s : StackId) (f : Format C) (g : Format O) (who : Who) where
  abbrev found : List ℕ → Found (KeptView C)
  found bytes = found_by s f who bytes

  abbrev decides : Stage S C O → List Act → List (Done C)
  decides stage acts = done_in settings m f g stage acts

  -- what was shown from where the whole turns end

  on_record : (stage : Stage S C O) (kept kept_mid : KeptView C) (store store_mid : StoreView) (a b : ℕ) (node : NodeView S C O)
      (before mid : Told) (ys : List Act)
      (x : Goes settings m s f g who stage kept store a node kept_mid store_mid before mid) →
      AreRecord settings m f g (Between node) store_mid b ys →
      AreRecord settings m f g stage store (a + b) (x.did ++ ys)
  on_record stage kept kept_mid store store_mid a b node before mid ys x y =
      records_grow settings m f g stage store a b x.did ys x.record_is
      (subst (λ (at : Stage S C O). AreRecord settings m f g at (store_by settings.stack f store (decides stage x.did)) b ys)
      (sym x.stands)
      (subst (λ (st : StoreView). AreRecord settings m f g (Between node) st b ys) (sym x.knows) y))

  on_stop : (stage : Stage S C O) (kept kept_mid : KeptView C) (store store_mid : StoreView) (a b : ℕ) (node : NodeView S C O)
      (before mid : Told) (ys : List Act)
      (x : Goes settings m s f g who stage kept store a node kept_mid store_mid before mid) →
      IsStopped settings m f g (Between node) store_mid b ys →
      IsStopped settings m f g stage store (a + b) (x.did ++ ys)
  on_stop stage kept kept_mid store store_mid a b node before mid ys x y =
      stops_grow settings m f g stage store a b x.did ys x.record_is
      (subst (λ (at : Stage S C O). IsStopped settings m f g at (store_by settings.stack f store (decides stage x.did)) b ys)
      (sym x.stands)
      (subst (λ (st : StoreView). IsStopped settings m f g (Between node) st b ys) (sym x.knows) y))

  on_leaves : (stage : Stage S C O) (kept kept_mid : KeptView C) (store store_mid : StoreView) (a : ℕ) (node : NodeView S C O)
      (before mid : Told) (ys : List Act)
      (x : Goes settings m s f g who stage kept store a node kept_mid store_mid before mid) →
      Leaves settings m f g found (Between node) kept_mid mid.disk ys →
      Leaves settings m f g found stage kept before.disk (x.did ++ ys)
  on_leaves stage kept kept_mid store store_mid a node before mid ys x y =
      moments_grow settings m f g found stage kept before.disk x.did ys (λ n image may. (x.leaves n image may).at) x.record_is.said
      (subst (λ (at : Stage S C O). Leaves settings m f g found at (kept_by kept (decides stage x.did)) (after before.disk x.did) ys)
      (sym x.stands)
      (subst (λ (k : KeptView C). Leaves settings m f g found (Between node) k (after before.disk x.did) ys) (sym x.keeps)
      (subst (λ (told : Told). Leaves settings m f g found (Between node) kept_mid told.disk ys) x.is y)))

  on_saves : (stage : Stage S C O) (kept kept_mid : KeptView C) (store store_mid : StoreView) (a : ℕ) (node : NodeView S C O)
      (before mid : Told) (ys : List Act)
      (x : Goes settings m s f g who stage kept store a node kept_mid store_mid before mid) →
      LeavesSaved settings m f g found (Between node) kept_mid store_mid mid.disk ys →
      LeavesSaved settings m f g found stage kept store before.disk (x.did ++ ys)
  on_saves stage kept kept_mid store store_mid a node before mid ys x y =
      saves_grow settings m f g found stage kept store before.disk x.did ys x.leaves x.record_is.said x.record_is.stored
      (subst (λ (at : Stage S C O). LeavesSaved settings m f g found at (kept_by kept (decides stage x.did))
      (store_by settings.stack f store (decides stage x.did)) (after before.disk x.did) ys) (sym x.stands)
      (subst (λ (k : KeptView C). LeavesSaved settings m f g found (Between node) k (store_by settings.stack f store (decides stage x.did))
      (after before.disk x.did) ys) (sym x.keeps)
      (subst (λ (st : StoreView). LeavesSaved settings m f g found (Between node) kept_mid st (after before.disk x.did) ys) (sym x.knows)
      (subst (λ (told : Told). LeavesSaved settings m f g found (Between node) kept_mid store_mid told.disk ys) x.is y))))

  pub goes_on : (stage : Stage S C O) (kept kept_mid kept_now : KeptView C) (store store_mid store_now : StoreView) (a b : ℕ)
      (node next : NodeView S C O) (before mid now : Told) →
      Goes settings m s f g who stage kept store a node kept_mid store_mid before mid →
      Goes settings m s f g who (Between node) kept_mid store_mid b next kept_now store_now mid now →
      Goes settings m s f g who stage kept store (a + b) next kept_now store_now before now
  goes_on stage kept kept_mid kept_now store store_mid store_now a b node next before mid now x y =
      let j = joins settings m f g stage store kept before.disk x.did y.did in
      record {
        did = x.did ++ y.did;
        is = y.is ∙ (ap (λ (told : Told). told_after told y.did) x.is ∙ told_twice before x.did y.did);
        record_is = on_record stage kept kept_mid store store_mid a b node before mid y.did x y.record_is;
        stands = j.stands ∙ (ap (λ (at : Stage S C O). stage_after settings m f g at y.did) x.stands ∙ y.stands);
        keeps = j.kept ∙ ((λ i. kept_by (x.keeps i) (decides (x.stands i) y.did)) ∙ y.keeps);
        knows = j.store ∙ ((λ i. store_by settings.stack f (x.knows i) (decides (x.stands i) y.did)) ∙ y.knows);
        leaves = on_saves stage kept kept_mid store store_mid a node before mid y.did x y.leaves;
        holds = y.holds;
        ends = y.ends;
      }

  pub halts_after : (stage : Stage S C O) (kept kept_mid : KeptView C) (store store_mid : StoreView) (a b : ℕ) (node : NodeView S C O)
      (before mid now : Told) →
      Goes settings m s f g who stage kept store a node kept_mid store_mid before mid →
      Halts settings m s f g who (Between node) kept_mid store_mid b mid now →
      Halts settings m s f g who stage kept store (a + b) before now
  halts_after stage kept kept_mid store store_mid a b node before mid now x y = record {
    did = x.did ++ y.did;
    acts = y.acts ∙ (ap (λ (told : Told). told.acts ++ y.did) x.is ∙ append_assoc before.acts x.did y.did);
    stopped = on_stop stage kept kept_mid store store_mid a b node before mid y.did x y.stopped;
    leaves = on_leaves stage kept kept_mid store store_mid a node before mid y.did x y.leaves;
  }

  pub goes_is_halts : (stage : Stage S C O) (kept kept_now : KeptView C) (store store_now : StoreView) (count : ℕ) (node : NodeView S C O)
      (before now : Told) →
      Goes settings m s f g who stage kept store count node kept_now store_now before now →
      Halts settings m s f g who stage kept store count before now
  goes_is_halts stage kept kept_now store store_now count node before now x = record {
    did = x.did;
    acts = ap (λ (told : Told). told.acts) x.is;
    stopped = record_stops settings m f g stage store count x.did x.record_is;
    leaves = λ n image may. (x.leaves n image may).at;
  }

  pub who_stays : (stage : Stage S C O) (kept kept_now : KeptView C) (store store_now : StoreView) (count : ℕ) (node : NodeView S C O)
      (before now : Told) →
      Goes settings m s f g who stage kept store count node kept_now store_now before now → store_now.who ≡ store.who
  who_stays stage kept kept_now store store_now count node before now x =
      ap (λ (st : StoreView). st.who) (sym x.knows) ∙ who_by settings.stack f store (decides stage x.did)
