-- What acts of one kind do to the disk, and which store acts and datagrams are among them.
use Rattle.std.proofs.Common.{◌≡◌, Bool, true, false, List, [], ◌∷◌, ◌++◌, refl, ap, ◌∙◌, if◌then◌else◌, ◌==◌, inl, inr}
use Rattle.disk.specs.Acts.{Act, Now, Took, Quiet, ReceiveFailed, Sent, SendFailed, Wrote, Cut, Synced, StoreFailed}
use Rattle.disk.specs.Disk.{Disk, effect, after}
use Rattle.disk.specs.DiskLaws.{Fails, IsReadFault, IsCutShort}
use Rattle.raft_types.specs.Messages.{KeptView}
use Rattle.slots.specs.Opening.{named}
use Rattle.slots.specs.Saving.{save_acts}
use Rattle.slots.specs.Turns.{Hears, Says, OnAreas, datagrams}
use Rattle.vst_base.specs.declared.stack.StackId.{StackId}
use Rattle.wire_fields.specs.Formats.{Format}
use Rattle.node_body.specs.Slots.{base_of}
use Rattle.node_acts.specs.StateActs.{append_acts, record_bytes, state_acts}
use Rattle.node_acts.specs.Stores.{StoreView, is_held}
use Rattle.node_records.specs.Records.{Stores, IsNoFault, IsOfTurns, store_acts}
use Rattle.lists.specs.Each.{Each, each_weaker}

-- acts that hear

pub record IsHearing (act : Act) : Type 0 where
  pub effect : (disk : Disk) → effect act disk ≡ disk
  pub silent : (acts : List Act) → datagrams (act ∷ acts) ≡ datagrams acts
  pub stores : (acts : List Act) → store_acts (act ∷ acts) ≡ store_acts acts
  pub of_turns : IsOfTurns act

hears_one : (act : Act) → Hears act → IsHearing act
hears_one (Now ms) h = record { effect = λ d. refl; silent = λ a. refl; stores = λ a. refl; of_turns = tt }
hears_one (Took wait from bytes) h = record { effect = λ d. refl; silent = λ a. refl; stores = λ a. refl; of_turns = tt }
hears_one (Quiet wait) h = record { effect = λ d. refl; silent = λ a. refl; stores = λ a. refl; of_turns = tt }
hears_one (ReceiveFailed wait) h = record { effect = λ d. refl; silent = λ a. refl; stores = λ a. refl; of_turns = tt }
hears_one act h = absurd h

pub hears_after : (acts : List Act) (disk : Disk) → Each Hears acts → after disk acts ≡ disk
hears_after [] disk h = refl
hears_after (act ∷ acts) disk h = ap (λ d. after d acts) ((hears_one act h.0).effect disk) ∙ hears_after acts disk h.1

pub hears_silent : (acts : List Act) → Each Hears acts → datagrams acts ≡ []
hears_silent [] h = refl
hears_silent (act ∷ acts) h = (hears_one act h.0).silent acts ∙ hears_silent acts h.1

pub hears_store : (acts : List Act) → Each Hears acts → store_acts acts ≡ []
hears_store [] h = refl
hears_store (act ∷ acts) h = (hears_one act h.0).stores acts ∙ hears_store acts h.1

pub hears_of_turns : (acts : List Act) → Each Hears acts → Each IsOfTurns acts
hears_of_turns acts h = each_weaker Hears IsOfTurns (λ act s. (hears_one act s).of_turns) acts h

-- acts that say

pub record IsSaying (act : Act) : Type 0 where
  pub effect : (disk : Disk) → effect act disk ≡ disk
  pub stores : (acts : List Act) → store_acts (act ∷ acts) ≡ store_acts acts
  pub faultless : IsNoFault act
  pub of_turns : IsOfTurns act

says_one : (act : Act) → Says act → IsSaying act
says_one (Sent to bytes) h = record { effect = λ d. refl; stores = λ a. refl; faultless = tt; of_turns = tt }
says_one (SendFailed to bytes) h = record { effect = λ d. refl; stores = λ a. refl; faultless = tt; of_turns = tt }
says_one act h = absurd h

pub says_after : (acts : List Act) (disk : Disk) → Each Says acts → after disk acts ≡ disk
says_after [] disk h = refl
says_after (act ∷ acts) disk h = ap (λ d. after d acts) ((says_one act h.0).effect disk) ∙ says_after acts disk h.1

pub says_store : (acts : List Act) → Each Says acts → store_acts acts ≡ []
says_store [] h = refl
says_store (act ∷ acts) h = (says_one act h.0).stores acts ∙ says_store acts h.1

pub says_faultless : (acts : List Act) → Each Says acts → Each IsNoFault acts
says_faultless acts h = each_weaker Says IsNoFault (λ act s. (says_one act s).faultless) acts h

pub says_of_turns : (acts : List Act) → Each Says acts → Each IsOfTurns acts
says_of_turns acts h = each_weaker Says IsOfTurns (λ act s. (says_one act s).of_turns) acts h

-- acts that store

pub record IsStoring (act : Act) : Type 0 where
  pub silent : (acts : List Act) → datagrams (act ∷ acts) ≡ datagrams acts
  pub stores : (acts : List Act) → store_acts (act ∷ acts) ≡ act ∷ store_acts acts
  pub of_turns : IsOfTurns act

stores_one : (act : Act) → Stores act → IsStoring act
stores_one (Wrote area at bytes) h = record { silent = λ a. refl; stores = λ a. refl; of_turns = tt }
stores_one (Cut area len) h = record { silent = λ a. refl; stores = λ a. refl; of_turns = tt }
stores_one (Synced area) h = record { silent = λ a. refl; stores = λ a. refl; of_turns = tt }
stores_one (StoreFailed call) h = record { silent = λ a. refl; stores = λ a. refl; of_turns = tt }
stores_one act h = absurd h

pub stores_silent : (acts : List Act) → Each Stores acts → datagrams acts ≡ []
stores_silent [] h = refl
stores_silent (act ∷ acts) h = (stores_one act h.0).silent acts ∙ stores_silent acts h.1

pub stores_store : (acts : List Act) → Each Stores acts → store_acts acts ≡ acts
stores_store [] h = refl
stores_store (act ∷ acts) h = (stores_one act h.0).stores acts ∙ ap (λ r. act ∷ r) (stores_store acts h.1)

pub stores_of_turns : (acts : List Act) → Each Stores acts → Each IsOfTurns acts
stores_of_turns acts h = each_weaker Stores IsOfTurns (λ act s. (stores_one act s).of_turns) acts h

pub areas_store : (act : Act) → OnAreas act → Stores act
areas_store (Wrote area at bytes) h = tt
areas_store (Cut area len) h = tt
areas_store (Synced area) h = tt
areas_store act h = absurd h

areas_no_fault : (act : Act) → OnAreas act → IsNoFault act
areas_no_fault (Wrote area at bytes) h = tt
areas_no_fault (Cut area len) h = tt
areas_no_fault (Synced area) h = tt
areas_no_fault act h = absurd h

pub areas_faultless : (acts : List Act) → Each OnAreas acts → Each IsNoFault acts
areas_faultless acts h = each_weaker OnAreas IsNoFault areas_no_fault acts h

-- a save is acts on the areas
by_test : {C : Type 0} (s : StackId) (f : Format C) (store : StoreView) (kept : KeptView C) (same full : Bool) →
    Each OnAreas (if same then [] else if full then save_acts store.selector (base_of s f store.who kept) else append_acts (named store.selector) store.gate (record_bytes f store kept))
by_test s f store kept true full = tt
by_test s f store kept false true = (tt, (tt, (tt, (tt, (tt, tt)))))
by_test s f store kept false false = (tt, (tt, (tt, (tt, tt))))

pub save_on_areas : {C : Type 0} (s : StackId) (f : Format C) (store : StoreView) (kept : KeptView C) → Each OnAreas (state_acts s f store kept)
save_on_areas s f store kept = by_test s f store kept (is_held store kept) (store.left == 0)

-- also where a fault cuts them short

fails_store : (act did : Act) → Fails act did → Stores did
fails_store (Wrote area at bytes) did e = rw e tt
fails_store (Cut area len) did e = rw e tt
fails_store (Synced area) did e = rw e tt
fails_store act did e = absurd e

read_stores : (did : Act) → IsReadFault did → Stores did
read_stores (StoreFailed call) h = tt
read_stores did h = absurd h

ends_storing : (did : Act) (more : List Act) → Stores did → more ≡ [] → Each Stores (did ∷ more)
ends_storing did more h e = rw e (h, tt)

pub short_stores : (acts did : List Act) → Each OnAreas acts → IsCutShort acts did → Each Stores did
short_stores acts [] on c = tt
short_stores [] (d ∷ did) on c = ends_storing d did (read_stores d c.0) c.1
short_stores (act ∷ acts) (d ∷ did) on (inl c) = (rw c.0 (areas_store act on.0), short_stores acts did on.1 c.1)
short_stores (act ∷ acts) (d ∷ did) on (inr c) =
    ends_storing d did (elim (c.0) [ inl e ↦ fails_store act d e | inr r ↦ read_stores d r ]) c.1

pub whole : (acts : List Act) → IsCutShort acts acts
whole [] = tt
whole (act ∷ acts) = inl (refl, whole acts)

pub cut_short_behind : (xs ys did : List Act) → IsCutShort ys did → IsCutShort (xs ++ ys) (xs ++ did)
cut_short_behind [] ys did c = c
cut_short_behind (x ∷ xs) ys did c = inl (refl, cut_short_behind xs ys did c)

-- one list after the other

pub datagrams_append : (xs ys : List Act) → datagrams (xs ++ ys) ≡ datagrams xs ++ datagrams ys
datagrams_append [] ys = refl
datagrams_append (Sent to bytes ∷ xs) ys = ap (λ r. (to, bytes) ∷ r) (datagrams_append xs ys)
datagrams_append (SendFailed to bytes ∷ xs) ys = ap (λ r. (to, bytes) ∷ r) (datagrams_append xs ys)
datagrams_append (act ∷ xs) ys = datagrams_append xs ys

pub store_acts_append : (xs ys : List Act) → store_acts (xs ++ ys) ≡ store_acts xs ++ store_acts ys
store_acts_append [] ys = refl
store_acts_append (Wrote area at bytes ∷ xs) ys = ap (λ r. Wrote area at bytes ∷ r) (store_acts_append xs ys)
store_acts_append (Cut area len ∷ xs) ys = ap (λ r. Cut area len ∷ r) (store_acts_append xs ys)
store_acts_append (Synced area ∷ xs) ys = ap (λ r. Synced area ∷ r) (store_acts_append xs ys)
store_acts_append (StoreFailed call ∷ xs) ys = ap (λ r. StoreFailed call ∷ r) (store_acts_append xs ys)
store_acts_append (act ∷ xs) ys = store_acts_append xs ys
