-- The disk of a node that keeps its state in three areas, whatever it knows of them between two saves, and whatever a crash may make of
-- an area.
use Rattle.std.specs.Prelude.{◌≡◌, ℕ, Bool, false, true, List, [], ◌∷◌, Option, Some, None}
use Rattle.disk.specs.Acts.{Act}
use Rattle.disk.specs.Areas.{each}
use Rattle.disk.specs.Between.{Crash, holds_by}
use Rattle.disk.specs.Disk.{Disk, Image, settled, after, effect}
use Rattle.slots.specs.Opening.{Found, Opening, Fresh, Held, Refused, opening}
use Rattle.slots.specs.SavingLaws.{Rests}
use Rattle.slots.specs.TurnLaws.{KeepsBy}
use Rattle.act_network.specs.Disks.{Disks}

-- V is what a node knows: of its areas, and of the state that is held
pub record Stores (K V : Type 0) : Type 0 where
  pub found : ℕ → List ℕ → Found K  -- what the bytes of a slot are, to this node
  pub acts : V → K → List Act  -- the acts that save a state
  pub knows : V → K → V  -- what it knows after a save
  pub at_first : ℕ → V × Disk  -- after an opening of empty areas
  pub reopening : ℕ → Image → List Act  -- the acts of an opening
  pub knows_found : ℕ → Image → V  -- what it knows after one
  pub is_held : V → K → Bool  -- whether a state is the held one, by what it knows

abbrev pub kept_in : {K : Type 0} → Opening K → Option K
kept_in Fresh = None
kept_in (Held kept selector) = Some kept
kept_in (Refused why) = None

module _ {K V : Type 0} where
  abbrev pub store_disks : Crash → Stores K V → Disks K (V × Disk) Act Image
  store_disks crash st = record {
    fresh = st.at_first;
    acts = λ disk k. st.acts disk.0 k;
    does = λ act disk. (disk.0, effect act disk.1);
    learns = λ k disk. (st.knows disk.0 k, disk.1);
    may_leave = λ disk image. holds_by crash disk.1 image;
    opens = λ n image. kept_in (opening (st.found n) image);
    reopened = λ n image. (st.knows_found n image, after (each settled image) (st.reopening n image));
    is_held = λ disk k. st.is_held disk.0 k;
  }

  -- what is asked of such a way
  pub record StoreLaws (crash : Crash) (st : Stores K V) (CanSave : ℕ → K → K → Type 0) : Type 1 where
    pub Holds : ℕ → V → K → Disk → Type 0
    pub rests : (n : ℕ) (v : V) (k : K) (disk : Disk) → Holds n v k disk → (s : ℕ) × Rests (st.found n) k s disk
    pub keeps : (n : ℕ) (v : V) (old new : K) (disk : Disk) → Holds n v old disk → CanSave n old new →
        (s : ℕ) × KeepsBy crash (st.found n) old new s (st.acts v new) disk
    pub holds : (n : ℕ) (v : V) (old new : K) (disk : Disk) → Holds n v old disk → CanSave n old new →
        Holds n (st.knows v new) new (after disk (st.acts v new))
    pub nothing : (n : ℕ) (v : V) (old new : K) (disk : Disk) → Holds n v old disk → CanSave n old new → st.acts v new ≡ [] → old ≡ new
    pub reopens : (n : ℕ) (image : Image) (k : K) (s : ℕ) → opening (st.found n) image ≡ Held k s →
        Holds n (st.knows_found n image) k (after (each settled image) (st.reopening n image))
    pub tells_old : (n : ℕ) (v : V) (k : K) (disk : Disk) → Holds n v k disk → st.is_held v k ≡ true
    pub tells_new : (v : V) (k : K) (act : Act) (acts : List Act) → st.acts v k ≡ act ∷ acts → st.is_held v k ≡ false
