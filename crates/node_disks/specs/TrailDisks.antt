-- The disk of single acts of a node whose areas also tell what stood on them at their last syncs, so that a word says what a stop leaves.
-- The last act of a save brings what the node then knows, so that nothing of a state has to be looked at again once it is saved.
use Rattle.std.specs.Prelude.{◌≡◌, ℕ, ◌%◌, List, [], ◌∷◌, Option, None, Some}
use Rattle.disk.specs.Acts.{Act}
use Rattle.disk.specs.Areas.{each}
use Rattle.disk.specs.Between.{Crash, holds_by}
use Rattle.disk.specs.Disk.{Disk, Image, contents, settled}
use Rattle.disk.specs.Images.{Trail, follow, followed, image_of_kind, started}
use Rattle.slots.specs.Opening.{opening}
use Rattle.act_network.specs.Disks.{Disks}
use Rattle.act_disks.specs.NodeStores.{empty_areas}
use Rattle.act_disks.specs.Stores.{Stores, kept_in}

-- what a save changes of what a node knows
pub record Changes (K V W : Type 0) : Type 0 where
  pub change_to : V → K → W
  pub changed_by : V → W → V

-- the acts of a save, of which the last brings the change
abbrev pub bringing : {W : Type 0} → W → List Act → List (Act × Option W)
bringing w [] = []
bringing w (a ∷ []) = (a, Some w) ∷ []
bringing w (a ∷ (b ∷ more)) = (a, None) ∷ bringing w (b ∷ more)

module _ {K V W : Type 0} where
  abbrev pub known_with : Changes K V W → Option W → V → V
  known_with ch None v = v
  known_with ch (Some w) v = ch.changed_by v w

  abbrev pub trail_disks : Crash → Stores K V → Changes K V W → Disks K (V × Trail) (Act × Option W) Image
  trail_disks crash st ch = record {
    fresh = λ n. ((st.at_first n).0, followed (started empty_areas) (st.reopening n (contents empty_areas)));
    acts = λ disk k. bringing (ch.change_to disk.0 k) (st.acts disk.0 k);
    does = λ act disk. (known_with ch act.1 disk.0, follow act.0 disk.1);
    learns = λ k disk. disk;
    may_leave = λ disk image. holds_by crash disk.1.disk image;
    opens = λ n image. kept_in (opening (st.found n) image);
    reopened = λ n image. (st.knows_found n image, followed (started (each settled image)) (st.reopening n image));
    is_held = λ disk k. st.is_held disk.0 k;
  }

-- what the change leads to is what is known after the save
abbrev pub LeadsOn : {K V W : Type 0} → Stores K V → Changes K V W → Type 0
LeadsOn {K} {V} st ch = (v : V) (k : K) → ch.changed_by v (ch.change_to v k) ≡ st.knows v k

-- without what stood
abbrev pub flat : {V : Type 0} → V × Trail → V × Disk
flat disk = (disk.0, disk.1.disk)

-- what a stop leaves, by a word
abbrev pub left_by_word : {V : Type 0} → V × Trail → ℕ → Image
left_by_word disk word = image_of_kind (word % 4) disk.1

-- the trail of some acts on some areas
pub record IsTrail {V : Type 0} (disk : V × Trail) : Type 0 where
  pub first : Disk
  pub acts : List Act
  pub is : disk.1 ≡ followed (started first) acts
