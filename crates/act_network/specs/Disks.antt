-- A node's disk, as far as a network of single acts sees it: which acts save a state, and what a crash between two acts leaves.
use Rattle.std.specs.Prelude.{◌≡◌, ℕ, Bool, false, true, not, List, [], ◌∷◌, ◌++◌, Option, Some, None, ◌⊎◌}

-- K is what a node keeps. D is its areas with what is pending on them, and what the node knows of them. A is an act on the areas, and X
-- what a crash leaves of them.
pub record Disks (K D A X : Type 0) : Type 0 where
  pub fresh : ℕ → D  -- after an opening of empty areas
  pub acts : D → K → List A  -- the acts that save a state
  pub does : A → D → D
  pub learns : K → D → D  -- what the node knows once it has saved a state
  pub may_leave : D → X → Bool  -- whether a crash may leave this
  pub opens : ℕ → X → Option K  -- the state that a node finds there
  pub reopened : ℕ → X → D  -- after an opening
  pub is_held : D → K → Bool  -- whether a state is the held one, by what the node knows

module _ {K D A X : Type 0} where
  abbrev pub did : Disks K D A X → List A → D → D
  did d [] disk = disk
  did d (a ∷ more) disk = did d more (d.does a disk)

  abbrev pub is_new : Disks K D A X → D → Option K → Bool
  is_new d disk None = false
  is_new d disk (Some k) = not (d.is_held disk k)

  -- the areas open as another state than the held one
  abbrev pub opens_new : Disks K D A X → ℕ → D → X → Bool
  opens_new d n disk left = is_new d disk (d.opens n left)

  -- Saving `new` where `old` is held: at each moment the areas open as the one or the other, and in the end as the new one, as the node
  -- knows. No act is made only where nothing is new.
  pub record Saves (d : Disks K D A X) (Holds : ℕ → K → D → Type 0) (n : ℕ) (old new : K) (disk : D) : Type 0 where
    pub each : (early late : List A) (left : X) → d.acts disk new ≡ early ++ late → d.may_leave (did d early disk) left ≡ true →
        (d.opens n left ≡ Some old) ⊎ (d.opens n left ≡ Some new)
    pub done : Holds n new (d.learns new (did d (d.acts disk new) disk))
    pub nothing : d.acts disk new ≡ [] → old ≡ new
    -- up to the last act the node tells the two apart
    pub tells_old : (early late : List A) (a : A) → d.acts disk new ≡ early ++ a ∷ late → d.is_held (did d early disk) old ≡ true
    pub tells_new : (early late : List A) (a : A) → d.acts disk new ≡ early ++ a ∷ late → d.is_held (did d early disk) new ≡ false

  -- What a disk promises. `Holds n k disk`: the areas of node n are at rest, hold k, and are as the node knows. `CanSave n old new`: the
  -- new state may follow the old one, and has bytes.
  pub record DiskLaws (d : Disks K D A X) (CanSave : ℕ → K → K → Type 0) : Type 1 where
    pub Holds : ℕ → K → D → Type 0
    pub rests : (n : ℕ) (k : K) (disk : D) (left : X) → Holds n k disk → d.may_leave disk left ≡ true → d.opens n left ≡ Some k
    pub saves : (n : ℕ) (old new : K) (disk : D) → Holds n old disk → CanSave n old new → Saves d Holds n old new disk
    pub reopens : (n : ℕ) (k : K) (left : X) → d.opens n left ≡ Some k → Holds n k (d.reopened n left)
