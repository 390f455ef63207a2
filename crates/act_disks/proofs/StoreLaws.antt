-- Areas on which states are saved as node_acts does keep to what single acts ask of a disk.
use Rattle.std.proofs.Common.{◌≡◌, ℕ, true, false, List, [], ◌∷◌, ◌++◌, length, take, Some, refl, ap, sym, subst, ◌∙◌, inl, inr, ◌⊎◌}
use Rattle.disk.specs.Acts.{Act}
use Rattle.disk.proofs.Between.{IsCrash}
use Rattle.disk.specs.Between.{Crash, holds_by, leaves_by}
use Rattle.disk.specs.Disk.{Disk, Image, after, effect}
use Rattle.lists.specs.Prefixes.{prefix_append}
use Rattle.slots.proofs.Turning.{rests_opens_by}
use Rattle.slots.specs.Opening.{Opening, Fresh, Held, Refused, opening, OpensAs}
use Rattle.act_network.specs.Disks.{DiskLaws, Saves, did}
use Rattle.act_disks.specs.Stores.{Stores, StoreLaws, kept_in, store_disks}

module _ {K V : Type 0} (crash : Crash) (st : Stores K V) where
  did-after : (acts : List Act) (v : V) (disk : Disk) → did (store_disks crash st) acts (v, disk) ≡ (v, after disk acts)
  did-after [] v disk = refl
  did-after (act ∷ acts) v disk = did-after acts v (effect act disk)

  pub as-some : (n : ℕ) (k : K) (image : Image) → OpensAs (st.found n) k image → kept_in (opening (st.found n) image) ≡ Some k
  as-some n k image h = ap (λ (o : Opening K). kept_in o) (h.1)

  pub held-so : (o : Opening K) (k : K) → kept_in o ≡ Some k → (s : ℕ) × (o ≡ Held k s)
  held-so Fresh k e = cc
  held-so (Held j s) k e = let same : j ≡ k = cc in (s, ap (λ (x : K). Held x s) same)
  held-so (Refused why) k e = cc

  module _ (is_crash : IsCrash crash) (CanSave : ℕ → K → K → Type 0) (laws : StoreLaws crash st CanSave) where
    abbrev pub IsHeld : ℕ → K → V × Disk → Type 0
    IsHeld n k disk = laws.Holds n disk.0 k disk.1

    pub saved : (n : ℕ) (old new : K) (disk : V × Disk) → IsHeld n old disk → CanSave n old new → Saves (store_disks crash st) IsHeld n old new disk
    saved n old new disk h can = record {
      each = λ early late image is may. by early late image is may;
      done = subst (λ (x : V × Disk). laws.Holds n (st.knows x.0 new) new x.1) (sym (did-after (st.acts disk.0 new) disk.0 disk.1)) (laws.holds n disk.0 old new disk.1 h can);
      nothing = laws.nothing n disk.0 old new disk.1 h can;
      tells_old = λ early late a is. ap (λ (x : V × Disk). st.is_held x.0 old) (did-after early disk.0 disk.1) ∙ laws.tells_old n disk.0 old disk.1 h;
      tells_new = λ early late a is. ap (λ (x : V × Disk). st.is_held x.0 new) (did-after early disk.0 disk.1) ∙ told early late a is;
    }
      where
        told : (early late : List Act) (a : Act) → st.acts disk.0 new ≡ early ++ a ∷ late → st.is_held disk.0 new ≡ false
        told [] late a is = laws.tells_new disk.0 new a late is
        told (x ∷ early) late a is = laws.tells_new disk.0 new x (early ++ a ∷ late) is

        by : (early late : List Act) (image : Image) → st.acts disk.0 new ≡ early ++ late → holds_by crash (did (store_disks crash st) early disk).1 image ≡ true →
            (kept_in (opening (st.found n) image) ≡ Some old) ⊎ (kept_in (opening (st.found n) image) ≡ Some new)
        by early late image is may =
            let front : take (length early) (st.acts disk.0 new) ≡ early = ap (λ (xs : List Act). take (length early) xs) is ∙ prefix_append early late in
            let at-front : holds_by crash (after disk.1 early) image ≡ true = ap (λ (x : V × Disk). holds_by crash x.1 image) (sym (did-after early disk.0 disk.1)) ∙ may in
            let left : leaves_by crash disk.1 (take (length early) (st.acts disk.0 new)) image ≡ true = ap (λ (xs : List Act). holds_by crash (after disk.1 xs) image) front ∙ at-front in
            elim ((laws.keeps n disk.0 old new disk.1 h can).1.each (length early) image left) [
              | inl o ↦ inl (as-some n old image o)
              | inr o ↦ inr (as-some n new image o)
            ]

    unfoldable pub store_laws : DiskLaws (store_disks crash st) CanSave
    store_laws = record {
      Holds = IsHeld;
      rests = λ n k disk image h may. as-some n k image (rests_opens_by crash is_crash (st.found n) k (laws.rests n disk.0 k disk.1 h).0 disk.1 image (laws.rests n disk.0 k disk.1 h).1 may);
      saves = saved;
      reopens = λ n k image e. (let h = held-so (opening (st.found n) image) k e in laws.reopens n image k h.0 h.1);
    }
