-- A disk that also tells what stood, and whose last act of a save brings what is known, keeps to the laws of the one that doesn't.
use Rattle.std.proofs.Common.{◌≡◌, ℕ, ◌%◌, true, List, [], ◌∷◌, ◌++◌, map, Option, None, refl, ap, sym, subst, ◌∙◌}
use Rattle.std.proofs.lemmas.List.{map-append}
use Rattle.disk.specs.Acts.{Act}
use Rattle.disk.specs.Areas.{each}
use Rattle.disk.specs.Between.{Crash, holds_by}
use Rattle.disk.specs.Disk.{Disk, after, contents, effect, may_become, may_leave, settled}
use Rattle.disk.specs.Images.{Trail, follow, followed, image_of_kind, started}
use Rattle.store_acts.proofs.Trails.{disk_followed, followed_append}
use Rattle.act_network.specs.Disks.{DiskLaws, Saves, did}
use Rattle.act_network.specs.Words.{HoldsOfDisks}
use Rattle.act_disks.specs.NodeStores.{empty_areas}
use Rattle.act_disks.specs.Stores.{Stores, store_disks}
use Rattle.node_disks.specs.TrailDisks.{Changes, IsTrail, LeadsOn, bringing, flat, known_with, left_by_word, trail_disks}

abbrev act_in : {W : Type 0} → Act × Option W → Act
act_in act = act.0

-- the acts are those that bring nothing
acts_of : {W : Type 0} (w : W) (acts : List Act) → map act_in (bringing w acts) ≡ acts
acts_of w [] = refl
acts_of w (a ∷ []) = refl
acts_of w (a ∷ (b ∷ more)) = ap (λ more. a ∷ more) (acts_of w (b ∷ more))

none_of : {W : Type 0} (w : W) (acts : List Act) → bringing w acts ≡ [] → acts ≡ []
none_of w [] e = refl
none_of w (a ∷ []) e = cc
none_of w (a ∷ (b ∷ more)) e = cc

nothing_left : {A : Type 0} (early late : List A) (a : A) → ◌≡◌ {A = List A} [] (early ++ a ∷ late) → ⊥
nothing_left [] late a e = cc
nothing_left (x ∷ early) late a e = cc

did-after : {K V : Type 0} (crash : Crash) (st : Stores K V) (acts : List Act) (v : V) (disk : Disk) → did (store_disks crash st) acts (v, disk) ≡ (v, after disk acts)
did-after crash st [] v disk = refl
did-after crash st (act ∷ acts) v disk = did-after crash st acts v (effect act disk)

module _ {K V W : Type 0} (crash : Crash) (st : Stores K V) (ch : Changes K V W) where
  -- the areas are those after the acts, whatever these bring
  areas-did : (acts : List (Act × Option W)) (disk : V × Trail) → (did (trail_disks crash st ch) acts disk).1.disk ≡ after disk.1.disk (map act_in acts)
  areas-did [] disk = refl
  areas-did (act ∷ acts) disk = areas-did acts (known_with ch act.1 disk.0, follow act.0 disk.1)

  -- before the last act of a save nothing is known anew
  known-before : (w : W) (acts : List Act) (early late : List (Act × Option W)) (a : Act × Option W) (disk : V × Trail) → bringing w acts ≡ early ++ a ∷ late →
      (did (trail_disks crash st ch) early disk).0 ≡ disk.0
  known-before w acts [] late a disk e = refl
  known-before w [] (x ∷ early) late a disk e = cc
  known-before w (b ∷ []) (x ∷ early) late a disk e = let tail : ◌≡◌ {A = List (Act × Option W)} [] (early ++ a ∷ late) = cc in absurd (nothing_left early late a tail)
  known-before w (b ∷ (c ∷ more)) (x ∷ early) late a disk e =
      let first : x ≡ (b, None) = cc in
      let tail : bringing w (c ∷ more) ≡ early ++ a ∷ late = cc in
      known-before w (c ∷ more) early late a (known_with ch x.1 disk.0, follow x.0 disk.1) tail ∙ ap (λ (y : Act × Option W). known_with ch y.1 disk.0) first

  -- after all of them it is
  known-after : (w : W) (a : Act) (more : List Act) (disk : V × Trail) → (did (trail_disks crash st ch) (bringing w (a ∷ more)) disk).0 ≡ ch.changed_by disk.0 w
  known-after w a [] disk = refl
  known-after w a (b ∷ more) disk = known-after w b more (disk.0, follow a disk.1)

  module _ (leads : LeadsOn st ch) (CanSave : ℕ → K → K → Type 0) (laws : DiskLaws (store_disks crash st) CanSave) where
    abbrev pub HoldsFlat : ℕ → K → V × Trail → Type 0
    HoldsFlat n k disk = laws.Holds n k (flat disk)

    module _ (n : ℕ) (old new : K) (disk : V × Trail) (h : HoldsFlat n old disk) (can : CanSave n old new) where
      abbrev change : W
      change = ch.change_to disk.0 new

      flat-saves : Saves (store_disks crash st) laws.Holds n old new (flat disk)
      flat-saves = laws.saves n old new (flat disk) h can

      -- a first part of the acts, and those that follow
      parts : (early late : List (Act × Option W)) → bringing change (st.acts disk.0 new) ≡ early ++ late → st.acts disk.0 new ≡ map act_in early ++ map act_in late
      parts early late is = sym (acts_of change (st.acts disk.0 new)) ∙ (ap (λ acts. map act_in acts) is ∙ map-append act_in early late)

      areas-flat : (early : List (Act × Option W)) → (did (trail_disks crash st ch) early disk).1.disk ≡ (did (store_disks crash st) (map act_in early) (flat disk)).1
      areas-flat early = areas-did early disk ∙ sym (ap (λ (x : V × Disk). x.1) (did-after crash st (map act_in early) disk.0 disk.1.disk))

      known-flat : (early late : List (Act × Option W)) (a : Act × Option W) → bringing change (st.acts disk.0 new) ≡ early ++ a ∷ late →
          (did (trail_disks crash st ch) early disk).0 ≡ (did (store_disks crash st) (map act_in early) (flat disk)).0
      known-flat early late a is =
          known-before change (st.acts disk.0 new) early late a disk is ∙ sym (ap (λ (x : V × Disk). x.0) (did-after crash st (map act_in early) disk.0 disk.1.disk))

      done-by : (acts : List Act) → st.acts disk.0 new ≡ acts → laws.Holds n new (flat (did (trail_disks crash st ch) (bringing change acts) disk))
      done-by [] is = subst (λ (k : K). laws.Holds n k (flat disk)) (flat-saves.nothing is) h
      done-by (a ∷ more) is =
          let areas : (did (trail_disks crash st ch) (bringing change (a ∷ more)) disk).1.disk ≡ after disk.1.disk (st.acts disk.0 new) =
          areas-did (bringing change (a ∷ more)) disk ∙ ap (after disk.1.disk) (acts_of change (a ∷ more) ∙ sym is) in
          let known : (did (trail_disks crash st ch) (bringing change (a ∷ more)) disk).0 ≡ st.knows disk.0 new = known-after change a more disk ∙ leads disk.0 new in
          let there : laws.Holds n new (st.knows disk.0 new, after disk.1.disk (st.acts disk.0 new)) =
          subst (λ (x : V × Disk). laws.Holds n new (st.knows x.0 new, x.1)) (did-after crash st (st.acts disk.0 new) disk.0 disk.1.disk) flat-saves.done in
          subst (λ (v : V). laws.Holds n new (v, (did (trail_disks crash st ch) (bringing change (a ∷ more)) disk).1.disk)) (sym known)
          (subst (λ (x : Disk). laws.Holds n new (st.knows disk.0 new, x)) (sym areas) there)

      pub saved : Saves (trail_disks crash st ch) HoldsFlat n old new disk
      saved = record {
        each = λ early late left is may. flat-saves.each (map act_in early) (map act_in late) left (parts early late is)
            (ap (λ (x : Disk). holds_by crash x left) (sym (areas-flat early)) ∙ may);
        done = done-by (st.acts disk.0 new) refl;
        nothing = λ none. flat-saves.nothing (none_of change (st.acts disk.0 new) none);
        tells_old = λ early late a is. ap (λ (v : V). st.is_held v old) (known-flat early late a is) ∙ flat-saves.tells_old (map act_in early) (map act_in late) a.0 (parts early (a ∷ late) is);
        tells_new = λ early late a is. ap (λ (v : V). st.is_held v new) (known-flat early late a is) ∙ flat-saves.tells_new (map act_in early) (map act_in late) a.0 (parts early (a ∷ late) is);
      }

    unfoldable pub trail_laws : DiskLaws (trail_disks crash st ch) CanSave
    trail_laws = record {
      Holds = HoldsFlat;
      rests = λ n k disk left h may. laws.rests n k (flat disk) left h may;
      saves = saved;
      reopens = λ n k left e. subst (λ (x : Disk). laws.Holds n k (st.knows_found n left, x)) (sym (disk_followed (started (each settled left)) (st.reopening n left))) (laws.reopens n k left e);
    }

  -- what is told of every disk that acts lead to
  pub trails-hold : HoldsOfDisks (trail_disks crash st ch) IsTrail
  trails-hold = record {
    fresh = λ n. record { first = empty_areas; acts = st.reopening n (contents empty_areas); is = refl };
    does = λ a disk t. record { first = t.first; acts = t.acts ++ a.0 ∷ []; is = ap (follow a.0) t.is ∙ sym (followed_append (started t.first) t.acts (a.0 ∷ [])) };
    learns = λ k disk t. t;
    reopened = λ n left. record { first = each settled left; acts = st.reopening n left; is = refl };
  }

-- a word leaves what a crash may leave, where that is by the model's own test
pub words-left : {K V W : Type 0} (st : Stores K V) (ch : Changes K V W)
    (left : (first : Disk) (acts : List Act) (word : ℕ) → may_leave first acts (image_of_kind (word % 4) (followed (started first) acts)) ≡ true) →
    (disk : V × Trail) (word : ℕ) → IsTrail disk → (trail_disks may_become st ch).may_leave disk (left_by_word disk word) ≡ true
words-left st ch left disk word t =
    subst (λ (x : Trail). holds_by may_become x.disk (image_of_kind (word % 4) x) ≡ true) (sym t.is)
    (subst (λ (x : Disk). holds_by may_become x (image_of_kind (word % 4) (followed (started t.first) t.acts)) ≡ true) (sym (disk_followed (started t.first) t.acts)) (left t.first t.acts word))
