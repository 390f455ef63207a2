-- Acts that make a state durable, and acts that a fault cut short.
use Rattle.std.proofs.Common.{◌≡◌, ℕ, suc, ◌-◌, ◌<◌, ◌≤◌, true, List, [], ◌++◌, length, take, refl, sym, ap, subst, ◌∙◌, arith, ◌⊎◌, inl, inr}
use Rattle.std.proofs.lemmas.Bool.{cases_lt}
use Rattle.std.proofs.lemmas.List.{take-append-le, take_all}
use Rattle.disk.specs.Acts.{Act}
use Rattle.disk.specs.Disk.{Disk, Image, after, may_become, may_hold, may_leave}
use Rattle.disk.specs.Between.{Crash, holds_by, leaves_by}
use Rattle.disk.specs.DiskLaws.{IsCutShort}
use Rattle.disk.proofs.Between.{IsCrash, by_model}
use Rattle.disk.proofs.CutShort.{faults_add_nothing}
use Rattle.disk.proofs.Disks.{settled_stays}
use Rattle.slots.specs.Opening.{Found, Is, Held, opening, OpensAs}
use Rattle.slots.specs.Saving.{next, save_acts}
use Rattle.slots.specs.SavingLaws.{Rests}
use Rattle.slots.specs.Turns.{OnAreas}
use Rattle.slots.specs.TurnLaws.{Keeps, KeepsBy}
use Rattle.slots.proofs.Elsewhere.{after_append, take_none}
use Rattle.slots.proofs.Saves.{saves}
use Rattle.lists.specs.Each.{each_append}
use Rattle.lists.specs.Places.{take-append}

past : (first second : List Act) (n : ℕ) → length first ≤ n → take n (first ++ second) ≡ first ++ take (n - length first) second
past first second n l = take-append n first second ∙ ap (λ xs. xs ++ take (n - length first) second) (take_all n first l)

-- by a test of what a crash may make of an area
module _ (crash : Crash) (is_crash : IsCrash crash) where
  -- at rest
  pub rests_opens_by : {K : Type 0} (found : List ℕ → Found K) (k : K) (s : ℕ) (disk : Disk) (image : Image) → Rests found k s disk → holds_by crash disk image ≡ true → OpensAs found k image
  rests_opens_by found k s disk image r m = (s, subst (λ (i : Image). opening found i ≡ Held k s) (sym (settled_stays crash is_crash disk image r.pending m)) r.opens)

  pub keeps_nothing : {K : Type 0} (found : List ℕ → Found K) (disk : Disk) (s : ℕ) (kept : K) → Rests found kept s disk → KeepsBy crash found kept kept s [] disk
  keeps_nothing found disk s kept r = record {
    each = λ n image m. inl (rests_opens_by found kept s disk image r (subst (λ (a : List Act). leaves_by crash disk a image ≡ true) (take_none Act n [] refl) m));
    done = r;
    only = tt;
  }

  pub keeps_save : {K : Type 0} (found : List ℕ → Found K) (disk : Disk) (s : ℕ) (old new : K) (slot : List ℕ) → Rests found old s disk → found slot ≡ Is new →
      KeepsBy crash found old new (next s) (save_acts s slot) disk
  keeps_save found disk s old new slot r f =
      let sv = saves crash is_crash found disk s old new slot r f in
      record { each = sv.flip; done = sv.done; only = (tt, (tt, (tt, (tt, (tt, tt))))) }

  pub keeps_both : {K : Type 0} (found : List ℕ → Found K) (disk : Disk) (s t : ℕ) (old new : K) (first second : List Act) → KeepsBy crash found old old s first disk →
      KeepsBy crash found old new t second (after disk first) → KeepsBy crash found old new t (first ++ second) disk
  keeps_both found disk s t old new first second a b = record {
    each = λ n image m. go n image m (cases_lt n (length first));
    done = subst (λ (d : Disk). Rests found new t d) (sym (after_append disk first second)) b.done;
    only = each_append OnAreas first second a.only b.only;
  }
    where
      go : (n : ℕ) (image : Image) → leaves_by crash disk (take n (first ++ second)) image ≡ true → (n < length first) ⊎ (length first ≤ n) → OpensAs found old image ⊎ OpensAs found new image
      go n image m (inl l) =
          elim (a.each n image (subst (λ (x : List Act). leaves_by crash disk x image ≡ true) (take-append-le n first second (omega arith)) m)) [ inl o ↦ inl o | inr o ↦ inl o ]
      go n image m (inr l) =
          b.each (n - length first) image
          (subst (λ (d : Disk). holds_by crash d image ≡ true) (ap (after disk) (past first second n l) ∙ after_append disk first (take (n - length first) second)) m)

-- the same by the model's test

pub rests_opens : {K : Type 0} (found : List ℕ → Found K) (k : K) (s : ℕ) (disk : Disk) (image : Image) → Rests found k s disk → may_hold disk image ≡ true → OpensAs found k image
rests_opens = rests_opens_by may_become by_model

pub nothing_is_such : {K : Type 0} (found : List ℕ → Found K) (disk : Disk) (s : ℕ) (kept : K) → Rests found kept s disk → Keeps found kept kept s [] disk
nothing_is_such = keeps_nothing may_become by_model

-- what a crash leaves after acts that were cut short, by the moment of the acts at which it may leave it too
pub record Short (disk : Disk) (acts did : List Act) (image : Image) : Type 0 where
  pub n : ℕ
  pub holds : may_leave disk (take n acts) image ≡ true
  pub count : (n ≡ length did) ⊎ (suc n ≡ length did)

pub shorts : (disk : Disk) (acts did : List Act) (image : Image) → IsCutShort acts did → may_leave disk did image ≡ true → Short disk acts did image
shorts disk acts did image c m = let w = faults_add_nothing disk acts did image c m in record { n = w.0; holds = w.2; count = w.1 }
