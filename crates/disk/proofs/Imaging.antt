-- What each word gives is an image.
use Rattle.std.proofs.Common.{◌≡◌, ℕ, zero, suc, ◌%◌, Bool, true, false, List, [], ◌∷◌, length, refl, ap, subst, cond, eq-eqb, eqb, ◌||◌}
use Rattle.std.proofs.lemmas.Bool.{and_parts, and_from, or_left, or_right}
use Rattle.disk.specs.Acts.{Act, Began, BeginFailed, Now, Took, Quiet, ReceiveFailed, Sent, SendFailed, Wrote, Cut, Synced, StoreFailed}
use Rattle.disk.specs.Areas.{area_at, changed}
use Rattle.disk.specs.Disk.{Area, Disk, Image, contents, synced, after, is_pending, agrees, may_become, may_hold, may_leave}
use Rattle.disk.specs.Images.{Trail, started, follow, followed, torn_from, torn, image_of_kind, image_by_word}
use Rattle.disk.proofs.Becoming.{becomes_self}
use Rattle.disk.proofs.Between.{by_model}
use Rattle.disk.proofs.Disks.{holds_self}
use Rattle.disk.proofs.Failing.{act_adds}

-- the disk of a trail

disk_followed : (trail : Trail) (acts : List Act) → (followed trail acts).disk ≡ after trail.disk acts
disk_followed trail [] = refl
disk_followed trail (act ∷ acts) = disk_followed (follow act trail) acts

-- what stood at the last syncs

synced_holds : (area : ℕ) (disk : Disk) (stood : Image) → may_hold disk stood ≡ true →
    may_hold (changed disk area synced) (changed stood area (λ _. area_at (contents disk) area)) ≡ true
synced_holds zero disk stood m = and_from _ _ (becomes_self (synced disk.slot0)) (and_parts _ _ m).1
synced_holds (suc zero) disk stood m =
    and_from _ _ (and_parts _ _ m).0 (and_from _ _ (becomes_self (synced disk.slot1)) (and_parts _ _ (and_parts _ _ m).1).1)
synced_holds (suc (suc n)) disk stood m =
    and_from _ _ (and_parts _ _ m).0 (and_from _ _ (and_parts _ _ (and_parts _ _ m).1).0 (becomes_self (synced disk.selector)))

stands : (act : Act) (trail : Trail) → may_hold trail.disk trail.stood ≡ true → may_hold (follow act trail).disk (follow act trail).stood ≡ true
stands (Synced area) trail m = synced_holds area trail.disk trail.stood m
stands (Wrote area at bytes) trail m = act_adds may_become by_model (Wrote area at bytes) trail.disk trail.stood tt m
stands (Cut area len) trail m = act_adds may_become by_model (Cut area len) trail.disk trail.stood tt m
stands (StoreFailed call) trail m = act_adds may_become by_model (StoreFailed call) trail.disk trail.stood tt m
stands (Began at dir) trail m = m
stands (BeginFailed at dir) trail m = m
stands (Now ms) trail m = m
stands (Took wait from bytes) trail m = m
stands (Quiet wait) trail m = m
stands (ReceiveFailed wait) trail m = m
stands (Sent to bytes) trail m = m
stands (SendFailed to bytes) trail m = m

stood_holds : (trail : Trail) (acts : List Act) → may_hold trail.disk trail.stood ≡ true → may_hold (followed trail acts).disk (followed trail acts).stood ≡ true
stood_holds trail [] m = m
stood_holds trail (act ∷ acts) m = stood_holds (follow act trail) acts (stands act trail m)

-- one byte in each place that is pending

agrees_torn : (byte : ℕ) (area : Area) (i : ℕ) (xs : List ℕ) → agrees area i xs (torn_from byte area i xs) ≡ true
agrees_torn byte area i [] = refl
agrees_torn byte area i (x ∷ xs) = and_from _ _ (head (is_pending area i)) (agrees_torn byte area (suc i) xs)
  where
    head : (p : Bool) → (eqb x (cond p byte x) || p) ≡ true
    head true = or_right _ _ refl
    head false = or_left _ _ (eq-eqb x x refl)

length_torn : (byte : ℕ) (area : Area) (i : ℕ) (xs : List ℕ) → length (torn_from byte area i xs) ≡ length xs
length_torn byte area i [] = refl
length_torn byte area i (x ∷ xs) = ap suc (length_torn byte area (suc i) xs)

becomes_torn : (byte : ℕ) (area : Area) → may_become area (torn byte area) ≡ true
becomes_torn byte area =
    and_from _ _ (or_left _ _ (eq-eqb (length (torn byte area)) (length area.bytes) (length_torn byte area 0 area.bytes)))
    (agrees_torn byte area 0 area.bytes)

torn_holds : (byte : ℕ) (disk : Disk) → may_hold disk (record { slot0 = torn byte disk.slot0; slot1 = torn byte disk.slot1; selector = torn byte disk.selector }) ≡ true
torn_holds byte disk = and_from _ _ (becomes_torn byte disk.slot0) (and_from _ _ (becomes_torn byte disk.slot1) (becomes_torn byte disk.selector))

-- together

each_kind : (kind : ℕ) (trail : Trail) → may_hold trail.disk trail.stood ≡ true → may_hold trail.disk (image_of_kind kind trail) ≡ true
each_kind zero trail m = m
each_kind (suc zero) trail m = holds_self may_become by_model trail.disk
each_kind (suc (suc zero)) trail m = torn_holds 255 trail.disk
each_kind (suc (suc (suc n))) trail m = torn_holds 0 trail.disk

pub words_give_images : (first : Disk) (acts : List Act) (word : ℕ) → may_leave first acts (image_by_word first acts word) ≡ true
words_give_images first acts word =
    subst (λ (d : Disk). may_hold d (image_by_word first acts word) ≡ true) (disk_followed (started first) acts)
    (each_kind (word % 4) (followed (started first) acts) (stood_holds (started first) acts (holds_self may_become by_model first)))
