-- A store call that failed permits what was permitted before it.
use Rattle.std.proofs.Common.{◌≡◌, ℕ, zero, suc, true, List, [], ◌∷◌}
use Rattle.std.proofs.lemmas.Bool.{and_parts, and_from}
use Rattle.disk.specs.Acts.{StoreCall, ReadAt, WriteAt, CutTo, Sync, Act, Wrote, Cut, Synced, StoreFailed}
use Rattle.disk.specs.Areas.{changed}
use Rattle.disk.specs.Disk.{Area, Disk, Image, written, cut, failed, effect, may_become, may_hold}
use Rattle.disk.specs.Between.{Crash, holds_by, leaves_by}
use Rattle.disk.specs.DiskLaws.{IsNoSync}
use Rattle.disk.proofs.Between.{IsCrash, by_model}
use Rattle.lists.specs.Each.{Each}

module _ (crash : Crash) (is : IsCrash crash) where
  changed_more : (disk : Disk) (n : ℕ) (f : Area → Area) (image : Image) → ((area : Area) (bytes : List ℕ) → crash area bytes ≡ true → crash (f area) bytes ≡ true) →
      holds_by crash disk image ≡ true → holds_by crash (changed disk n f) image ≡ true
  changed_more disk zero f image h m = and_from _ _ (h disk.slot0 image.slot0 (and_parts _ _ m).0) (and_parts _ _ m).1
  changed_more disk (suc zero) f image h m =
      let r = (and_parts _ _ m).1 in
      and_from _ _ (and_parts _ _ m).0 (and_from _ _ (h disk.slot1 image.slot1 (and_parts _ _ r).0) (and_parts _ _ r).1)
  changed_more disk (suc (suc n)) f image h m =
      let r = (and_parts _ _ m).1 in
      and_from _ _ (and_parts _ _ m).0 (and_from _ _ (and_parts _ _ r).0 (h disk.selector image.selector (and_parts _ _ r).1))

  pub failure_adds : (call : StoreCall) (disk : Disk) (image : Image) → holds_by crash disk image ≡ true → holds_by crash (failed call disk) image ≡ true
  failure_adds (ReadAt area at room) disk image m = m
  failure_adds (WriteAt area at bytes) disk image m = changed_more disk area (written at bytes) image (is.write_adds at bytes) m
  failure_adds (CutTo area len) disk image m = changed_more disk area (cut len) image (is.cut_adds len) m
  failure_adds (Sync area) disk image m = m

  pub act_adds : (act : Act) (disk : Disk) (image : Image) → IsNoSync act → holds_by crash disk image ≡ true → holds_by crash (effect act disk) image ≡ true
  act_adds (Wrote area at bytes) disk image h m = changed_more disk area (written at bytes) image (is.write_adds at bytes) m
  act_adds (Cut area len) disk image h m = changed_more disk area (cut len) image (is.cut_adds len) m
  act_adds (Synced area) disk image h m = absurd h
  act_adds (StoreFailed call) disk image h m = failure_adds call disk image m
  act_adds act disk image h m = m

  pub acts_only_add : (disk : Disk) (acts : List Act) (image : Image) → Each IsNoSync acts → holds_by crash disk image ≡ true → leaves_by crash disk acts image ≡ true
  acts_only_add disk [] image h m = m
  acts_only_add disk (act ∷ acts) image h m = acts_only_add (effect act disk) acts image h.1 (act_adds act disk image h.0 m)

pub failure_may_do_nothing : (call : StoreCall) (disk : Disk) (image : Image) → may_hold disk image ≡ true → may_hold (failed call disk) image ≡ true
failure_may_do_nothing = failure_adds may_become by_model
