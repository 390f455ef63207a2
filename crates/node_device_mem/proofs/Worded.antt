-- The image of a trail is one that a crash may leave.
use Rattle.std.proofs.Common.{◌≡◌, ℕ, ◌%◌, true, Option, Some, None, Result, Ok, Err, IfOk, IfSome, List, take, sym, ap, subst, ◌∙◌}
use Rattle.disk.specs.Acts.{Act}
use Rattle.disk.specs.Disk.{Disk, Image, may_leave}
use Rattle.disk.specs.Images.{Trail, started, followed, image_of_kind}
use Rattle.disk.proofs.Imaging.{words_give_images}
use Rattle.node_device_mem.specs.MemoryDisks.{image_of}
use Rattle.node_device_mem.specs.Devices.{told_by}
use Rattle.node_device_mem.specs.declared.memory_disk.Areas.{Areas}

pub worded_left : {E : Type 0} (result : Result Areas E) (acts : Option (List Act)) (first disk : Disk) (trail : Trail) (n word : ℕ) →
    IfOk result (λ areas. image_of areas ≡ image_of_kind (word % 4) trail) →
    IfSome acts (λ told. trail ≡ followed (started first) (take n told)) →
    IfOk result (λ areas. IfSome (told_by acts disk) (λ told. may_leave first (take n told.acts) (image_of areas) ≡ true))
worded_left (Err e) acts first disk trail n word is follows = tt
worded_left (Ok areas) None first disk trail n word is follows = tt
worded_left (Ok areas) (Some told) first disk trail n word is follows =
    subst (λ (image : Image). may_leave first (take n told) image ≡ true) (sym (is ∙ ap (image_of_kind (word % 4)) follows))
    (words_give_images first (take n told) word)
