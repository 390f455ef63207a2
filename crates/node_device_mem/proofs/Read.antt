-- Areas that are as the acts left them.
use Rattle.std.proofs.Common.{◌≡◌, List, [], ◌∷◌, ◌++◌, Option, Some, None, refl, sym, ap, subst, ◌∙◌}
use Rattle.disk.specs.Acts.{Act}
use Rattle.disk.specs.Disk.{Disk, contents, effect, after}
use Rattle.disk.specs.Images.{Trail, started, follow, followed, image_by_word}
use Rattle.node_device.specs.Telling.{Told, Did}
use Rattle.node_device_mem.specs.Devices.{AreasFollow}

after_both : (disk : Disk) (xs ys : List Act) → after disk (xs ++ ys) ≡ after (after disk xs) ys
after_both disk [] ys = refl
after_both disk (x ∷ xs) ys = after_both (effect x disk) xs ys

trail_disk : (trail : Trail) (acts : List Act) → (followed trail acts).disk ≡ after trail.disk acts
trail_disk trail [] = refl
trail_disk trail (act ∷ acts) = trail_disk (follow act trail) acts

pub follow_more : (first : Disk) (old new : Option Told) (acts : List Act) → AreasFollow first old → Did old new acts → AreasFollow first new
follow_more first None new acts h e = subst (λ (o : Option Told). AreasFollow first o) (sym e) tt
follow_more first (Some t) new acts h e =
    subst (λ (o : Option Told). AreasFollow first o) (sym e) (ap (λ (disk : Disk). after disk acts) h ∙ sym (after_both first t.acts acts))

pub read_by_word : (first : Disk) (told : Told) → AreasFollow first (Some told) → image_by_word first told.acts 1 ≡ contents told.disk
read_by_word first told h = ap contents (trail_disk (started first) told.acts ∙ sym h)
