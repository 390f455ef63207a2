use Rattle.disk.specs.Images.{started}
use Rattle.disk.proofs.Imaging.{words_give_images}
use Rattle.store_acts.proofs.Trails.{disk_followed, followed_append}
use Rattle.store_acts.proofs.laws.stops_leave_images.Goals as goal

pub returns-clause-both : goal.returns-clause-both
returns-clause-both c = followed_append

pub returns-clause-disk : goal.returns-clause-disk
returns-clause-disk c = λ first acts. disk_followed (started first) acts

pub returns-clause-left : goal.returns-clause-left
returns-clause-left c = words_give_images
