use Rattle.disk.proofs.Imaging.{words_give_images}
use Rattle.disk.proofs.every_disk.worded_images.Goals as goal

pub returns : goal.returns
returns c = words_give_images
