use Rattle.vst_base.specs.Stacks.{row_of}
use Rattle.stacks.specs.Explained.{TakesImages}
use Rattle.stacks.specs.Fits.{IsFit}
use Rattle.stacks.specs.Table.{kind_at}
use Rattle.stacks.proofs.Explaining.{takes-images}
use Rattle.stacks.proofs.Fitting.{fits}
use Rattle.stacks.proofs.Found.{weaker-found}
use Rattle.stacks.proofs.laws.machine_takes_images.Goals as goal

pub returns : goal.returns
returns c = λ i. weaker-found (kind_at (row_of i).net i) (IsFit (row_of i)) TakesImages (λ k fit. takes-images k) (fits i)
