use Rattle.std.proofs.Common.{refl}
use Rattle.vst_base.specs.Stacks.{row_of}
use Rattle.stacks.specs.Fits.{IsFit}
use Rattle.stacks.proofs.Fitting.{fits}
use Rattle.stacks.proofs.Found.{of-header}
use Rattle.stacks.proofs.laws.headers_have_stacks.Goals as goal

pub returns : goal.returns
returns c = λ h known. of-header h h.stack (IsFit (row_of h.stack)) (c.headers_follow_the_rows.ensures.own_row h known) refl (fits h.stack)
