use Rattle.std.proofs.Common.{refl}
use Rattle.vst_base.specs.Stacks.{row_of}
use Rattle.stacks.specs.Explained.{ExplainsAll}
use Rattle.stacks.specs.Fits.{IsFit}
use Rattle.stacks.specs.Kinds.{plays}
use Rattle.stacks.specs.Table.{kind_at}
use Rattle.stacks.proofs.Explaining.{explains}
use Rattle.stacks.proofs.Fitting.{fits}
use Rattle.stacks.proofs.Found.{mapped-found, of-header, weaker-found}
use Rattle.stacks.proofs.laws.stacks_explain.Goals as goal

pub returns : goal.returns
returns c = λ h known.
    let row = row_of h.stack in
    let own = c.headers_follow_the_rows.ensures.own_row h known in
    let there = of-header h h.stack (IsFit row) own refl (fits h.stack) in
    mapped-found (kind_at h.net h.stack) (λ k. plays k h.nodes) ExplainsAll
    (weaker-found (kind_at h.net h.stack) (IsFit row) (λ k. ExplainsAll (plays k h.nodes)) (λ k fit. explains row k h.nodes fit own.least own.most) there)
