use Rattle.vst_base.specs.Stacks.{row_of}
use Rattle.vst_base.specs.declared.stack.StackId.{StackId}
use Rattle.stacks.specs.Claimed.{claims, claims_on}
use Rattle.stacks.specs.Fits.{IsFit}
use Rattle.stacks.specs.Table.{kind_at}
use Rattle.stacks.proofs.Found.{both-found, mapped-found, weaker-found}
use Rattle.trace_check.specs.Spelled.{IsSpelledKind}
use Rattle.trace_check.proofs.KindClaims.{kind-decided}
use Rattle.trace_check.proofs.Verdicts.{AreDecided, IsDecided, permitted, refuted}
use Rattle.trace_check.proofs.laws.permitted_claims_are_explained.Goals as goal

decided : goal.After-stacks_are_spelled → (i : StackId) → AreDecided (row_of i).most (claims_on i)
decided c i =
    let row = row_of i in
    let kind = kind_at row.net i in
    mapped-found kind (λ k. claims k row.most) (IsDecided row.most)
    (weaker-found kind (λ k. IsFit row k × IsSpelledKind k) (λ k. IsDecided row.most (claims k row.most))
    (λ k both. kind-decided c.stacks_have_one_word.ensures.apart c.headers_follow_the_rows.ensures.own_row row k both.0 both.1)
    (both-found kind (IsFit row) IsSpelledKind (c.stacks_fit_their_rows.ensures i) (c.stacks_are_spelled.ensures i)))

pub returns : goal.returns
returns c = record {
  explained = λ i bytes. permitted (row_of i).most bytes (claims_on i) (decided c i);
  refuted = λ i bytes condition line. refuted (row_of i).most bytes (claims_on i) (decided c i) condition line;
}
