use Rattle.std.specs.Prelude.{true}
use Rattle.std.proofs.Common.{◌≡◌, ◌∙◌, ◌≤◌, Some, ap, arith, subst, sym}
use Rattle.vst_base.specs.Stacks.{row_of}
use Rattle.vst_base.specs.declared.stack.StackId.{StackId}
use Rattle.line_reader.specs.Lines.{lines_of}
use Rattle.schedule_replay.specs.Explained.{most_lines}
use Rattle.schedule_replay.specs.Replays.{replayed, replayed_opening}
use Rattle.schedule_replay.proofs.Explained.{header-good}
use Rattle.stacks.specs.Checks.{IsClaim}
use Rattle.stacks.specs.Claimed.{AnyClaims, claims}
use Rattle.stacks.specs.Fits.{IsFit}
use Rattle.stacks.specs.Kinds.{Kind, plays}
use Rattle.stacks.specs.Plays.{AnyPlay}
use Rattle.stacks.specs.Table.{kind_at, plays_at}
use Rattle.stacks.proofs.Found.{at-row, both-found, found-mapped, mapped-found, weaker-found}
use Rattle.trace_check.specs.Permitted.{stack_of_opening}
use Rattle.trace_check.specs.Spelled.{IsSpelledKind}
use Rattle.trace_check.proofs.Counted.{IsCountedOn, counted}
use Rattle.trace_check.proofs.LayerReplays.{kind-claim}
use Rattle.trace_check.proofs.laws.replays_are_permitted.Goals as goal

some-same : {A : Type 0} (a b : A) → Some a ≡ Some b → a ≡ b
some-same a b e = cc

pub returns : goal.returns
returns c = λ bytes s found accepted within.
    let r = c.replays_are_explained.ensures.explained bytes accepted in
    let h = r.header in
    let text = (replayed bytes).out in
    let row = row_of s in
    let kind = kind_at row.net s in
    let own = c.headers_follow_the_rows.ensures.own_row h (header-good most_lines 1 (lines_of bytes) h r.number r.lines r.opens) in
    let opened : Some h.stack ≡ Some s = sym (ap stack_of_opening r.opens) ∙ found in
    let same : h.stack ≡ s = some-same h.stack s opened in
    let least = subst (λ (t : StackId). (row_of t).least ≤ h.nodes) same own.least in
    let most = subst (λ (t : StackId). h.nodes ≤ (row_of t).most) same own.most in
    let counts = (replayed bytes).counts in
    let WasCounted = λ (a : AnyPlay). IsCountedOn r.number r.lines text counts a in
    let IsSo = λ (a : AnyClaims). IsClaim a row.most a.plays.Explains text in
    let IsGood = λ (k : Kind). IsFit row k × IsSpelledKind k in
    let found_there = counted r.number r.lines text counts (plays_at h) (sym (ap (λ o. (replayed_opening true o).counts) r.opens)) r.replayed in
    let written = at-row h s (λ k. WasCounted (plays k h.nodes)) own same (found-mapped (kind_at h.net h.stack) (λ k. plays k h.nodes) WasCounted found_there) in
    let good = both-found kind (IsFit row) IsSpelledKind (c.stacks_fit_their_rows.ensures s) (c.stacks_are_spelled.ensures s) in
    (c.permitted_claims_are_explained.ensures.explained s text).1
    (mapped-found kind (λ k. claims k row.most) IsSo
    (weaker-found kind (λ k. IsGood k × WasCounted (plays k h.nodes)) (λ k. IsSo (claims k row.most))
    (λ k all. let few = all.0.0.few in kind-claim c.headers_follow_the_rows.ensures.each_row row (omega (arith, few)) h.nodes least most r.number r.lines text k all.0.0 all.0.1 within.lines all.1.on (λ on. subst (λ c. c ≤ 1000000) all.1.image (within.image on)))
    (both-found kind IsGood (λ k. WasCounted (plays k h.nodes)) good written)))
