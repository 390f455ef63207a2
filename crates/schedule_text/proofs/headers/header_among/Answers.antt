use Rattle.std.proofs.Common.{◌+◌, ap, ◌∙◌, sym, drop}
use Rattle.std.proofs.lemmas.List.{at_drop_more}
use Rattle.schedule_text.specs.Headers.{header_among, or_else}
use Rattle.schedule_text.proofs.headers.header_among.Goals as goal

pub loop-row-preserved : goal.loop-row-preserved
loop-row-preserved c =
    let rows = c.args.rows.now in
    let line = c.args.line.now in
    let i = c.loop-row.row-index in
    let at = at_drop_more (λ rs. header_among rs line) rows i _ c.loop-row-test.true in
    ap (λ h. or_else h (header_among (drop (i + 1) rows) line)) c.in_default.ensures ∙ (sym at ∙ c.loop-row.invariant)
