use Rattle.std.proofs.Common.{◌+◌, ap, ◌∙◌, sym, take}
use Rattle.std.specs.Option.{option_copied}
use Rattle.claim_verdicts.specs.Backups.{is_at_backup, is_wrong_at_backup, is_wrong_between, last_of, passes}
use Rattle.claim_verdicts.proofs.Neighbours.{copied-is, last-more, next-is}
use Rattle.claim_verdicts.proofs.WrongPlaces.{wrong-more}
use Rattle.claim_verdicts.proofs.redirecting.wrong_at_backup.Goals as goal

pub loop-place-preserved : goal.loop-place-preserved
loop-place-preserved g c =
    let xs = c.args.trace.now in
    let i = c.loop-place.place in
    let x = c.index-trace-place.result in
    let inv = c.loop-place.invariant in
    record {
      first = inv.first ∙ wrong-more is_wrong_at_backup xs i x c.loop-place-test.true c.index-trace-place.is
          (ap (is_wrong_between (passes is_at_backup (last_of (take i xs))) x) (next-is xs (i + 1) ∙ copied-is _ xs (i + 1) c.get.result c.get.ensures.lookup.1 c.get.ensures.lookup.3)
          ∙ (ap (λ b. is_wrong_between b x (option_copied c.get.result)) (sym inv.behind) ∙ (sym c.is_wrong_between.ensures ∙ c.if-is_wrong_between.false)));
      behind = c.is_at_backup-after_input.ensures ∙ ap (passes is_at_backup) (sym (last-more xs i x c.loop-place-test.true c.index-trace-place.is));
    }
