use Rattle.std.proofs.Common.{ap, arith, ◌∙◌, ◌++◌, ◌∷◌, []}
use Rattle.retry_xform.proofs.Entries.{put-shown}
use Rattle.retry_xform.specs.KeptEntries.{all_kept, as_kept}
use Rattle.retry_xform.proofs.kept.KeptPackets.add.Goals as goal

pub returns : goal.returns
returns g c =
    let cache = c.self.inside.by_number in
    let unused = rw (← c.self.view_is) at c.requires.unused in
    record {
      added =
          ap (λ l. all_kept l.entries) c.in_ok-put.ensures.entries
          ∙ (put-shown cache c.args.number (c.args.to, c.args.content) unused (omega (arith, c.len-count.ensures.len, c.len-count.ensures.fits, c.self.invariant))
          ∙ ap (λ ks. ks ++ as_kept (c.args.number, (c.args.to, c.args.content)) ∷ []) c.self.view_is);
      unchanged = tt;
    }
