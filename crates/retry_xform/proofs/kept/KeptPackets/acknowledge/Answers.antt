use Rattle.std.proofs.Common.{ap, sym, ◌∙◌}
use Rattle.retry_xform.proofs.Entries.{left-meant, left-other}
use Rattle.retry_xform.specs.Keeping.{acknowledged}
use Rattle.retry_xform.specs.KeptEntries.{all_kept}
use Rattle.retry_xform.proofs.kept.KeptPackets.acknowledge.Goals.{in-Some-1, in-None-1}
use Rattle.retry_xform.proofs.kept.KeptPackets.acknowledge.Goals as goal

pub returns-then-is_meant : goal.returns-then-is_meant
returns-then-is_meant g c =
    let es = c.self.inside.by_number.entries in
    let meant = sym c.is_meant.ensures ∙ c.if-is_meant.true in
    let after = sym (left-meant c.args.from c.args.number es meant c.len-count.ensures.valid.0) ∙ ap (acknowledged c.args.from c.args.number) c.self.view_is in
    elim c.match-pop.branch [
      | in-Some-1 w ↦ rw w.self-is (ap (λ l. all_kept l.entries) c.pop.ensures.entries ∙ after)
      | in-None-1 w ↦ rw w.self-is (ap (λ l. all_kept l.entries) c.pop.ensures.entries ∙ after)
    ]

pub returns-else-is_meant : goal.returns-else-is_meant
returns-else-is_meant g c =
    let es = c.self.inside.by_number.entries in
    let other = sym c.is_meant.ensures ∙ c.if-is_meant.false in
    sym (ap (acknowledged c.args.from c.args.number) (sym c.self.view_is) ∙ left-other c.args.from c.args.number es other c.len-count.ensures.valid.0 ∙ c.self.view_is)
