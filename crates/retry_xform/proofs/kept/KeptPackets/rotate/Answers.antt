use Rattle.std.proofs.Common.{ap, sym, refl, ◌∙◌}
use Rattle.retry_xform.proofs.Entries.{oldest-promoted, oldest-none}
use Rattle.retry_xform.specs.Keeping.{rotated}
use Rattle.retry_xform.specs.KeptEntries.{all_kept}
use Rattle.lru.specs.LruCache.{last_entry}
use Rattle.retry_xform.proofs.kept.KeptPackets.rotate.Goals as goal

pub returns-in-Some : goal.returns-in-Some
returns-in-Some g c =
    let es = c.self.inside.by_number.entries in
    let is = sym c.in-Some.is ∙ c.oldest.ensures in
    ap (λ l. all_kept l.entries) c.promote.ensures.entries
    ∙ (oldest-promoted es c.in-Some.number (last_entry es) refl is c.len-count.ensures.valid.0
    ∙ ap rotated c.self.view_is)

pub returns-in_default : goal.returns-in_default
returns-in_default g c =
    let es = c.self.inside.by_number.entries in
    sym c.self.view_is ∙ (oldest-none es (last_entry es) refl (sym c.in_default.is ∙ c.oldest.ensures) ∙ ap rotated c.self.view_is)
