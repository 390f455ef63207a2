use Rattle.std.proofs.Common.{ap, sym, ◌∙◌, ◌≡◌, Some, None, option_map}
use Rattle.std.specs.Prelude.{slice_get}
use Rattle.std.specs.Map.Iter.{deref_pair}
use Rattle.lru.specs.LruCache.{last_entry}
use Rattle.retry_xform.proofs.Entries.{first-shown}
use Rattle.retry_xform.proofs.kept.KeptPackets.first.Goals as goal

pub returns-in-Some : goal.returns-in-Some
returns-in-Some g c =
    let es = c.self.inside.by_number.entries in
    let last : last_entry es ≡ Some (c.in-Some.number.now, c.in-Some.field-0-1.now) = sym c.peek_lru.ensures ∙ ap (option_map deref_pair) c.in-Some.is in
    sym (ap (λ ks. slice_get ks 0) (sym c.self.view_is) ∙ first-shown es (Some (c.in-Some.number.now, c.in-Some.field-0-1.now)) last)

pub returns-in-None : goal.returns-in-None
returns-in-None g c =
    let es = c.self.inside.by_number.entries in
    let last : last_entry es ≡ None = sym c.peek_lru.ensures ∙ ap (option_map deref_pair) c.in-None.is in
    sym (ap (λ ks. slice_get ks 0) (sym c.self.view_is) ∙ first-shown es None last)
