use Rattle.std.proofs.Common.{refl, sym, ap, ◌∙◌}
use Rattle.read_observer.proofs.Noting.{used-kept, used_as}
use Rattle.read_observer.proofs.pairs.UsedPairs.is_used.Goals as goal

pub returns-then-was_read : goal.returns-then-was_read
returns-then-was_read g c = λ is_read earlier reads noted.
    let i = c.args.request.now in
    let kept = c.in-Some.ensures.value ∙ rw (c.self.view_is) (noted i.client i.request) in
    c.if-was_read.true ∙ sym (used-kept is_read earlier i ∙ ap (λ o. used_as o (is_read i.cmd)) (sym kept) ∙ rw (c.if-was_read.true) refl)

pub returns-else-was_read : goal.returns-else-was_read
returns-else-was_read g c = λ is_read earlier reads noted.
    let i = c.args.request.now in
    let kept = c.in-Some.ensures.value ∙ rw (c.self.view_is) (noted i.client i.request) in
    sym reads ∙ sym (used-kept is_read earlier i ∙ ap (λ o. used_as o (is_read i.cmd)) (sym kept) ∙ rw (c.if-was_read.false) refl)

pub returns-in-None : goal.returns-in-None
returns-in-None g c = λ is_read earlier reads noted.
    let i = c.args.request.now in
    let kept = c.in-None.ensures.value ∙ rw (c.self.view_is) (noted i.client i.request) in
    sym (used-kept is_read earlier i ∙ ap (λ o. used_as o (is_read i.cmd)) (sym kept))
