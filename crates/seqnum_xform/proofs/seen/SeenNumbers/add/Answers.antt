use Rattle.std.proofs.Common.{ap, ◌∙◌, ◌≡◌}
use Rattle.std.proofs.Common.{set as put_at}
use Rattle.std.proofs.lemmas.Result.{on_ok_weaker}
use Rattle.std.specs.FinSet as set
use Rattle.seqnum_xform.specs.Numbering.{with_seen}
use Rattle.seqnum_xform.proofs.Senders.{with_seen-placed}
use Rattle.seqnum_xform.proofs.seen.SeenNumbers.add.Goals as goal

pub returns : goal.returns
returns c = on_ok_weaker c.insert.result (λ e.
    let items = c.reach.new.senders.items in
    let place = c.from-place.result in
    let same : place ≡ c.args.sender = c.from-place.ensures ∙ c.index.ensures in
    ap (λ s. put_at items place s) (e ∙ ap (λ s. set.insert s c.args.n) c.index_mut-numbers.ensures.value)
    ∙ (with_seen-placed items place c.args.n _ c.in_ok-reach.ensures.there
    ∙ (c.in_ok-reach.ensures.same c.args.n
    ∙ (ap (λ ss. with_seen ss place c.args.n) c.self.view_is ∙ ap (λ k. with_seen c.args.self.now k c.args.n) same)))) c.insert.ensures.ok
