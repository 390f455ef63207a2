use Rattle.claim_verdicts.proofs.Naming.{distinct-more, front-stops, front-whole, names-push}
use Rattle.claim_verdicts.proofs.numbering.number_names.Goals as goal

pub returns-then-not-branch : goal.returns-then-not-branch
returns-then-not-branch g c =
    let inv = c.loop-request.invariant in
    front-stops c.loop-request.names c.add.new.self c.args.order.now c.loop-request.request-index c.request-item.result c.in_ok-add.field-0 c.loop-request-test.true c.request-item.is inv.names inv.distinct c.in_ok-add.ensures.new c.in_ok-add.ensures.added c.if-not-branch.true

pub loop-request-preserved : goal.loop-request-preserved
loop-request-preserved g c =
    let inv = c.loop-request.invariant in
    let i = c.loop-request.request-index in
    record {
      names = names-push c.loop-request.names c.add.new.self c.args.order.now i c.request-item.result c.in_ok-add.field-0 c.loop-request-test.true c.request-item.is inv.names c.in_ok-add.ensures.added c.if-not-branch.false;
      distinct = distinct-more c.loop-request.names c.args.order.now i c.request-item.result c.in_ok-add.field-0 c.loop-request-test.true c.request-item.is inv.names inv.distinct c.in_ok-add.ensures.new c.if-not-branch.false;
    }

pub returns : goal.returns
returns g c =
    let inv = c.loop-request.invariant in
    front-whole c.loop-request.names c.args.order.now c.loop-request.request-index c.loop-request.auto.request-index-end c.loop-request-test.false inv.names inv.distinct
