use Rattle.std.proofs.Common.{refl}
use Rattle.std.proofs.lemmas.Result.{on_ok_weaker}
use Rattle.node_body.specs.Bodies.{kept_as}
use Rattle.node_body.specs.BodyLaws.{body_fits}
use Rattle.wire_fields.specs.Fronts.{front_stays}
use Rattle.node_body.proofs.body.put_state.Goals as goal

pub returns-clause-fits : goal.returns-clause-fits
returns-clause-fits g c =
    on_ok_weaker c.put_log.result
    (λ entries. body_fits c.args.who.now.stack g.C.Wire.format c.args.who.now (kept_as c.args.term c.args.voted c.args.log.now) refl c.requires.nodes c.requires.me c.in_ok-put_owner.ensures.fits c.requires.term c.requires.voted
    entries)
    c.put_log.ensures.fits

pub returns-clause-err : goal.returns-clause-err
returns-clause-err g c =
    let result = c.put_log.result in
    let new = c.put_log.new.out.items in
    front_stays result c.args.out.now.items _ c.put_owner.new.out.items new c.in_ok-put_owner.ensures.ok
    (front_stays result c.put_owner.new.out.items _ c.put_u64.new.out.items new c.in_ok-put_u64.ensures.ok
    (front_stays result c.put_u64.new.out.items _ c.put_vote.new.out.items new c.in_ok-put_vote.ensures.ok c.put_log.ensures.err))
