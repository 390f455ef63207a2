use Rattle.node_body.specs.Bodies.{kept_as}
use Rattle.node_state.proofs.Changes.{leads_any, leads_known}
use Rattle.node_state.proofs.saving.save_acts.Goals as goal

pub returns-clause-knows : goal.returns-clause-knows
returns-clause-knows g c =
    leads_any g.C.Commands.stack g.C.Wire.format c.args.store.now (kept_as c.args.term c.args.voted c.args.log.now) c.plan.result (λ plan. plan.change) c.plan.ensures.change

pub returns-clause-remembers : goal.returns-clause-remembers
returns-clause-remembers g c =
    leads_known g.C.Commands.stack g.C.Wire.format c.args.store.now (kept_as c.args.term c.args.voted c.args.log.now) c.plan.result (λ plan. plan.change) c.plan.ensures.change
