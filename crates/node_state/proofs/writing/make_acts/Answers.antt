use Rattle.std.proofs.Common.{◌∙◌, arith}
use Rattle.store_acts.specs.StoreActs.{act_of}
use Rattle.node_state.proofs.Stopping.{did_more, on_err, stopped_more}
use Rattle.node_state.proofs.writing.make_acts.Goals as goal

pub returns-in_err-make-clause-stopped : goal.returns-in_err-make-clause-stopped
returns-in_err-make-clause-stopped g c =
    on_err _ _ (stopped_more act_of c.args.acts.now c.loop-act.act-index c.act-item.result _ _ _ (omega arith) c.act-item.is c.loop-act.invariant.did c.in_err-make.ensures.stopped)

pub loop-act-preserved : goal.loop-act-preserved
loop-act-preserved g c = record {
  did = did_more act_of c.args.acts.now c.loop-act.act-index c.act-item.result _ _ _ (omega arith) c.act-item.is c.loop-act.invariant.did c.in_ok-make.ensures.did;
  begun = c.make.ensures.begun;
  counts = c.in_ok-make.ensures.causes ∙ c.loop-act.invariant.counts;
  wants = c.in_ok-make.ensures.wants ∙ c.loop-act.invariant.wants;
}
