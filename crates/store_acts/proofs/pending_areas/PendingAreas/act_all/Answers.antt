use Rattle.std.proofs.Common.{◌≡◌, ◌∷◌, List, OnErr, Result, Ok, Err, length, ap, arith}
use Rattle.std.specs.Vec.Iter.{into_iter_items}
use Rattle.store_acts.specs.PendingAreas.{trail_of}
use Rattle.store_acts.specs.StoreActs.{act_of, acts_of}
use Rattle.store_acts.specs.declared.act.StoreAct.{StoreAct}
use Rattle.store_acts.proofs.Trails.{one_more_done, stopped_before}
use Rattle.store_acts.proofs.pending_areas.PendingAreas.act_all.Goals as goal

pub loop-act-preserved : goal.loop-act-preserved
loop-act-preserved c =
    let at = c.loop-act in
    let left : List StoreAct = into_iter_items c.next.new.self in
    let steps : into_iter_items at.act-iterator ≡ c.in-Some.act ∷ left = c.in-Some.ensures.steps.0 in
    let done = rw steps at at.invariant.done in
    record {
      done = one_more_done (trail_of c.args.self.now) (acts_of c.args.acts.items) (trail_of at.self) (act_of c.in-Some.act) (acts_of left) _ c.in_ok-act.ensures.ok done;
      count =
          let was = at.invariant.count in
          let gone = c.in-Some.ensures.steps.1 in
          let short = ap length steps in
          omega arith;
    }

either : {T E : Type 0} {P : Type 0} (r : Result T E) → P → OnErr r P
either (Ok x) so = tt
either (Err e) so = so

pub returns-in_err-act-clause-err : goal.returns-in_err-act-clause-err
returns-in_err-act-clause-err c =
    let at = c.loop-act in
    let steps : into_iter_items at.act-iterator ≡ c.in-Some.act ∷ into_iter_items c.next.new.self = c.in-Some.ensures.steps.0 in
    let done = rw steps at at.invariant.done in
    let stopped = stopped_before (trail_of c.args.self.now) (acts_of c.args.acts.items) (trail_of at.self) _ _ done in
    either c.from_residual.result (rw c.in_err-act.ensures.err stopped)
