use Rattle.std.proofs.Common.{◌≡◌, length}
use Rattle.std.specs.Vec.Iter.{into_iter_items, into_iter_len}
use Rattle.store_acts.specs.PendingAreas.{trail_of}
use Rattle.store_acts.specs.StoreActs.{acts_of}
use Rattle.store_acts.proofs.Trails.{PartDone}
use Rattle.store_acts.proofs.pending_areas.PendingAreas.act_all.Given as goal

abbrev pub invariant-loop-act : goal.invariant-loop-act
invariant-loop-act l = record {
  done : PartDone (trail_of l.initial.self) (acts_of l.fn.acts.items) (trail_of l.self) (acts_of (into_iter_items l.act-iterator));
  count : into_iter_len l.act-iterator ≡ length (into_iter_items l.act-iterator);
}
