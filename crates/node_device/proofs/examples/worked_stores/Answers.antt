-- What a failed write may leave.
use Rattle.std.proofs.Common.{[], ◌∷◌, refl}
use Rattle.std.proofs.lemmas.Bool.{false≢true}
use Rattle.disk.specs.Acts.{WriteAt}
use Rattle.disk.specs.Disk.{settled}
use Rattle.disk.proofs.Failing.{failure_may_do_nothing}
use Rattle.node_device.proofs.examples.worked_stores.Goals as goal

pub returns-clause-failed_done : goal.returns-clause-failed_done
returns-clause-failed_done c = record { acts = refl; disk = λ image h. h }

pub returns-clause-failed_undone : goal.returns-clause-failed_undone
returns-clause-failed_undone c = record {
  acts = refl;
  disk = failure_may_do_nothing (WriteAt 0 0 (9 ∷ [])) (record { slot0 = settled (1 ∷ 2 ∷ []); slot1 = settled []; selector = settled [] });
}

pub returns-clause-failed_elsewhere : goal.returns-clause-failed_elsewhere
returns-clause-failed_elsewhere c = λ h. false≢true (h.disk (record { slot0 = 1 ∷ 5 ∷ []; slot1 = []; selector = [] }) refl)
