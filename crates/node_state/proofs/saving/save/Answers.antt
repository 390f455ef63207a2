use Rattle.std.proofs.Common.{IfSome, OnOk, subst}
use Rattle.node_acts.proofs.Helds.{kept_same}
use Rattle.node_body.specs.Bodies.{kept_as}
use Rattle.node_device.specs.Telling.{WhereTold}
use Rattle.node_state.specs.Crashes.{LeavesEither, Saves}
use Rattle.node_state.proofs.saving.save.Goals as goal

pub returns-clause-keeps : goal.returns-clause-keeps
returns-clause-keeps g c =
    let same = kept_same (kept_as c.term.result c.voted.result c.log.result.now) c.args.kept.now c.term.ensures.value c.voted.ensures c.log.ensures.value in
    subst (λ k. OnOk c.save_change.result (IfSome (g.D.Device.told c.args.device.now) (Saves g.C.Commands.stack g.C.Wire.format c.args.store.now k))) same
    c.save_change.ensures.keeps

pub returns-clause-crash : goal.returns-clause-crash
returns-clause-crash g c =
    let same = kept_same (kept_as c.term.result c.voted.result c.log.result.now) c.args.kept.now c.term.ensures.value c.voted.ensures c.log.ensures.value in
    subst (λ k. WhereTold (g.D.Device.told c.args.device.now) (g.D.Device.told c.save_change.new.device) (LeavesEither {C = g.row.C.Denot} g.C.Commands.stack g.C.Wire.format c.args.store.now k)) same
    c.save_change.ensures.crash
