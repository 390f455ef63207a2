use Rattle.std.proofs.Common.{refl}
use Rattle.handler_trait.specs.Facts.{reboot_promises_of, rebootable_facts}
use Rattle.act_network.specs.declared.step.ActStep.TheVariants as act
use Rattle.act_world.proofs.Wording.{as-word}
use Rattle.act_world.proofs.world.ActWorld.take_by_word.Goals as goal

pub returns-in-In : goal.returns-in-In
returns-in-In g c =
    let v = c.args.self.now in
    let h = reboot_promises_of (rebootable_facts g.H.Handlers g.H.Rebootable) v.handlers in
    as-word h g.D.SavesStates.disks g.D.LeavesByWord.by_word c.args.step (act.In c.in-In.n c.in-In.input) (act.In c.in-In.n c.in-In.input) c.in-In.is (λ w. refl) v c.take.new.self c.take.result c.take.ensures

pub returns-in-Deliver : goal.returns-in-Deliver
returns-in-Deliver g c =
    let v = c.args.self.now in
    let h = reboot_promises_of (rebootable_facts g.H.Handlers g.H.Rebootable) v.handlers in
    as-word h g.D.SavesStates.disks g.D.LeavesByWord.by_word c.args.step (act.Deliver c.in-Deliver.k) (act.Deliver c.in-Deliver.k) c.in-Deliver.is (λ w. refl) v c.take-in-Deliver.new.self c.take-in-Deliver.result c.take-in-Deliver.ensures

pub returns-in-Tick : goal.returns-in-Tick
returns-in-Tick g c =
    let v = c.args.self.now in
    let h = reboot_promises_of (rebootable_facts g.H.Handlers g.H.Rebootable) v.handlers in
    as-word h g.D.SavesStates.disks g.D.LeavesByWord.by_word c.args.step (act.Tick c.in-Tick.n) (act.Tick c.in-Tick.n) c.in-Tick.is (λ w. refl) v c.take-in-Tick.new.self c.take-in-Tick.result c.take-in-Tick.ensures

pub returns-in-Act : goal.returns-in-Act
returns-in-Act g c =
    let v = c.args.self.now in
    let h = reboot_promises_of (rebootable_facts g.H.Handlers g.H.Rebootable) v.handlers in
    as-word h g.D.SavesStates.disks g.D.LeavesByWord.by_word c.args.step (act.Act c.in-Act.n) (act.Act c.in-Act.n) c.in-Act.is (λ w. refl) v c.take-in-Act.new.self c.take-in-Act.result c.take-in-Act.ensures

pub returns-in-Dup : goal.returns-in-Dup
returns-in-Dup g c =
    let v = c.args.self.now in
    let h = reboot_promises_of (rebootable_facts g.H.Handlers g.H.Rebootable) v.handlers in
    as-word h g.D.SavesStates.disks g.D.LeavesByWord.by_word c.args.step (act.Dup c.in-Dup.k) (act.Dup c.in-Dup.k) c.in-Dup.is (λ w. refl) v c.take-in-Dup.new.self c.take-in-Dup.result c.take-in-Dup.ensures

pub returns-in-Lose : goal.returns-in-Lose
returns-in-Lose g c =
    let v = c.args.self.now in
    let h = reboot_promises_of (rebootable_facts g.H.Handlers g.H.Rebootable) v.handlers in
    as-word h g.D.SavesStates.disks g.D.LeavesByWord.by_word c.args.step (act.Lose c.in-Lose.k) (act.Lose c.in-Lose.k) c.in-Lose.is (λ w. refl) v c.take-in-Lose.new.self c.take-in-Lose.result c.take-in-Lose.ensures

pub returns-in-Reboot : goal.returns-in-Reboot
returns-in-Reboot g c =
    let v = c.args.self.now in
    let h = reboot_promises_of (rebootable_facts g.H.Handlers g.H.Rebootable) v.handlers in
    as-word h g.D.SavesStates.disks g.D.LeavesByWord.by_word c.args.step (act.Reboot c.in-Reboot.n) (act.Reboot c.in-Reboot.n) c.in-Reboot.is (λ w. refl) v c.take-in-Reboot.new.self c.take-in-Reboot.result c.take-in-Reboot.ensures
