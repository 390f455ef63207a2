use Rattle.std.proofs.Common.{subst, sym}
use Rattle.std.proofs.lemmas.Result.{on_ok_weaker}
use Rattle.handler_trait.specs.Facts.{rebootable_facts}
use Rattle.act_world.specs.ActViews.{IsSoundAct}
use Rattle.act_world.specs.FollowingLaws.{follows-word}
use Rattle.act_world.proofs.world.ActWorld.step_by_word.Goals as goal

pub returns-clause-refused : goal.returns-clause-refused
returns-clause-refused g c = c.take_by_word.ensures.refused

pub returns-clause-unchanged : goal.returns-clause-unchanged
returns-clause-unchanged g c = c.take_by_word.ensures.unchanged

pub returns-clause-next : goal.returns-clause-next
returns-clause-next g c = on_ok_weaker c.take_by_word.result (λ t. t.leads) c.take_by_word.ensures.taken

pub returns-clause-taken : goal.returns-clause-taken
returns-clause-taken g c = on_ok_weaker c.take_by_word.result (λ t. t.counts) c.take_by_word.ensures.taken

pub returns-clause-handlers : goal.returns-clause-handlers
returns-clause-handlers g c = c.take_by_word.ensures.same_handlers

pub returns-clause-sound : goal.returns-clause-sound
returns-clause-sound g c =
    let facts = rebootable_facts g.H.Handlers g.H.Rebootable in
    on_ok_weaker c.take_by_word.result (λ t. subst (λ x. IsSoundAct (record { meaning = facts.meaning x; sound = facts.sound x; spent = facts.spent x }) c.take_by_word.new.self) (sym c.take_by_word.ensures.same_handlers) t.keeps)
    c.take_by_word.ensures.taken

pub returns-clause-follows : goal.returns-clause-follows
returns-clause-follows g c =
    let facts = rebootable_facts g.H.Handlers g.H.Rebootable in
    on_ok_weaker c.take_by_word.result (λ t ss followed. follows-word facts g.D.SavesStates.disks g.D.LeavesByWord.by_word c.args.self.now c.take_by_word.new.self ss c.args.step c.take_by_word.ensures.same_handlers t.leads followed)
    c.take_by_word.ensures.taken
