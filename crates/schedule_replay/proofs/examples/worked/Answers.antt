-- These print numbers, whose digits have to be computed.
use Rattle.std.proofs.Common.{◌≡◌, ◌∷◌, [], List, Option, None, Some, ℕ, codes, refl}
use Rattle.std.specs.Cmp.Lexicographic.{nat_list_cmp_total}
use Rattle.std.specs.Cmp.{nat_cmp_total}
use Rattle.std.specs.FinMap.{get-empty, get-insert, get-remove}
use Rattle.std.specs.Fmt.{digits}
use Rattle.kv_machine.specs.declared.cmd.KvCmd.{KvCmd}
use Rattle.kv_machine.specs.declared.cmd.KvCmd.TheVariants as cmd
use Rattle.kv_machine.specs.declared.out.KvOut.{KvOut}
use Rattle.vst_base.specs.declared.mirror.MirrorInput.{MirrorInput}
use Rattle.vst_base.specs.declared.mirror.MirrorInput.TheVariants as mirrored
use Rattle.vst_base.specs.declared.mirror.MirrorOutput.{MirrorOutput}
use Rattle.vst_base.specs.declared.mirror.MirrorOutput.TheVariants as from
use Rattle.net_semantics.specs.BelowPb.{below_pb}
use Rattle.trace_maps.specs.SingleNode.{alone}
use Rattle.vst_base.specs.declared.pb_out.PbOut.{PbOut}
use Rattle.vst_base.specs.declared.pb_out.PbOut.TheVariants as pb
use Rattle.vst_base.specs.declared.step.Item.{Item}
use Rattle.vst_base.specs.declared.lock.LockInput.{LockInput}
use Rattle.vst_base.specs.declared.lock.LockInput.TheVariants as ask
use Rattle.vst_base.specs.declared.lock.LockOutput.{LockOutput}
use Rattle.vst_base.specs.declared.lock.LockOutput.TheVariants as told
use Rattle.vst_base.specs.declared.stack.StackId.TheVariants as stack
use Rattle.vst_base.specs.declared.step.Item.TheVariants as item
use Rattle.vst_base.specs.declared.step.Step.TheVariants as step
use Rattle.schedule_text.specs.Headers.{header_of}
use Rattle.schedule_text.specs.Schedules.{Script}
use Rattle.schedule_replay.specs.Explained.{steps_of}
use Rattle.transformers.specs.Numbering.{numbering}
use Rattle.transformers.specs.Ordering.{ordering}
use Rattle.transformers.specs.Retransmission.{retransmission}
use Rattle.stacks.specs.Kinds.{Alone, Backed, Itself, Own, Through, service, service_play}
use Rattle.stacks.specs.Plays.{Play}
use Rattle.stacks.specs.Table.{locks, mirrors, store}
use Rattle.vst_base.specs.declared.step.Step.{Step}
use Rattle.schedule_replay.proofs.Wholly.{whole-out, whole-out-by}
use Rattle.number_set.specs.NumberSetLaws.{set_tests}
use Rattle.schedule_replay.proofs.examples.worked.Goals as goal

pub returns-clause-handed_over : goal.returns-clause-handed_over
unfolding digits header_of
returns-clause-handed_over c = refl

pub returns-clause-nothing_happens : goal.returns-clause-nothing_happens
unfolding digits header_of
returns-clause-nothing_happens c = refl

pub returns-clause-trace_before_it : goal.returns-clause-trace_before_it
unfolding digits header_of
returns-clause-trace_before_it c = refl

pub returns-clause-waits : goal.returns-clause-waits
unfolding digits header_of
returns-clause-waits c = refl

pub returns-clause-overtakes : goal.returns-clause-overtakes
unfolding digits header_of
returns-clause-overtakes c = refl

-- what a store has at a key
ruleset lookups = (get-empty, get-insert, get-remove, nat_list_cmp_total)

ruleset lookups_and_sets = (get-empty, get-insert, get-remove, nat_list_cmp_total, set_tests)

pub returns-clause-acknowledged : goal.returns-clause-acknowledged
unfolding digits header_of
returns-clause-acknowledged c = simp lookups

pub returns-clause-a_table_at_once : goal.returns-clause-a_table_at_once
unfolding digits header_of
returns-clause-a_table_at_once c = simp lookups

pub returns-clause-a_table_acknowledged : goal.returns-clause-a_table_acknowledged
unfolding digits header_of
returns-clause-a_table_acknowledged c = simp lookups_and_sets

pub returns-clause-broken_off : goal.returns-clause-broken_off
unfolding digits header_of
returns-clause-broken_off c = refl

-- a packet that is copied, and the second copy delivered last
abbrev copied_script : Script LockInput
copied_script = record {
  steps = (2, step.In 1 ask.Lock) ∷ (3, step.Dup 0) ∷ (4, step.Deliver 0) ∷ (5, step.Deliver 1) ∷ (6, step.Deliver 0) ∷ [];
  fault = None;
}

abbrev copied_stack : Play LockInput LockOutput (Step LockInput)
copied_stack = service_play (service (Through numbering (Own locks))) 2

copied-allowed : copied_stack.refused (steps_of copied_script) ≡ None
copied-allowed = refl

copied-trace : copied_stack.trace (steps_of copied_script) ≡ item.Input 1 ask.Lock ∷ item.Output 1 told.Locked ∷ []
copied-trace = simp set_tests

pub returns-clause-copied : goal.returns-clause-copied
unfolding digits header_of
returns-clause-copied c = whole-out copied_stack copied_script refl copied-allowed (item.Input 1 ask.Lock ∷ item.Output 1 told.Locked ∷ []) copied-trace

-- a packet that was sent later is delivered first
abbrev late_script : Script LockInput
late_script = record {
  steps =
      (2, step.In 1 ask.Lock) ∷ (3, step.In 1 ask.Lock) ∷ (4, step.Deliver 1) ∷ (5, step.Deliver 0) ∷ (6, step.Deliver 2) ∷ (7, step.In 1 ask.Unlock)
      ∷ (8, step.Deliver 3) ∷ (9, step.Deliver 4) ∷ [];
  fault = None;
}

late-allowed : copied_stack.refused (steps_of late_script) ≡ None
late-allowed = simp set_tests

abbrev late_items : List (Item LockInput LockOutput)
late_items =
    item.Input 1 ask.Lock ∷ item.Input 1 ask.Lock ∷ item.Output 1 told.Locked ∷ item.Input 1 ask.Unlock ∷ item.Output 1 told.Locked ∷ []

late-trace : copied_stack.trace (steps_of late_script) ≡ late_items
late-trace = simp set_tests

pub returns-clause-late_first_delivery : goal.returns-clause-late_first_delivery
unfolding digits header_of
returns-clause-late_first_delivery c = whole-out copied_stack late_script refl late-allowed late_items late-trace

pub returns-clause-equal_numbers : goal.returns-clause-equal_numbers
unfolding digits header_of
returns-clause-equal_numbers c = simp set_tests

-- an acknowledgement that is copied, and both copies delivered
abbrev acked_script : Script KvCmd
acked_script = record {
  steps =
      (2, step.In 0 (cmd.Put (codes "a") (codes "x"))) ∷ (3, step.In 0 (cmd.Get (codes "a"))) ∷ (4, step.Deliver 0) ∷ (5, step.Dup 1) ∷ (6, step.Deliver 1)
      ∷ (7, step.Deliver 1) ∷ (8, step.In 1 (cmd.Get (codes "a"))) ∷ [];
  fault = None;
}

abbrev acked_stack : Play KvCmd (PbOut KvOut) (Step KvCmd)
acked_stack = service_play (service (Through numbering (Backed store))) 2

acked-allowed : acked_stack.refused (steps_of acked_script) ≡ None
acked-allowed = refl

abbrev acked_items : List (Item KvCmd (PbOut KvOut))
acked_items =
    item.Input 0 (cmd.Put (codes "a") (codes "x")) ∷ item.Input 0 (cmd.Get (codes "a"))
    ∷ item.Output 0 (pb.Reply (record { key = codes "a"; after = Some (codes "x"); before = None }))
    ∷ item.Input 1 (cmd.Get (codes "a")) ∷ item.Output 1 pb.Redirect ∷ []

acked-trace : acked_stack.trace (steps_of acked_script) ≡ acked_items
acked-trace = simp lookups_and_sets

pub returns-clause-acknowledged_twice : goal.returns-clause-acknowledged_twice
unfolding digits header_of
returns-clause-acknowledged_twice c = whole-out-by acked_stack acked_script refl acked-allowed (λ items. alone (below_pb items)) refl acked_items acked-trace

-- a packet that is lost and sent again, an answer, and an acknowledgement
abbrev resent_script : Script LockInput
resent_script = record {
  steps =
      (2, step.In 1 ask.Lock) ∷ (3, step.Lose 0) ∷ (4, step.Tick 1) ∷ (5, step.Deliver 1) ∷ (6, step.Deliver 2) ∷ (7, step.Deliver 3) ∷ [];
  fault = None;
}

abbrev resent_stack : Play LockInput LockOutput (Step LockInput)
resent_stack = service_play (service (Through retransmission (Itself stack.LockSeq (Through numbering (Own locks))))) 2

resent-allowed : resent_stack.refused (steps_of resent_script) ≡ None
resent-allowed = refl

abbrev resent_items : List (Item LockInput LockOutput)
resent_items = item.Input 1 ask.Lock ∷ item.Output 1 told.Locked ∷ []

resent-trace : resent_stack.trace (steps_of resent_script) ≡ resent_items
resent-trace = refl

abbrev resent_image : List (Step LockInput)
resent_image = step.In 1 ask.Lock ∷ step.Tick 1 ∷ step.Dup 0 ∷ step.Deliver 0 ∷ step.Dup 1 ∷ step.Deliver 1 ∷ []

resent-image : resent_stack.image (steps_of resent_script) ≡ resent_image
resent-image = refl

pub returns-clause-sent_again : goal.returns-clause-sent_again
unfolding digits header_of
returns-clause-sent_again c = whole-out-by resent_stack resent_script refl resent-allowed (λ _. resent_image) resent-image resent_items resent-trace

-- a command that comes twice, and an answer that is lost and sent again
abbrev reapplied_script : Script KvCmd
reapplied_script = record {
  steps =
      (2, step.In 0 (cmd.Put (codes "a") (codes "x"))) ∷ (3, step.Tick 0) ∷ (4, step.Deliver 0) ∷ (5, step.Deliver 1) ∷ (6, step.Lose 2)
      ∷ (7, step.Tick 1) ∷ (8, step.Deliver 5) ∷ [];
  fault = None;
}

abbrev reapplied_stack : Play KvCmd (PbOut KvOut) (Step KvCmd)
reapplied_stack = service_play (service (Through retransmission (Itself stack.KvPbSeq (Through numbering (Backed store))))) 2

reapplied-allowed : reapplied_stack.refused (steps_of reapplied_script) ≡ None
reapplied-allowed = simp lookups_and_sets

abbrev reapplied_items : List (Item KvCmd (PbOut KvOut))
reapplied_items =
    item.Input 0 (cmd.Put (codes "a") (codes "x")) ∷ item.Output 0 (pb.Reply (record { key = codes "a"; after = Some (codes "x"); before = None })) ∷ []

reapplied-trace : reapplied_stack.trace (steps_of reapplied_script) ≡ reapplied_items
reapplied-trace = simp lookups_and_sets

abbrev reapplied_image : List (Step KvCmd)
reapplied_image =
    step.In 0 (cmd.Put (codes "a") (codes "x")) ∷ step.Tick 0 ∷ step.Dup 0 ∷ step.Deliver 0 ∷ step.Dup 0 ∷ step.Deliver 0 ∷ step.Tick 1 ∷ step.Dup 1
    ∷ step.Deliver 1 ∷ []

reapplied-image : reapplied_stack.image (steps_of reapplied_script) ≡ reapplied_image
reapplied-image = simp lookups_and_sets

pub returns-clause-applied_again : goal.returns-clause-applied_again
unfolding digits header_of
returns-clause-applied_again c =
    whole-out-by reapplied_stack reapplied_script refl reapplied-allowed (λ _. reapplied_image) reapplied-image reapplied_items reapplied-trace

-- each command of a machine alone is answered at once
abbrev alone_script : Script KvCmd
alone_script = record {
  steps =
      (2, step.In 0 (cmd.Cas (codes "a") None (codes "x"))) ∷ (3, step.In 0 (cmd.Cas (codes "a") (Some (codes "y")) (codes "z")))
      ∷ (4, step.In 0 (cmd.Cad (codes "a") (codes "x"))) ∷ (5, step.In 0 (cmd.Del (codes "a"))) ∷ [];
  fault = None;
}

abbrev alone_stack : Play KvCmd KvOut (Step KvCmd)
alone_stack = service_play (service (Alone store)) 1

alone-allowed : alone_stack.refused (steps_of alone_script) ≡ None
alone-allowed = refl

abbrev said : Option (List ℕ) → Option (List ℕ) → Item KvCmd KvOut
said after before = item.Output 0 (record { key = codes "a"; after = after; before = before })

abbrev alone_items : List (Item KvCmd KvOut)
alone_items =
    item.Input 0 (cmd.Cas (codes "a") None (codes "x")) ∷ said (Some (codes "x")) None
    ∷ item.Input 0 (cmd.Cas (codes "a") (Some (codes "y")) (codes "z")) ∷ said (Some (codes "x")) (Some (codes "x"))
    ∷ item.Input 0 (cmd.Cad (codes "a") (codes "x")) ∷ said None (Some (codes "x")) ∷ item.Input 0 (cmd.Del (codes "a")) ∷ said None None ∷ []

alone-trace : alone_stack.trace (steps_of alone_script) ≡ alone_items
alone-trace = simp lookups

pub returns-clause-at_once : goal.returns-clause-at_once
unfolding digits header_of
returns-clause-at_once c = whole-out alone_stack alone_script refl alone-allowed alone_items alone-trace

-- and of sessions, by the numbers of clients
ruleset lookups_and_sessions = (get-empty, get-insert, get-remove, nat_list_cmp_total, nat_cmp_total)

-- of two values the second comes first, and is held until a tick: what is held of a sender is by number too
abbrev held_script : Script MirrorInput
held_script = record {
  steps =
      (2, step.In 1 (mirrored.Put (codes "a"))) ∷ (3, step.In 1 (mirrored.Put (codes "b"))) ∷ (4, step.Deliver 1) ∷ (5, step.Deliver 0)
      ∷ (6, step.Tick 0) ∷ [];
  fault = None;
}

abbrev held_stack : Play MirrorInput MirrorOutput (Step MirrorInput)
held_stack = service_play (service (Through ordering (Own mirrors))) 2

held-allowed : held_stack.refused (steps_of held_script) ≡ None
held-allowed = refl

abbrev held_items : List (Item MirrorInput MirrorOutput)
held_items =
    item.Input 1 (mirrored.Put (codes "a")) ∷ item.Input 1 (mirrored.Put (codes "b")) ∷ item.Output 0 (from.From 1 (codes "a"))
    ∷ item.Output 0 (from.From 1 (codes "b")) ∷ []

held-trace : held_stack.trace (steps_of held_script) ≡ held_items
held-trace = simp lookups_and_sessions

abbrev held_image : List (Step MirrorInput)
held_image =
    step.In 1 (mirrored.Put (codes "a")) ∷ step.In 1 (mirrored.Put (codes "b")) ∷ step.Deliver 0 ∷ step.Deliver 1 ∷ []

held-image : held_stack.image (steps_of held_script) ≡ held_image
held-image = simp lookups_and_sessions

pub returns-clause-held_until_a_tick : goal.returns-clause-held_until_a_tick
unfolding digits header_of
returns-clause-held_until_a_tick c = whole-out-by held_stack held_script refl held-allowed (λ _. held_image) held-image held_items held-trace

pub returns-clause-one_node_cluster : goal.returns-clause-one_node_cluster
unfolding digits header_of
returns-clause-one_node_cluster c = simp lookups_and_sessions

pub returns-clause-a_table_on_a_cluster : goal.returns-clause-a_table_on_a_cluster
unfolding digits header_of
returns-clause-a_table_on_a_cluster c = simp lookups_and_sessions

pub returns-clause-asked_again : goal.returns-clause-asked_again
unfolding digits header_of
returns-clause-asked_again c = simp lookups_and_sessions

pub returns-clause-a_vote_outlives_a_reboot : goal.returns-clause-a_vote_outlives_a_reboot
unfolding digits header_of
returns-clause-a_vote_outlives_a_reboot c = refl

pub returns-clause-one_node_cluster_counted : goal.returns-clause-one_node_cluster_counted
unfolding header_of
returns-clause-one_node_cluster_counted c = simp lookups_and_sessions

pub returns-clause-the_trace_before_that_line : goal.returns-clause-the_trace_before_that_line
unfolding digits header_of
returns-clause-the_trace_before_that_line c = refl
