-- Runs that the definitions are computed on, of three nodes where no other number is said.
use Rattle.std.specs.Prelude.{◌≡◌, ℕ, None, Some, false, true, List, [], ◌∷◌, ◌++◌, replicate, IsTrue}
use Rattle.vst_base.specs.declared.entry.Entry.{Entry}
use Rattle.vst_base.specs.declared.what.What.TheVariants.{Request}
use Rattle.raft_free.specs.Nodes.{Append, Appended, Candidate, Follower, FreeWorld, Leader, Message, RequestVote, Vote, first_node, first_world}
use Rattle.raft_free.specs.Events.{Accept, Allowed, Apply, Ask, Comes, Commit, Count, Crash, Event, Grant, IsRefusal, Lead, Learn, Match, Propose, Reboot, Refuse, Replicate, StepDown, Timeout, actor, effect}
use Rattle.raft_free.specs.Runs.{Run}

-- the world after these events
abbrev pub after_from : {C : Type 0} → FreeWorld C → List (Event C) → FreeWorld C
after_from w [] = w
after_from w (e ∷ es) = after_from (effect w e) es

abbrev pub after : {C : Type 0} → List (Event C) → FreeWorld C
after {C = C} events = after_from (first_world C) events

-- in a cluster of three these events may come in this order, from the first world on
abbrev pub Happens : (C : Type 0) → List (Event C) → Type 0
Happens C events = Run 3 (first_world C) events (after events)

-- the event is allowed in the world after these events
abbrev pub IsAllowedAfter : (C : Type 0) → List (Event C) → Event C → Type 0
IsAllowedAfter C events e = Allowed 3 (after events).sent ((after events).node (actor e)) e

-- the event is not allowed in the world after these events
abbrev pub IsRefusedAfter : (C : Type 0) → List (Event C) → Event C → Type 0
IsRefusedAfter C events e = Allowed 3 (after events).sent ((after events).node (actor e)) e → ⊥

abbrev pub entry : {C : Type 0} → ℕ → C → Entry C
entry term cmd = record { term = term; what = Request 7 1 0 cmd }

-- node 0 is elected in term 1 by the vote of node 1
abbrev pub elected : {C : Type 0} → List (Event C)
elected =
    Timeout 0 ∷ Ask 0 1 ∷ Learn 1 (record { source = 0; destination = 1; term = 1; message = RequestVote 0 0 }) ∷ Grant 1 0 0 0
    ∷ Count 0 1 ∷ Lead 0 ∷ []

-- then it takes a command, commits it with node 1, and both apply it
abbrev pub committed : {C : Type 0} → C → List (Event C)
committed c =
    elected
    ++ Propose 0 (entry 1 c) ∷ Replicate 0 1 0 1 0 ∷ Accept 1 0 0 0 (entry 1 c ∷ []) 0 ∷ Match 0 1 1 ∷ Commit 0 1 ∷ Apply 0 1
    ∷ Replicate 0 1 1 1 1 ∷ Accept 1 0 1 1 [] 1 ∷ Apply 1 1 ∷ []

-- two nodes elect, commit and apply without the third
abbrev pub TwoOfThreeCommit : Type 0 → Type 0
TwoOfThreeCommit C =
    (c : C) → Happens C (committed c)
    × (((after (committed c)).node 0).role ≡ Leader) × (((after (committed c)).node 1).role ≡ Follower)
    × (((after (committed c)).node 0).log ≡ entry 1 c ∷ []) × (((after (committed c)).node 0).applied ≡ 1)
    × (((after (committed c)).node 1).log ≡ entry 1 c ∷ []) × (((after (committed c)).node 1).applied ≡ 1)
    × (((after (committed c)).node 2).log ≡ [])

-- nodes 0 and 2 become candidates of term 1, and both ask node 1, which votes for node 0
abbrev pub two_candidates : {C : Type 0} → List (Event C)
two_candidates =
    Timeout 0 ∷ Timeout 2 ∷ Ask 0 1 ∷ Ask 2 1
    ∷ Learn 1 (record { source = 2; destination = 1; term = 1; message = RequestVote 0 0 }) ∷ Grant 1 0 0 0 ∷ []

abbrev pub then_it_reboots : {C : Type 0} → List (Event C)
then_it_reboots = two_candidates ++ Crash 1 ∷ Reboot 1 0 0 ∷ []

abbrev pub then_one_leads : {C : Type 0} → List (Event C)
then_one_leads = two_candidates ++ Count 0 1 ∷ Lead 0 ∷ []

-- the other candidate's request has come too, and gets no vote, also after a reboot; so it cannot lead
abbrev pub SecondCandidateFails : Type 0 → Type 0
SecondCandidateFails C =
    Happens C then_it_reboots × Happens C then_one_leads
    × Comes {C = C} (after two_candidates).sent ((after two_candidates).node 1) 2 1 (RequestVote 0 0)
    × IsRefusedAfter C two_candidates (Grant 1 2 0 0) × IsRefusedAfter C then_it_reboots (Grant 1 2 0 0)
    × (((after {C = C} then_one_leads).node 0).role ≡ Leader) × (((after {C = C} then_one_leads).node 2).role ≡ Candidate)
    × (((after {C = C} then_one_leads).node 0).term ≡ ((after {C = C} then_one_leads).node 2).term)
    × IsRefusedAfter C then_one_leads (Lead 2)

-- node 2, which has nothing of it, becomes a candidate of term 2 then, and asks node 1
abbrev pub behind : {C : Type 0} → C → List (Event C)
behind c =
    committed c
    ++ Timeout 2 ∷ Timeout 2 ∷ Ask 2 1 ∷ Learn 1 (record { source = 2; destination = 1; term = 2; message = RequestVote 0 0 }) ∷ []

-- it gets no vote, though node 1 is free to vote
abbrev pub BehindGetsNoVote : Type 0 → Type 0
BehindGetsNoVote C =
    (c : C) → Happens C (behind c) × (((after (behind c)).node 1).voted ≡ None)
    × Comes (after (behind c)).sent ((after (behind c)).node 1) 2 1 (RequestVote 0 0)
    × IsRefusedAfter C (behind c) (Grant 1 2 0 0)

-- node 0 leads in term 1, takes a command and crashes, leads again in term 2, and node 1 gets the entry of term 1
abbrev pub old_term : {C : Type 0} → C → List (Event C)
old_term c =
    elected
    ++ Propose 0 (entry 1 c) ∷ Crash 0 ∷ Reboot 0 0 0
    ∷ Timeout 0 ∷ Ask 0 1 ∷ Learn 1 (record { source = 0; destination = 1; term = 2; message = RequestVote 1 1 }) ∷ Grant 1 0 1 1
    ∷ Count 0 1 ∷ Lead 0 ∷ Replicate 0 1 0 1 0 ∷ Accept 1 0 0 0 (entry 1 c ∷ []) 0 ∷ Match 0 1 1 ∷ []

-- then it takes another command, which node 1 gets too
abbrev pub then_its_own : {C : Type 0} → C → C → List (Event C)
then_its_own c d =
    old_term c
    ++ Propose 0 (entry 2 d) ∷ Replicate 0 1 1 1 0 ∷ Accept 1 0 1 1 (entry 2 d ∷ []) 0 ∷ Match 0 1 2 ∷ Commit 0 2 ∷ []

-- an entry of an earlier term is on two of three nodes and is not committed, until one of the leader's term is
abbrev pub OldTermWaits : Type 0 → Type 0
OldTermWaits C =
    (c d : C) → Happens C (old_term c) × (((after (old_term c)).node 1).log ≡ entry 1 c ∷ [])
    × (((after (old_term c)).node 0).matched 1 ≡ 1) × IsRefusedAfter C (old_term c) (Commit 0 1)
    × Happens C (then_its_own c d) × (((after (then_its_own c d)).node 0).commit ≡ 2)

-- node 0 leads in term 1 and takes a command that reaches nobody, and crashes. Node 1 leads in term 2, by the vote of
-- node 2, and takes another command. Node 0 starts again and is sent that one
abbrev pub replaced : {C : Type 0} → C → C → List (Event C)
replaced c d =
    elected
    ++ Propose 0 (entry 1 c) ∷ Crash 0
    ∷ Timeout 1 ∷ Ask 1 2 ∷ Learn 2 (record { source = 1; destination = 2; term = 2; message = RequestVote 0 0 }) ∷ Grant 2 1 0 0
    ∷ Count 1 2 ∷ Lead 1 ∷ Propose 1 (entry 2 d) ∷ Reboot 0 0 0 ∷ Replicate 1 0 0 1 0
    ∷ Learn 0 (record { source = 1; destination = 0; term = 2; message = Append 0 0 (entry 2 d ∷ []) 0 })
    ∷ Accept 0 1 0 0 (entry 2 d ∷ []) 0 ∷ Match 1 0 1 ∷ Commit 1 1 ∷ []

-- a log that nobody else had is cut, and what replaces it is committed
abbrev pub UncommittedIsReplaced : Type 0 → Type 0
UncommittedIsReplaced C =
    (c d : C) → Happens C (replaced c d)
    × (((after (replaced c d)).node 0).log ≡ entry 2 d ∷ []) × (((after (replaced c d)).node 0).term ≡ 2)
    × (((after (replaced c d)).node 0).role ≡ Follower) × (((after (replaced c d)).node 1).role ≡ Leader)
    × (((after (replaced c d)).node 1).log ≡ entry 2 d ∷ []) × (((after (replaced c d)).node 1).commit ≡ 1)

-- the other candidate learns by an empty Append that another leads, and says no to whoever asks
abbrev pub steps_down : {C : Type 0} → List (Event C)
steps_down = then_one_leads ++ Replicate 0 2 0 0 0 ∷ StepDown 2 0 0 0 [] 0 ∷ Refuse 2 1 (Vote false) ∷ []

-- then it follows, and has still voted for itself
abbrev pub CandidateStepsDown : Type 0 → Type 0
CandidateStepsDown C =
    Happens C steps_down × (((after {C = C} steps_down).node 2).role ≡ Follower) × (((after {C = C} steps_down).node 2).voted ≡ Some 2)
    × IsRefusedAfter C then_one_leads (Refuse 2 1 (Vote true))

-- once a command is committed in term 1, node 1 leads in term 2 by the vote of node 2
abbrev pub later_leader : {C : Type 0} → C → List (Event C)
later_leader c =
    committed c
    ++ Timeout 1 ∷ Ask 1 2 ∷ Learn 2 (record { source = 1; destination = 2; term = 2; message = RequestVote 1 1 }) ∷ Grant 2 1 1 1
    ∷ Count 1 2 ∷ Lead 1 ∷ []

-- it has the entry that was committed
abbrev pub LaterLeaderHasIt : Type 0 → Type 0
LaterLeaderHasIt C =
    (c : C) → Happens C (later_leader c) × (((after (later_leader c)).node 0).commit ≡ 1)
    × (((after (later_leader c)).node 1).role ≡ Leader) × (((after (later_leader c)).node 1).term ≡ 2)
    × (((after (later_leader c)).node 1).log ≡ entry 1 c ∷ [])

-- what may not happen once a command is committed: the leader commits or applies more than it has, proposes an entry of
-- another term, or notes more than it has; and a node that is down starts again with a commit over what it was
abbrev pub OverreachIsRefused : Type 0 → Type 0
OverreachIsRefused C =
    (c : C) → IsRefusedAfter C (committed c) (Commit 0 2) × IsRefusedAfter C (committed c) (Apply 0 2)
    × IsRefusedAfter C (committed c) (Propose 0 (entry 2 c)) × IsRefusedAfter C (committed c) (Match 0 1 2)
    × IsRefusedAfter C (committed c ++ Crash 1 ∷ []) (Reboot 1 2 0) × IsRefusedAfter C (committed c ++ Crash 1 ∷ []) (Timeout 1)

-- the leader takes a command that nobody else has
abbrev pub proposed : {C : Type 0} → C → List (Event C)
proposed c = elected ++ Propose 0 (entry 1 c) ∷ []

-- it may not apply it, tell that it is committed, or start again with a commit over it, as it is not committed; nor
-- propose an entry of an earlier term
abbrev pub UncommittedIsNotApplied : Type 0 → Type 0
UncommittedIsNotApplied C =
    (c : C) → Happens C (proposed c) × IsRefusedAfter C (proposed c) (Apply 0 1) × IsRefusedAfter C (proposed c) (Replicate 0 1 0 1 1)
    × IsRefusedAfter C (proposed c ++ Crash 0 ∷ []) (Reboot 0 1 0) × IsRefusedAfter C (proposed c) (Propose 0 (entry 0 c))

-- when node 1 has both entries, the first comes again
abbrev pub late_append : {C : Type 0} → C → C → List (Event C)
late_append c d = then_its_own c d ++ Accept 1 0 0 0 (entry 1 c ∷ []) 0 ∷ []

-- it cuts nothing, and the node acknowledges what came and no more
abbrev pub LateAppendCutsNothing : Type 0 → Type 0
LateAppendCutsNothing C =
    (c d : C) → Happens C (late_append c d) × (((after (late_append c d)).node 1).log ≡ entry 1 c ∷ entry 2 d ∷ [])
    × ((after (late_append c d)).sent
    ≡ record { source = 1; destination = 0; term = 2; message = Appended true 1 } ∷ (after (then_its_own c d)).sent)

-- the leader has committed two entries with node 1, and sends node 2 the first of them
abbrev pub one_of_two : {C : Type 0} → C → C → List (Event C)
one_of_two c d =
    elected
    ++ Propose 0 (entry 1 c) ∷ Propose 0 (entry 1 d) ∷ Replicate 0 1 0 2 0 ∷ Accept 1 0 0 0 (entry 1 c ∷ entry 1 d ∷ []) 0
    ∷ Match 0 1 2 ∷ Commit 0 2 ∷ Replicate 0 2 0 1 2
    ∷ Learn 2 (record { source = 0; destination = 2; term = 1; message = Append 0 0 (entry 1 c ∷ []) 2 })
    ∷ Accept 2 0 0 0 (entry 1 c ∷ []) 2 ∷ []

-- which learns that this one is committed, and no more
abbrev pub CommitOfWhatCame : Type 0 → Type 0
CommitOfWhatCame C =
    (c d : C) → Happens C (one_of_two c d) × (((after (one_of_two c d)).node 0).commit ≡ 2)
    × (((after (one_of_two c d)).node 2).log ≡ entry 1 c ∷ []) × (((after (one_of_two c d)).node 2).commit ≡ 1)

-- node 0 leads in term 1 and takes two commands that reach nobody, and crashes. Node 1 leads in term 2 and commits another with
-- node 2. Node 0 starts again, and asks node 2 for its vote in term 3
abbrev pub longer : {C : Type 0} → C → C → List (Event C)
longer c d =
    elected
    ++ Propose 0 (entry 1 c) ∷ Propose 0 (entry 1 c) ∷ Crash 0
    ∷ Timeout 1 ∷ Ask 1 2 ∷ Learn 2 (record { source = 1; destination = 2; term = 2; message = RequestVote 0 0 }) ∷ Grant 2 1 0 0
    ∷ Count 1 2 ∷ Lead 1 ∷ Propose 1 (entry 2 d) ∷ Replicate 1 2 0 1 0 ∷ Accept 2 1 0 0 (entry 2 d ∷ []) 0 ∷ Match 1 2 1 ∷ Commit 1 1
    ∷ Reboot 0 0 0 ∷ Timeout 0 ∷ Timeout 0 ∷ Ask 0 2
    ∷ Learn 2 (record { source = 0; destination = 2; term = 3; message = RequestVote 2 1 }) ∷ []

-- it gets none, though its log is longer
abbrev pub LongerGetsNoVote : Type 0 → Type 0
LongerGetsNoVote C =
    (c d : C) → Happens C (longer c d) × (((after (longer c d)).node 2).voted ≡ None)
    × Comes (after (longer c d)).sent ((after (longer c d)).node 2) 0 2 (RequestVote 2 1)
    × IsRefusedAfter C (longer c d) (Grant 2 0 2 1)

-- node 0 becomes a candidate of term 1, and node 1 votes for it
abbrev pub voted_for : {C : Type 0} → List (Event C)
voted_for =
    Timeout 0 ∷ Ask 0 1 ∷ Learn 1 (record { source = 0; destination = 1; term = 1; message = RequestVote 0 0 }) ∷ Grant 1 0 0 0
    ∷ Count 0 1 ∷ []

-- of four nodes these two are half, and make no leader
abbrev pub HalfElectsNobody : Type 0 → Type 0
HalfElectsNobody C =
    Run 4 (first_world C) voted_for (after voted_for)
    × (Allowed {C = C} 4 (after voted_for).sent ((after voted_for).node 0) (Lead 0) → ⊥)

-- a node that has voted does not learn its own term again
abbrev pub NoTermIsLearnedTwice : Type 0 → Type 0
NoTermIsLearnedTwice C =
    IsRefusedAfter C two_candidates (Learn 1 (record { source = 2; destination = 1; term = 1; message = RequestVote 0 0 }))

-- once a command is committed in term 1, node 2 becomes a candidate of term 2 and asks node 0 for its vote
abbrev pub greater_term : {C : Type 0} → C → List (Event C)
greater_term c =
    committed c
    ++ Timeout 2 ∷ Timeout 2 ∷ Ask 2 0 ∷ Learn 0 (record { source = 2; destination = 0; term = 2; message = RequestVote 0 0 }) ∷ []

-- node 0 leads no longer; it leads again in term 3, by the vote of node 1
abbrev pub leads_again : {C : Type 0} → C → List (Event C)
leads_again c =
    greater_term c
    ++ Timeout 0 ∷ Ask 0 1 ∷ Learn 1 (record { source = 0; destination = 1; term = 3; message = RequestVote 1 1 }) ∷ Grant 1 0 1 1
    ∷ Count 0 1 ∷ Lead 0 ∷ []

-- it knows nothing of what the others have
abbrev pub LeadersBeginAnew : Type 0 → Type 0
LeadersBeginAnew C =
    (c : C) → Happens C (greater_term c) × (((after (greater_term c)).node 0).role ≡ Follower)
    × (((after (greater_term c)).node 0).matched 1 ≡ 1)
    × Happens C (leads_again c) × (((after (leads_again c)).node 0).role ≡ Leader) × (((after (leads_again c)).node 0).matched 1 ≡ 0)

-- as in `replaced`, but node 1 sends what stands after its entry
abbrev pub behind_another : {C : Type 0} → C → C → List (Event C)
behind_another c d =
    elected
    ++ Propose 0 (entry 1 c) ∷ Crash 0
    ∷ Timeout 1 ∷ Ask 1 2 ∷ Learn 2 (record { source = 1; destination = 2; term = 2; message = RequestVote 0 0 }) ∷ Grant 2 1 0 0
    ∷ Count 1 2 ∷ Lead 1 ∷ Propose 1 (entry 2 d) ∷ Reboot 0 0 0 ∷ Replicate 1 0 1 0 0
    ∷ Learn 0 (record { source = 1; destination = 0; term = 2; message = Append 1 2 [] 0 }) ∷ []

-- node 0 has an entry of another term there, and does not accept it
abbrev pub NothingBehindAnother : Type 0 → Type 0
NothingBehindAnother C =
    (c d : C) → Happens C (behind_another c d)
    × Comes (after (behind_another c d)).sent ((after (behind_another c d)).node 0) 1 0 (Append 1 2 [] 0)
    × IsRefusedAfter C (behind_another c d) (Accept 0 1 1 2 [] 0)

-- a node that is down does nothing but start again, also what it might do if it were up
abbrev pub DownDoesNothing : Type 0 → Type 0
DownDoesNothing C =
    (c : C) → IsRefusedAfter C (two_candidates ++ Crash 1 ∷ []) (Grant 1 0 0 0)
    × IsRefusedAfter C (committed c ++ Crash 1 ∷ []) (Accept 1 0 1 1 [] 1) × IsRefusedAfter C (committed c ++ Crash 1 ∷ []) (StepDown 1 0 1 1 [] 1)
    × IsRefusedAfter C (committed c ++ Crash 1 ∷ []) (Apply 1 1) × IsRefusedAfter C (committed c ++ Crash 1 ∷ []) (Refuse 1 0 (Vote false))
    × IsRefusedAfter C (committed c ++ Crash 1 ∷ []) (Crash 1)
    × IsRefusedAfter C (committed c ++ Timeout 2 ∷ Timeout 2 ∷ Ask 2 1 ∷ Crash 1 ∷ [])
    (Learn 1 (record { source = 2; destination = 1; term = 2; message = RequestVote 0 0 }))

-- nor is done what was done: a leader does not stand, an answer that has come raises nothing, what was applied stays so, and a node
-- that is up does not start
abbrev pub DoneIsNotDoneAgain : Type 0 → Type 0
DoneIsNotDoneAgain C =
    (c : C) → IsRefusedAfter C (committed c) (Timeout 0) × IsRefusedAfter C (committed c) (Match 0 1 1)
    × IsRefusedAfter C (committed c) (Apply 0 0) × IsRefusedAfter C (committed c) (Reboot 1 0 0)

-- node 1, which had committed and applied a command, starts again with this commit and so much applied
abbrev pub rebooted : {C : Type 0} → C → ℕ → ℕ → List (Event C)
rebooted c commit applied = committed c ++ Crash 1 ∷ Reboot 1 commit applied ∷ []

-- it keeps both, the commit alone, or neither; nor may it have applied more than it knows to be committed
abbrev pub RebootMayKeep : Type 0 → Type 0
RebootMayKeep C =
    (c : C) → Happens C (rebooted c 1 1) × Happens C (rebooted c 1 0) × Happens C (rebooted c 0 0)
    × (((after (rebooted c 1 1)).node 1).commit ≡ 1) × (((after (rebooted c 1 1)).node 1).applied ≡ 1)
    × (((after (rebooted c 1 0)).node 1).commit ≡ 1) × (((after (rebooted c 1 0)).node 1).applied ≡ 0)
    × (((after (rebooted c 0 0)).node 1).commit ≡ 0) × (((after (rebooted c 0 0)).node 1).log ≡ entry 1 c ∷ [])
    × IsRefusedAfter C (committed c ++ Crash 1 ∷ []) (Reboot 1 0 1)

-- the leader has two entries, and knows that node 1 has both
abbrev pub two_on_both : {C : Type 0} → C → C → List (Event C)
two_on_both c d =
    elected
    ++ Propose 0 (entry 1 c) ∷ Propose 0 (entry 1 d) ∷ Replicate 0 1 0 2 0 ∷ Accept 1 0 0 0 (entry 1 c ∷ entry 1 d ∷ []) 0
    ∷ Match 0 1 2 ∷ []

-- it commits the first alone
abbrev pub one_committed : {C : Type 0} → C → C → List (Event C)
one_committed c d = two_on_both c d ++ Commit 0 1 ∷ []

-- which it may, and both at once too
abbrev pub LessMayBeCommitted : Type 0 → Type 0
LessMayBeCommitted C =
    (c d : C) → IsAllowedAfter C (two_on_both c d) (Commit 0 2)
    × Happens C (one_committed c d) × (((after (one_committed c d)).node 0).commit ≡ 1)

-- then it commits the second too, and applies the first alone
abbrev pub one_applied : {C : Type 0} → C → C → List (Event C)
one_applied c d = one_committed c d ++ Commit 0 2 ∷ Apply 0 1 ∷ []

-- which it may, and both at once too
abbrev pub LessMayBeApplied : Type 0 → Type 0
LessMayBeApplied C =
    (c d : C) → IsAllowedAfter C (one_committed c d ++ Commit 0 2 ∷ []) (Apply 0 2)
    × Happens C (one_applied c d) × (((after (one_applied c d)).node 0).commit ≡ 2) × (((after (one_applied c d)).node 0).applied ≡ 1)

-- it sends node 1 both again, none after the first, and none after the last, each time with a commit below its own
abbrev pub resent : {C : Type 0} → C → C → List (Event C)
resent c d = one_applied c d ++ Replicate 0 1 0 2 0 ∷ Replicate 0 1 1 0 1 ∷ Replicate 0 1 2 0 1 ∷ Accept 1 0 2 1 [] 1 ∷ []

-- node 1, which took the last of these, knows that one is committed, though two are
abbrev pub AnyEntriesMayBeSent : Type 0 → Type 0
AnyEntriesMayBeSent C =
    (c d : C) → Happens C (resent c d) × (((after (resent c d)).node 0).matched 1 ≡ 2)
    × (((after (resent c d)).node 0).commit ≡ 2) × (((after (resent c d)).node 1).commit ≡ 1)
    × ((after (resent c d)).sent
    ≡ record { source = 1; destination = 0; term = 1; message = Appended true 2 }
    ∷ record { source = 0; destination = 1; term = 1; message = Append 2 1 [] 1 }
    ∷ record { source = 0; destination = 1; term = 1; message = Append 1 1 [] 1 }
    ∷ record { source = 0; destination = 1; term = 1; message = Append 0 0 (entry 1 c ∷ entry 1 d ∷ []) 0 }
    ∷ (after (one_applied c d)).sent)

-- the leader sends nine entries at once
abbrev pub nine_at_once : {C : Type 0} → C → List (Event C)
nine_at_once c =
    elected
    ++ replicate 9 (Propose 0 (entry 1 c))
    ++ Replicate 0 1 0 9 0 ∷ Accept 1 0 0 0 (replicate 9 (entry 1 c)) 0 ∷ Match 0 1 9 ∷ Commit 0 9 ∷ []

-- node 1 takes all nine, and they are committed
abbrev pub ManyAtOnce : Type 0 → Type 0
ManyAtOnce C =
    (c : C) → Happens C (nine_at_once c) × (((after (nine_at_once c)).node 1).log ≡ replicate 9 (entry 1 c))
    × (((after (nine_at_once c)).node 0).commit ≡ 9)

-- node 3, past the last of three, votes for node 0
abbrev pub outside_vote : {C : Type 0} → List (Event C)
outside_vote =
    Timeout 0 ∷ Ask 0 3 ∷ Learn 3 (record { source = 0; destination = 3; term = 1; message = RequestVote 0 0 }) ∷ Grant 3 0 0 0
    ∷ Count 0 3 ∷ []

-- node 0 leads by the vote of node 1, and node 3 takes its entry
abbrev pub outside_holder : {C : Type 0} → C → List (Event C)
outside_holder c =
    outside_vote
    ++ Ask 0 1 ∷ Learn 1 (record { source = 0; destination = 1; term = 1; message = RequestVote 0 0 }) ∷ Grant 1 0 0 0 ∷ Count 0 1
    ∷ Lead 0 ∷ Propose 0 (entry 1 c) ∷ Replicate 0 3 0 1 0 ∷ Accept 3 0 0 0 (entry 1 c ∷ []) 0 ∷ Match 0 3 1 ∷ []

-- it acts as the others do, but its vote elects nobody, and its log commits nothing
abbrev pub OutsidersCountForNothing : Type 0 → Type 0
OutsidersCountForNothing C =
    (c : C) → Happens C (outside_holder c)
    × (((after {C = C} outside_vote).node 0).votes 3 ≡ true) × IsRefusedAfter C outside_vote (Lead 0)
    × (((after (outside_holder c)).node 3).log ≡ entry 1 c ∷ []) × (((after (outside_holder c)).node 0).matched 3 ≡ 1)
    × IsRefusedAfter C (outside_holder c) (Commit 0 1)

-- node 3 stands itself, and has the vote of node 0; then that of node 1 too
abbrev pub outside_candidate : {C : Type 0} → List (Event C)
outside_candidate =
    Timeout 3 ∷ Ask 3 0 ∷ Learn 0 (record { source = 3; destination = 0; term = 1; message = RequestVote 0 0 }) ∷ Grant 0 3 0 0
    ∷ Count 3 0 ∷ []

abbrev pub outside_leader : {C : Type 0} → List (Event C)
outside_leader =
    outside_candidate
    ++ Ask 3 1 ∷ Learn 1 (record { source = 3; destination = 1; term = 1; message = RequestVote 0 0 }) ∷ Grant 1 3 0 0 ∷ Count 3 1
    ∷ Lead 3 ∷ []

-- it may lead, by the votes of two of three: its own does not count
abbrev pub OutsiderMayLead : Type 0 → Type 0
OutsiderMayLead C =
    Happens C outside_leader × (((after {C = C} outside_leader).node 3).role ≡ Leader) × IsRefusedAfter C outside_candidate (Lead 3)

-- a follower that was asked nothing says no, in both ways
abbrev pub unasked : {C : Type 0} → List (Event C)
unasked = Refuse 2 0 (Vote false) ∷ Refuse 2 1 (Appended false 5) ∷ []

-- each node that is up may say no, at any time and whatever it knows, and changes nothing else
abbrev pub AnyoneMayRefuse : Type 0 → Type 0
AnyoneMayRefuse C =
    ((nodes : ℕ) (w : FreeWorld C) (i j : ℕ) (m : Message C) → IsTrue (w.node i).is_up → IsRefusal m →
    Allowed nodes w.sent (w.node i) (Refuse i j m))
    × Happens C unasked × ((after {C = C} unasked).node 2 ≡ first_node C)
    × ((after {C = C} unasked).sent
    ≡ record { source = 2; destination = 1; term = 0; message = Appended false 5 }
    ∷ record { source = 2; destination = 0; term = 0; message = Vote false } ∷ [])
