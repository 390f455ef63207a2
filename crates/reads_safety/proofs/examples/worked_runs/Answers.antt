-- By what a map has at a number after a change: what clients see, as a function of what nodes answer by their sessions.
use Rattle.std.proofs.Common.{◌≡◌, ℕ, List, [], ◌∷◌, ◌++◌, map, ap, refl, ◌∙◌}
use Rattle.std.specs.FinMap.{empty}
use Rattle.vst_base.specs.Examples.{counter}
use Rattle.vst_base.specs.declared.entry.Entry.{Entry}
use Rattle.vst_base.specs.declared.step.Item.TheVariants as item
use Rattle.vst_base.specs.declared.what.What.TheVariants.{Request}
use Rattle.raft_clients.proofs.Lookups.{lookups}
use Rattle.raft_clients.specs.Sessions.{AppliedAll, applied_all}
use Rattle.raft_xform.specs.Applying.{replies}
use Rattle.linearizability.specs.Examples.{put_at, tell_at}
use Rattle.linearizability.specs.Linearizable.{Seen}
use Rattle.raft_safety.specs.Examples as entries
use Rattle.raft_reads.specs.Clusters.{seen}
use Rattle.reads_safety.specs.Examples.{acknowledged, answered_late, counters, deposed, eight_reads, five, new_leader, nine_reads, old_acknowledgement, old_round, six}
use Rattle.reads_safety.proofs.examples.worked_runs.Goals as goal

pub returns-clause-alone_seen : goal.returns-clause-alone_seen
returns-clause-alone_seen c = simp lookups

-- what a node makes of the first request, and of the second behind it
abbrev made : ℕ → ℕ → AppliedAll ℕ ℕ ℕ
made term origin = applied_all counter 0 empty (entries.five term origin ∷ [])

abbrev six_entry : Entry ℕ
six_entry = record { term = 2; what = Request 7 2 1 6 }

abbrev next_made : AppliedAll ℕ ℕ ℕ
next_made = applied_all counter (made 1 0).state (made 1 0).sessions (six_entry ∷ [])

abbrev told_at : ℕ → List (Entry ℕ × ℕ) → Seen ℕ ℕ
told_at node xs = map (λ o. item.Output node o) (replies node xs ++ [])

answers_are : (term origin : ℕ) → (made term origin).answers ≡ (entries.five term origin, 0) ∷ []
answers_are term origin = simp lookups

state_is : (made 1 0).state ≡ 5
state_is = simp lookups

next_is : next_made.answers ≡ (six_entry, 5) ∷ []
next_is = simp lookups

abbrev deposed_shape : List (Entry ℕ × ℕ) → Seen ℕ ℕ
deposed_shape xs = put_at 1 five ∷ (told_at 1 xs ++ put_at 0 eight_reads ∷ [])

deposed_is : seen (counters 3) deposed ≡ deposed_shape (made 2 1).answers
deposed_is = refl

pub returns-clause-deposed_seen : goal.returns-clause-deposed_seen
returns-clause-deposed_seen c = deposed_is ∙ ap deposed_shape (answers_are 2 1)

abbrev acknowledged_shape : ℕ → List (Entry ℕ × ℕ) → Seen ℕ ℕ
acknowledged_shape sum xs = put_at 0 five ∷ (told_at 0 xs ++ put_at 0 eight_reads ∷ (told_at 1 xs ++ tell_at 0 8 1 sum ∷ []))

acknowledged_is : seen (counters 3) acknowledged ≡ acknowledged_shape (made 1 0).state (made 1 0).answers
acknowledged_is = refl

pub returns-clause-acknowledged_seen : goal.returns-clause-acknowledged_seen
returns-clause-acknowledged_seen c = acknowledged_is ∙ (λ i. acknowledged_shape (state_is i) (answers_are 1 0 i))

abbrev late_shape : ℕ → List (Entry ℕ × ℕ) → List (Entry ℕ × ℕ) → Seen ℕ ℕ
late_shape sum xs ys =
    put_at 0 five ∷ (told_at 0 xs ++ put_at 0 eight_reads ∷ (told_at 1 xs ++ put_at 1 six ∷ (told_at 2 xs ++ (told_at 1 ys ++ tell_at 0 8 1 sum ∷ []))))

late_is : seen (counters 3) answered_late ≡ late_shape (made 1 0).state (made 1 0).answers next_made.answers
late_is = refl

pub returns-clause-late_seen : goal.returns-clause-late_seen
returns-clause-late_seen c = late_is ∙ (λ i. late_shape (state_is i) (answers_are 1 0 i) (next_is i))

abbrev round_shape : List (Entry ℕ × ℕ) → Seen ℕ ℕ
round_shape xs = put_at 0 nine_reads ∷ put_at 2 five ∷ (told_at 2 xs ++ put_at 0 eight_reads ∷ [])

round_is : seen (counters 3) old_round ≡ round_shape (made 4 2).answers
round_is = refl

pub returns-clause-old_round_seen : goal.returns-clause-old_round_seen
returns-clause-old_round_seen c = round_is ∙ ap round_shape (answers_are 4 2)

abbrev acknowledgement_shape : List (Entry ℕ × ℕ) → Seen ℕ ℕ
acknowledgement_shape xs = put_at 0 nine_reads ∷ tell_at 0 9 1 0 ∷ put_at 2 five ∷ (told_at 2 xs ++ put_at 0 eight_reads ∷ [])

acknowledgement_is : seen (counters 3) old_acknowledgement ≡ acknowledgement_shape (made 4 2).answers
acknowledgement_is = refl

pub returns-clause-old_acknowledgement_seen : goal.returns-clause-old_acknowledgement_seen
returns-clause-old_acknowledgement_seen c = acknowledgement_is ∙ ap acknowledgement_shape (answers_are 4 2)

-- what a node makes of the first request and a read as entries
abbrev read_entry : Entry ℕ
read_entry = record { term = 2; what = Request 8 1 1 0 }

abbrev both_made : AppliedAll ℕ ℕ ℕ
both_made = applied_all counter 0 empty (entries.five 1 0 ∷ read_entry ∷ [])

both_are : both_made.answers ≡ (entries.five 1 0, 0) ∷ (read_entry, 5) ∷ []
both_are = simp lookups

abbrev leader_shape : List (Entry ℕ × ℕ) → List (Entry ℕ × ℕ) → Seen ℕ ℕ
leader_shape xs ys = put_at 0 five ∷ (told_at 0 xs ++ put_at 1 eight_reads ∷ (told_at 1 ys ++ []))

leader_is : seen (counters 3) new_leader ≡ leader_shape (made 1 0).answers both_made.answers
leader_is = refl

pub returns-clause-new_leader_seen : goal.returns-clause-new_leader_seen
returns-clause-new_leader_seen c = leader_is ∙ (λ i. leader_shape (answers_are 1 0 i) (both_are i))
