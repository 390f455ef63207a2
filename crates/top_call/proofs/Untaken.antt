-- A run answers by what its words ask for, and so does one at which memory was wanted before that was known.
use Rattle.std.specs.Prelude.{◌≡◌, ℕ, List, Option, Some, None}
use Rattle.std.proofs.Common.{ap, inl, inr, subst, sym}
use Rattle.command_line.specs.AskedNodes.{NodeWordsView}
use Rattle.command_line.specs.CommandSet.{asked_of}
use Rattle.command_line.specs.declared.asked.Asked.{Asked}
use Rattle.command_line.specs.declared.asked.Asked.TheVariants.{Node, Texts}
use Rattle.commands.proofs.NodeAnswering.{node_answers}
use Rattle.commands.proofs.NodeEnding.{wanted_first}
use Rattle.commands.specs.NodeOutcomes.{AnswersNode}
use Rattle.commands.specs.NodeSeen.{NodeRun}
use Rattle.commands.specs.Seen.{KeepsCounts, Run, SourceSeen}
use Rattle.commands.proofs.Answering.{wanted_memory, words_unread}
use Rattle.commands.proofs.Complained.{none-hidden, unread-kept, unwritten}
use Rattle.commands.specs.Complaints.{Told}
use Rattle.commands.specs.declared.complaint.Complaint.TheVariants as complaint
use Rattle.top_call.specs.Outcomes.{Answers, AnswersAsked}

pub answers_as : (words : List (List ℕ)) (asked : Option Asked) (r : NodeRun) (result : ℕ) → asked_of words ≡ asked → AnswersAsked asked words r result
    → Answers words r result
answers_as words asked r result is answers = record { asked = subst (λ o. AnswersAsked o words r result) (sym is) answers }

-- what was not read did not fail
unfailed : (r : Run) → r.after.input ≡ r.before.input → r.after.input.faults ≡ r.before.input.faults
unfailed r unread = ap (λ (s : SourceSeen). s.faults) unread

unread_node : (w : NodeWordsView) (r : NodeRun) (result : ℕ) → Told complaint.Memory r.streams.before.err r.streams.after.err result → r.after ≡ r.before
    → r.streams.after.input.faults ≡ r.streams.before.input.faults → r.streams.after.out ≡ r.streams.before.out → KeepsCounts r.streams → AnswersNode w r result
unread_node w r result (inl said) left quiet same counts = node_answers w r result (wanted_first w r result left quiet same said counts)
unread_node w r result (inr made) left quiet same counts = node_answers w r result (wanted_first w r result left quiet same made.1 counts)

unread_as : (asked : Option Asked) (words : List (List ℕ)) (r : NodeRun) (result : ℕ) → Told complaint.Memory r.streams.before.err r.streams.after.err result → r.after ≡ r.before
    → r.streams.after.input ≡ r.streams.before.input → r.streams.after.out ≡ r.streams.before.out → KeepsCounts r.streams → AnswersAsked asked words r result
unread_as None words r result told left unread same counts = words_unread words r.streams result told (unfailed r.streams unread) same counts
unread_as (Some (Texts command)) words r result told left unread same counts =
    wanted_memory command r.streams result told (none-hidden complaint.Memory r.streams (unfailed r.streams unread) same)
    (unwritten (Some command) r.streams (unread-kept (Some command) r.streams unread same) same) counts
unread_as (Some (Node w)) words r result told left unread same counts = unread_node w r result told left (unfailed r.streams unread) same counts

-- that memory was wanted is said, and nothing else was done
pub answers_unread : (words : List (List ℕ)) (r : NodeRun) (result : ℕ) → Told complaint.Memory r.streams.before.err r.streams.after.err result → r.after ≡ r.before
    → r.streams.after.input ≡ r.streams.before.input → r.streams.after.out ≡ r.streams.before.out → KeepsCounts r.streams → Answers words r result
answers_unread words r result told left unread same counts = record { asked = unread_as (asked_of words) words r result told left unread same counts }
