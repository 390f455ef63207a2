-- Slots whose bytes were worked out by hand.
use Rattle.std.specs.Prelude.{ℕ, List, [], ◌∷◌, ◌++◌, Option, Some, None, Result}
use Rattle.kv_machine.specs.declared.cmd.KvCmd.{KvCmd}
use Rattle.lock_table.specs.declared.cmd.TableCmd.{TableCmd}
use Rattle.raft_types.specs.Messages.{KeptView}
use Rattle.vst_base.specs.Entries.{EntryView}
use Rattle.vst_base.specs.declared.stack.StackId.{StackId}
use Rattle.vst_base.specs.declared.stack.StackId.TheVariants as stack
use Rattle.vst_base.specs.declared.what.What.TheVariants as what
use Rattle.wire_fields.specs.Formats.{Format}
use Rattle.wire_messages.specs.KvBytes.{kv_command}
use Rattle.wire_messages.specs.TableBytes.{table_command}
use Rattle.node_body.specs.Bodies.{entry_in, kept_as, owner_as}
use Rattle.node_body.specs.Fronts.{found_in_front}
use Rattle.node_body.specs.Journals.{change, change_as, from_gate, journal_as}
use Rattle.node_body.specs.Slots.{held_as, slot_found}
use Rattle.node_body.specs.declared.journal.Journal.{Journal}
use Rattle.node_body.specs.declared.records.Record.{Record}
use Rattle.node_body.specs.declared.slot.Held.{Held}
use Rattle.node_body.specs.declared.version.Version.TheVariants.{One, Two}
use Rattle.node_body.specs.declared.who.Who.{Who}
use Rattle.node_body.specs.declared.why.Why.{Why}

-- the name 00 01 .. 0f, and another that ends in 00
abbrev pub cluster : List ℕ
cluster = 0 ∷ 1 ∷ 2 ∷ 3 ∷ 4 ∷ 5 ∷ 6 ∷ 7 ∷ 8 ∷ 9 ∷ 10 ∷ 11 ∷ 12 ∷ 13 ∷ 14 ∷ 15 ∷ []

abbrev pub other_cluster : List ℕ
other_cluster = 0 ∷ 1 ∷ 2 ∷ 3 ∷ 4 ∷ 5 ∷ 6 ∷ 7 ∷ 8 ∷ 9 ∷ 10 ∷ 11 ∷ 12 ∷ 13 ∷ 14 ∷ 0 ∷ []

abbrev pub number_of_eight : ℕ → List ℕ
number_of_eight n = 0 ∷ 0 ∷ 0 ∷ 0 ∷ 0 ∷ 0 ∷ 0 ∷ n ∷ []

abbrev pub number_of_four : ℕ → List ℕ
number_of_four n = 0 ∷ 0 ∷ 0 ∷ n ∷ []

-- a term, a vote and no entries: the first state, and that of term 1 with a vote for node 1
abbrev pub first_state : List ℕ
first_state = number_of_eight 0 ++ (255 ∷ number_of_four 0)

abbrev pub voted_state : List ℕ
voted_state = number_of_eight 1 ++ (1 ∷ number_of_four 0)

abbrev pub first_kept : KeptView KvCmd
first_kept = kept_as 0 None []

abbrev pub voted_kept : KeptView KvCmd
voted_kept = kept_as 1 (Some 1) []

-- a body of version 1, of version 2, and each after its length
abbrev pub old_body : ℕ → ℕ → ℕ → List ℕ → List ℕ
old_body stack me nodes state = 83 ∷ 1 ∷ stack ∷ me ∷ nodes ∷ state

abbrev pub new_body : ℕ → ℕ → ℕ → List ℕ → List ℕ
new_body stack me nodes state = 83 ∷ 2 ∷ stack ∷ me ∷ nodes ∷ (cluster ++ state)

abbrev pub slot : ℕ → List ℕ → List ℕ
slot size body = 0 ∷ 0 ∷ 0 ∷ size ∷ body

abbrev pub old_first : List ℕ
old_first = slot 18 (old_body 5 0 3 first_state)

abbrev pub old_voted : List ℕ
old_voted = slot 18 (old_body 5 0 3 voted_state)

abbrev pub first_slot : List ℕ
first_slot = slot 34 (new_body 5 0 3 first_state)

abbrev pub voted_slot : List ℕ
voted_slot = slot 34 (new_body 5 0 3 voted_state)

-- the record of term 1, a vote for node 1, after none of the entries before, with none
abbrev pub vote_record : List ℕ
vote_record = number_of_eight 1 ++ (1 ∷ (number_of_four 0 ++ number_of_four 0))

-- a no-op of term 1, as an entry and as the one entry of a record that keeps so many
abbrev pub no_op : List ℕ
no_op = number_of_eight 1 ++ (0 ∷ [])

abbrev pub no_op_record : ℕ → List ℕ
no_op_record keep = number_of_eight 1 ++ (1 ∷ (number_of_four keep ++ (number_of_four 1 ++ no_op)))

-- the same of a term, as contracts see it
abbrev pub no_op_of : ℕ → EntryView KvCmd
no_op_of term = record { term = term; what = what.Noop }

-- a record of term 1 without a vote, that keeps so many and adds so many entries; both numbers are in four bytes, and the entries come next
abbrev pub record_of : List ℕ → List ℕ → List ℕ
record_of keep count = number_of_eight 1 ++ (255 ∷ (keep ++ count))

-- the greatest index, and the numbers before it and after it
abbrev pub greatest : List ℕ
greatest = 0 ∷ 15 ∷ 66 ∷ 64 ∷ []

abbrev pub before_greatest : List ℕ
before_greatest = 0 ∷ 15 ∷ 66 ∷ 63 ∷ []

abbrev pub past_greatest : List ℕ
past_greatest = 0 ∷ 15 ∷ 66 ∷ 65 ∷ []

-- put a x, the request 1 of client 7 in term 1, as version 1 spells it
abbrev pub old_put : List ℕ
old_put = number_of_eight 1 ++ (number_of_eight 7 ++ (number_of_eight 1 ++ (0 ∷ 2 ∷ 1 ∷ 97 ∷ 0 ∷ 1 ∷ 120 ∷ [])))

-- acquire l b, the same of a table
abbrev pub table_put : List ℕ
table_put = number_of_eight 1 ++ (number_of_eight 7 ++ (number_of_eight 1 ++ (0 ∷ 1 ∷ 1 ∷ 108 ∷ 1 ∷ 98 ∷ [])))

abbrev pub one_entry : List ℕ → List ℕ
one_entry entry = number_of_eight 1 ++ (1 ∷ (number_of_four 1 ++ entry))

-- a node of this stack, and of the key-value stack
abbrev pub who_on : StackId → ℕ → ℕ → List ℕ → Who
who_on s me nodes name = record { stack = s; me = me; nodes = nodes; name = name }

abbrev pub who_as : ℕ → ℕ → List ℕ → Who
who_as me nodes name = who_on stack.KvRaft me nodes name

-- what a node of the key-value stack finds, and node 0 of 3
abbrev pub found_by : Who → List ℕ → Result (Held KvCmd) Why
found_by who bs = slot_found stack.KvRaft kv_command who bs

abbrev pub found : List ℕ → Result (Held KvCmd) Why
found bs = found_by (who_as 0 3 cluster) bs

-- what node 0 of 3 of the lock table finds
abbrev pub found_by_table : List ℕ → Result (Held TableCmd) Why
found_by_table bs = slot_found stack.TableRaft table_command (who_on stack.TableRaft 0 3 cluster) bs

-- what a front decides
abbrev pub decided : List ℕ → Option (Result (Held KvCmd) Why)
decided front = found_in_front stack.KvRaft kv_command (who_as 0 3 cluster) front

abbrev pub old_held : KeptView KvCmd → ℕ → ℕ → Held KvCmd
old_held kept left hidden = held_as One (owner_as stack.KvRaft 0 3 None) (journal_as kept left hidden)

abbrev pub new_held : KeptView KvCmd → ℕ → ℕ → Held KvCmd
new_held kept left hidden = held_as Two (owner_as stack.KvRaft 0 3 (Some cluster)) (journal_as kept left hidden)

-- records of a node of 3
abbrev pub new_change : Format (Record KvCmd)
new_change = change 3 (entry_in Two kv_command)

-- the record of the vote after a gate, and that of a no-op after another
abbrev pub gated_records : List (ℕ × Record KvCmd)
gated_records = (1, change_as 1 (Some 1) 0 []) ∷ (3, change_as 1 (Some 1) 0 (no_op_of 1 ∷ [])) ∷ []

-- a journal of node 0 of 3 of which so many records are left
abbrev pub journal_left : ℕ → List ℕ → Option (Journal KvCmd)
journal_left n bs = from_gate (change 3 (entry_in Two kv_command)) n first_kept bs
