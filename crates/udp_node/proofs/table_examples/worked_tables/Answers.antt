-- A whole run of a node of the table of locks, and lists of acts that are none.
use Rattle.std.proofs.Common.{◌≡◌, ℕ, List, [], ◌∷◌, ◌++◌, length, ap, ◌∙◌, arith}
use Rattle.disk.specs.Acts.{Act, Wrote}
use Rattle.outside.specs.declared.device.Address.{Address}
use Rattle.wire_fields.specs.Bytes.{has_bytes, number_bytes, number_in, read_number}
use Rattle.node_device.specs.Telling.{Told, told_after}
use Rattle.node_records.specs.Examples.{answered, save}
use Rattle.node_run.specs.Examples.{asked_by_1}
use Rattle.udp_node.specs.TableExamples.{table_answered, table_turn, turn_to}
use Rattle.udp_node.proofs.WorkedTable.{record_is, serves}
use Rattle.udp_node.proofs.table_examples.worked_tables.Goals as goal

pub returns-clause-votes : goal.returns-clause-votes
returns-clause-votes c = serves

-- the stack in the first datagram that is said, and in the first slot that is written
stack_said : List (Address × List ℕ) → ℕ
stack_said ((to, mark ∷ version ∷ stack ∷ bytes) ∷ said) = stack
stack_said said = 0

stack_written : List Act → ℕ
stack_written (Wrote area at (a ∷ b ∷ c ∷ d ∷ letter ∷ version ∷ stack ∷ bytes) ∷ acts) = stack
stack_written (act ∷ acts) = stack_written acts
stack_written [] = 0

pub returns-clause-answered_as_the_other : goal.returns-clause-answered_as_the_other
unfolding number_bytes number_in has_bytes read_number stack_said
returns-clause-answered_as_the_other c = λ x.
    let e : ◌≡◌ {A = ℕ} 5 7 = ap stack_said (record_is (table_turn ++ (save ++ answered ∷ [])) x).said in omega (arith, e)

pub returns-clause-opened_as_the_other : goal.returns-clause-opened_as_the_other
unfolding number_bytes stack_written
returns-clause-opened_as_the_other c = λ x.
    let e = x.all.turns.is ∙ ap (λ (told : Told). told_after told x.all.turns.did) x.all.opening.is in
    let bytes : ◌≡◌ {A = ℕ} 5 7 = ap (λ (told : Told). stack_written told.acts) e in
    omega (arith, bytes)

pub returns-clause-asked_by_the_other : goal.returns-clause-asked_by_the_other
unfolding number_bytes number_in has_bytes read_number
returns-clause-asked_by_the_other c = λ x.
    let e : ◌≡◌ {A = ℕ} 1 0 = ap (λ ds. length ds) (record_is (turn_to asked_by_1 ++ (save ++ table_answered ∷ [])) x).said in omega (arith, e)

pub returns-clause-of_the_other : goal.returns-clause-of_the_other
unfolding number_bytes stack_written
returns-clause-of_the_other c = λ x.
    let e = x.all.turns.is ∙ ap (λ (told : Told). told_after told x.all.turns.did) x.all.opening.is in
    let bytes : ◌≡◌ {A = ℕ} 7 5 = ap (λ (told : Told). stack_written told.acts) e in
    omega (arith, bytes)
