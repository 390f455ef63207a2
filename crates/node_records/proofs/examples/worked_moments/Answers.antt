-- Moments of turns, by what they leave.
use Rattle.std.proofs.Common.{[], ◌∷◌, ◌++◌, rules, arith, refl, inl, inr}
use Rattle.disk.specs.Acts.{Now, Sent, Took}
use Rattle.kv_machine.specs.Kv.{kv}
use Rattle.slots.specs.SavingLaws.{Rests}
use Rattle.slots.specs.TurnLaws.{Keeps}
use Rattle.slots.proofs.Turning.{nothing_is_such}
use Rattle.wire_fields.specs.Bytes.{has_bytes, number_bytes, number_in, read_number}
use Rattle.wire_messages.specs.KvBytes.{kv_command, kv_output}
use Rattle.node_run.specs.Examples.{asked_put, at_port, datagram, done, number_of_eight, put_a_x, settings, three_turns}
use Rattle.node_run.specs.Runs.{Starting}
use Rattle.node_records.specs.Examples.{answered, at_rest, by_length, first, image_of, is_at, voted}
use Rattle.node_records.specs.RecordLaws.{Turns}
use Rattle.node_records.proofs.Leaving.{event_leaves, keeps_is_saving, moments_grow, quiet_leaves}
use Rattle.node_records.proofs.Turning.{turns_hear}
use Rattle.node_records.proofs.examples.worked_moments.Goals as goal

no_vote : is_at (three_turns ++ answered ∷ []) [] → ⊥
unfolding number_bytes number_in has_bytes read_number
no_vote = search rules

pub returns-clause-answered_before_the_save : goal.returns-clause-answered_before_the_save
returns-clause-answered_before_the_save c = no_vote

pub returns-clause-answered_too_soon : goal.returns-clause-answered_too_soon
returns-clause-answered_too_soon c = λ l. no_vote (l 8 (image_of []) refl)

rests : Rests (by_length voted) first 0 at_rest
rests = search rules

nothing : Keeps (by_length voted) first first 0 [] at_rest
nothing = nothing_is_such (by_length voted) at_rest 0 first rests

hear : Turns settings kv kv_command kv_output
hear = turns_hear settings kv kv_command kv_output

-- the first clock value, and then one turn
pub returns-clause-refused : goal.returns-clause-refused
unfolding number_bytes number_in has_bytes read_number
returns-clause-refused c =
    let saving = keeps_is_saving (by_length voted) first first 0 [] at_rest nothing in
    let said = Sent (at_port 7100) (datagram 5 2 0 0 (number_of_eight 1 ++ 2 ∷ [])) ∷ [] in
    let event = done asked_put first ((at_port 7100, datagram 5 2 0 0 (number_of_eight 1 ++ 2 ∷ [])) ∷ []) in
    moments_grow settings kv kv_command kv_output (by_length voted) (Starting first) first at_rest (Now 0 ∷ []) (Now 0 ∷ Took 300 (at_port 7100) put_a_x ∷ said)
    (quiet_leaves settings kv kv_command kv_output (by_length voted) (Starting first) _ first 0 at_rest 0 (Now 0 ∷ []) (hear.first first 0) rests).0 refl
    (event_leaves settings kv kv_command kv_output (by_length voted) _ first 0 at_rest 1 _ event (Now 0 ∷ Took 300 (at_port 7100) put_a_x ∷ []) [] said
    (hear.event _ 0 300 (at_port 7100) put_a_x asked_put refl refl) rests tt (tt, tt) refl saving.whole.1 (inr saving.whole.2)).0

-- the silent event, saved
pub returns-clause-saved : goal.returns-clause-saved
unfolding number_bytes number_in has_bytes read_number
returns-clause-saved c = record {
  at = record { c = 1; near = inl refl; ended = omega arith; opens = search rules; sent = refl };
  saved = omega arith;
}
