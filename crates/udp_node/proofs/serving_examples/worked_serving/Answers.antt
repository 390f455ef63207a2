-- A whole run, and lists of acts that are none.
use Rattle.std.proofs.Common.{◌≡◌, ℕ, List, [], ◌∷◌, ◌++◌, length, take, drop, rules, refl, ap, ◌∙◌, arith}
use Rattle.std.proofs.lemmas.List.{append_cancel_left}
use Rattle.disk.specs.Acts.{Act, Began, Synced}
use Rattle.disk.specs.Disk.{Image}
use Rattle.kv_machine.specs.Kv.{kv}
use Rattle.vst_base.specs.declared.stack.StackId.TheVariants as stack
use Rattle.wire_fields.specs.Bytes.{has_bytes, number_bytes, number_in, read_number}
use Rattle.wire_messages.specs.KvBytes.{kv_command, kv_output}
use Rattle.node_body.specs.Examples.{first_slot, vote_record}
use Rattle.node_body.specs.Journals.{from_gate}
use Rattle.node_acts.specs.Stores.{found_by}
use Rattle.node_core.specs.Replicas.{who_of}
use Rattle.node_datagrams.specs.Configured.{settings_of}
use Rattle.node_device.specs.Telling.{Told, told_after}
use Rattle.node_records.specs.Examples.{answered, first, save}
use Rattle.node_records.specs.Moments.{IsAt}
use Rattle.node_run.specs.Examples.{three_turns}
use Rattle.node_run.specs.Runs.{Starting}
use Rattle.udp_node.specs.Examples.{begun, config, fresh_opening, opens_by, voting}
use Rattle.udp_node.proofs.Worked.{after_one, after_two, all_turns, booted, first_turn, leaves_is, record_is, second_turn, started, started_at, third_turn, voter}
use Rattle.udp_node.proofs.serving_examples.worked_serving.Goals as goal

pub returns-clause-votes : goal.returns-clause-votes
returns-clause-votes c = record {
  first = booted;
  begun = started_at;
  next = voter;
  starts = started;
  each = (booted, after_two, (booted, after_one, (booted, started_at, (refl, refl), first_turn), second_turn), third_turn);
  all = all_turns;
}

pub returns-clause-a_turn_less : goal.returns-clause-a_turn_less
unfolding number_bytes number_in has_bytes read_number
returns-clause-a_turn_less c = λ x. let e : ◌≡◌ {A = ℕ} 3 2 = (record_is 2 voting x).turns in omega (arith, e)

pub returns-clause-a_turn_more : goal.returns-clause-a_turn_more
unfolding number_bytes number_in has_bytes read_number
returns-clause-a_turn_more c = λ x. let e : ◌≡◌ {A = ℕ} 3 4 = (record_is 4 voting x).turns in omega (arith, e)

pub returns-clause-answered_twice : goal.returns-clause-answered_twice
unfolding number_bytes number_in has_bytes read_number
returns-clause-answered_twice c = λ x.
    let e : ◌≡◌ {A = ℕ} 2 1 = ap (λ ds. length ds) (record_is 3 (voting ++ answered ∷ []) x).said in omega (arith, e)

pub returns-clause-not_answered : goal.returns-clause-not_answered
unfolding number_bytes number_in has_bytes read_number
returns-clause-not_answered c = λ x.
    let e : ◌≡◌ {A = ℕ} 0 1 = ap (λ ds. length ds) (record_is 3 (three_turns ++ save) x).said in omega (arith, e)

-- the record stands, and its gate may still be closed
abbrev closed : Image
closed = record { slot0 = first_slot ++ 0 ∷ (vote_record ++ 0 ∷ []); slot1 = first_slot ++ 0 ∷ []; selector = 0 ∷ [] }

no_vote : IsAt (settings_of config) kv kv_command kv_output (found_by stack.KvRaft kv_command (who_of config))
    (Starting first) first (three_turns ++ (take 3 save ++ answered ∷ [])) closed → ⊥
unfolding number_bytes number_in has_bytes read_number from_gate
no_vote = search rules

pub returns-clause-answered_before_the_sync : goal.returns-clause-answered_before_the_sync
unfolding number_bytes
returns-clause-answered_before_the_sync c = λ x.
    no_vote (leaves_is 3 (three_turns ++ (take 3 save ++ answered ∷ drop 3 save)) x 11 closed refl).at

pub returns-clause-a_sync_of_the_opening_less : goal.returns-clause-a_sync_of_the_opening_less
unfolding number_bytes
returns-clause-a_sync_of_the_opening_less c = λ x.
    let e : told_after begun (take 10 fresh_opening ++ voting) ≡ told_after (told_after begun (opens_by begun)) x.all.turns.did =
    x.all.turns.is ∙ ap (λ (told : Told). told_after told x.all.turns.did) x.all.opening.is in
    let rest : voting ≡ Synced 2 ∷ x.all.turns.did =
    append_cancel_left (begun.acts ++ take 10 fresh_opening) voting (Synced 2 ∷ x.all.turns.did) (ap (λ (told : Told). told.acts) e) in
    cc rest

first_byte : List Act → ℕ
first_byte (Began at (b ∷ dir) ∷ acts) = b
first_byte acts = 0

pub returns-clause-in_another_directory : goal.returns-clause-in_another_directory
unfolding number_bytes first_byte
returns-clause-in_another_directory c = λ x.
    let e = x.all.turns.is ∙ ap (λ (told : Told). told_after told x.all.turns.did) x.all.opening.is in
    let bytes : ◌≡◌ {A = ℕ} 100 101 = ap (λ (told : Told). first_byte told.acts) e in
    omega (arith, bytes)
