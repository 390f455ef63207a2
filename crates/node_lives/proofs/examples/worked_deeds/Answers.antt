-- The deeds of a node that votes, act by act.
use Rattle.std.proofs.Common.{◌≡◌, List, [], ◌∷◌, ◌++◌, take, refl, inr}
use Rattle.disk.specs.Acts.{Act, Took}
use Rattle.kv_machine.specs.Kv.{kv}
use Rattle.node_datagrams.specs.Configured.{settings_of}
use Rattle.node_records.specs.Examples.{answered, first, save}
use Rattle.node_run.specs.Examples.{asked_by_1, at_port, three_turns}
use Rattle.node_run.specs.Runs.{Starting, done_in, stage_after}
use Rattle.node_run.specs.Settings.{Settings}
use Rattle.slots.specs.Turns.{datagrams}
use Rattle.cluster_histories.specs.Deeds.{Said}
use Rattle.udp_node.specs.Examples.{config, voting}
use Rattle.wire_fields.specs.Bytes.{has_bytes, number_bytes, number_in, read_number}
use Rattle.wire_messages.specs.KvBytes.{kv_command, kv_output}
use Rattle.node_lives.specs.Examples.{VoteDeed, asks_it, vote_as}
use Rattle.node_lives.specs.LifeDeeds.{AreActsOf, AreOf}
use Rattle.node_lives.proofs.Sayings.{acts_both, acts_say}
use Rattle.node_lives.proofs.examples.worked_deeds.Goals as goal

abbrev voter : Settings
voter = settings_of config

abbrev are_acts_of : List Act → List VoteDeed → Type 0
are_acts_of acts deeds = AreActsOf voter kv kv_command kv_output (Starting first) acts deeds

-- the last of the three turns decides an event
asks : are_acts_of three_turns (asks_it ∷ [])
unfolding number_bytes number_in has_bytes read_number
asks =
    acts_both voter kv kv_command kv_output (Starting first) (take 6 three_turns) (Took 300 (at_port 7001) asked_by_1 ∷ []) []
    (asks_it ∷ [])
    (acts_say voter kv kv_command kv_output (Starting first) (take 6 three_turns) [] refl refl)
    (asks_it ∷ [], [], record { out = []; are_out = refl; are = refl }, refl, refl)

then_says : (more : List Act) (out : List VoteDeed) →
    done_in voter kv kv_command kv_output (stage_after voter kv kv_command kv_output (Starting first) three_turns) more ≡ [] →
    AreOf voter kv_command kv_output (datagrams more) out → are_acts_of (three_turns ++ more) (asks_it ∷ out)
then_says more out none are =
    acts_both voter kv kv_command kv_output (Starting first) three_turns more (asks_it ∷ []) out asks
    (acts_say voter kv kv_command kv_output (stage_after voter kv kv_command kv_output (Starting first) three_turns) more out none are)

pub returns-clause-votes : goal.returns-clause-votes
unfolding number_bytes number_in has_bytes read_number
returns-clause-votes c = inr (record {
  kept = first;
  turns = voting;
  later = asks_it ∷ Said 1 vote_as ∷ [];
  acts = refl;
  from = refl;
  of_turns = then_says (save ++ answered ∷ []) (Said 1 vote_as ∷ []) refl (refl, refl);
  are = refl;
})

pub returns-clause-killed : goal.returns-clause-killed
unfolding number_bytes number_in has_bytes read_number
returns-clause-killed c = inr (record {
  kept = first;
  turns = three_turns ++ take 3 save;
  later = asks_it ∷ [];
  acts = refl;
  from = refl;
  of_turns = then_says (take 3 save) [] refl refl;
  are = refl;
})
