-- Node 0 of three, whose areas hold the first state, and what events make of it.
use Rattle.std.specs.Prelude.{ℕ, List, [], ◌∷◌, None, Some}
use Rattle.outside.specs.declared.device.Address.{Address}
use Rattle.raft_types.specs.Messages.{KeptView}
use Rattle.wire_messages.specs.KvBytes.{kv_command, kv_output}
use Rattle.node_acts.specs.Examples.{Command, knowing, state}
use Rattle.node_acts.specs.StateActs.{first_kept}
use Rattle.node_config.specs.Examples.{local, sample_with}
use Rattle.node_config.specs.declared.config.Config.{Config}
use Rattle.node_run.specs.Examples.{Given, Values, machine}
use Rattle.node_run.specs.declared.event.Event.{Event}
use Rattle.node_core.specs.Replicas.{after_event, effect_on, said_of, starting}
use Rattle.node_core.specs.declared.replica.Replica.{Replica}
use Rattle.node_core.specs.declared.taken.Taken.{Taken}

abbrev pub config : Config
config = sample_with 0 (local 7100 ∷ [])

abbrev pub first : KeptView Command
first = first_kept

-- started at this time
abbrev pub started : ℕ → Replica Values Command Given
started time = starting config machine (knowing 0 38 1000 first) first time

-- the same, which knows its areas to hold this state
abbrev pub thinking : KeptView Command → Replica Values Command Given
thinking kept = record (started 0) { store = knowing 0 38 1000 kept }

-- after an event that it takes in a turn that begins at this time, and what it says
abbrev pub after : ℕ → Event Command → Replica Values Command Given
after time event = after_event config machine kv_command kv_output (record (started 0) { time = time }) event

abbrev pub says : Event Command → List (Address × List ℕ)
says event =
    let effect = effect_on config machine kv_command kv_output (started 0) event in
    said_of config kv_command kv_output effect.sends effect.outputs

-- The node in term 2, whose log has no-ops of these terms, and which knows its areas to hold those. It has taken an event that sends
-- nothing, and so many of its entries are known to be held.
abbrev pub taken : ℕ → List ℕ → List ℕ → Taken Values Command Given
taken same terms held = record {
  replica = starting config machine (knowing 0 38 1000 (state 2 None held)) (state 2 None terms) 0;
  effects = record { outputs = []; sends = []; output_places = 0; send_places = 0 };
  same = same;
}

-- the same with a vote for node 5, which the cluster does not have
abbrev pub taken_with_a_strange_vote : Taken Values Command Given
taken_with_a_strange_vote = record (taken 0 [] []) { replica = starting config machine (knowing 0 38 1000 first) (state 2 (Some 5) []) 0 }
