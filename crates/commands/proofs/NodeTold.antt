-- What runs of worked rows come to whose input is the text of three peers and whose device tells.
use Rattle.std.specs.Prelude.{◌≡◌, ℕ, List, [], ◌∷◌, ◌++◌, Option, Some, None, Result, Ok, Err}
use Rattle.std.specs.List.{slice_get}
use Rattle.std.proofs.Common.{rules, refl, sym, ap, subst, ◌∙◌, arith}
use Rattle.disk.specs.Acts.{Began, Now, ReceiveFailed}
use Rattle.kv_machine.specs.Kv.{kv}
use Rattle.outside.specs.declared.device.Address.{Address}
use Rattle.vst_base.specs.declared.stack.StackId.TheVariants as stack
use Rattle.wire_fields.specs.Bytes.{has_bytes, number_bytes, number_in, read_number}
use Rattle.wire_messages.specs.KvBytes.{kv_command, kv_output}
use Rattle.node_config.specs.Configs.{configured}
use Rattle.node_config.specs.Examples.{local, sample_text, sample_with}
use Rattle.node_config.specs.Outcomes.{Fits}
use Rattle.node_config.specs.declared.config.Config.{Config}
use Rattle.node_config.specs.declared.key.ConfigKey.{ConfigKey}
use Rattle.node_core.specs.Replicas.{view_of, who_of}
use Rattle.node_datagrams.specs.Configured.{settings_of}
use Rattle.node_device.specs.Faults.{Faults}
use Rattle.node_device.specs.Telling.{Told, told_after}
use Rattle.node_progress.proofs.Halting.{heard_halts}
use Rattle.node_records.specs.Examples.{first, known}
use Rattle.node_records.specs.Records.{HearsAs}
use Rattle.node_run.specs.Runs.{Between, Broken, Starting}
use Rattle.commands.specs.Seen.{SourceSeen}
use Rattle.udp_node.specs.Examples.{begun, config, ends, fresh_opening}
use Rattle.udp_node.specs.Stacks.{EndedOn, ServedOn, refused_areas}
use Rattle.udp_node.specs.declared.fault.NodeFault.{NodeFault}
use Rattle.udp_node.specs.declared.fault.NodeFault.TheVariants as fault
use Rattle.udp_node.proofs.Served.{at_most}
use Rattle.udp_node.proofs.Worked.{after_one, after_two, booted, first_turn, held, opened, second_turn, started, started_at}
use Rattle.commands.specs.NodeComing.{IsConfigured, IsEnded, IsServed}
use Rattle.commands.specs.NodeExamples.{broken_third, device, empty, words_for}
use Rattle.commands.specs.NodeSeen.{DeviceSeen}

abbrev text : SourceSeen
text = record { left = Some sample_text; faults = 0 }

abbrev peers : Config
peers = sample_with 0 []

fits : Fits 0 peers
fits = record {
  stack = refl;
  me_is = refl;
  within = omega arith;
  peers = omega arith;
  clients = omega arith;
  ports = refl;
  distinct = refl;
  heartbeat = (omega arith, omega arith);
  election = (omega arith, omega arith);
}

abbrev config_in : Result Config ConfigKey → Config
config_in (Ok config) = config
config_in (Err key) = peers

abbrev address_in : Option Address → Address
address_in (Some at) = at
address_in None = local 0

module _ (turns : ℕ) (dir : List ℕ) (found now : DeviceSeen) (is : configured 0 sample_text ≡ Ok peers) where
  pub configured_so : IsConfigured (words_for turns dir) text empty found now peers (local 7000)
  configured_so = record { read = record { fits = fits; says = is; ended = refl; quiet = refl }; at_is = refl }

  module _ (other : Config) (at : Address) (x : IsConfigured (words_for turns dir) text empty found now other at) where
    its_config : other ≡ peers
    its_config = ap config_in (sym x.read.says ∙ is)

    its_address : at ≡ local 7000
    its_address = sym (ap address_in x.at_is) ∙ ap (λ (c : Config). address_in (slice_get c.peers c.me)) its_config

module _ (turns : ℕ) (dir : List ℕ) (found now : Told) (before after : Faults) (is : configured 0 sample_text ≡ Ok peers) where
  abbrev begun_here : Address → Told
  begun_here at = told_after found (Began at dir ∷ [])

  pub served_so : IsServed (words_for turns dir) text empty (device (Some found) before) (device (Some now) after)
      → ServedOn stack.KvRaft peers turns (begun_here (local 7000)) now
  served_so x =
      let d = device (Some found) before in
      let d' = device (Some now) after in
      subst (λ (at : Address). ServedOn stack.KvRaft peers turns (begun_here at) now) (its_address turns dir d d' is x.config x.at x.configured_so)
      (subst (λ (c : Config). ServedOn c.stack c turns (begun_here x.at) now) (its_config turns dir d d' is x.config x.at x.configured_so) x.turns)

  pub opens_so : IsServed (words_for turns dir) text empty (device (Some found) before) (device (Some now) after)
      → refused_areas stack.KvRaft peers found ≡ None
  opens_so x =
      subst (λ (c : Config). refused_areas c.stack c found ≡ None)
      (its_config turns dir (device (Some found) before) (device (Some now) after) is x.config x.at x.configured_so) x.areas

  pub ended_so : (e : NodeFault) → IsEnded (words_for turns dir) text empty (device (Some found) before) (device (Some now) after) e
      → EndedOn stack.KvRaft peers e turns (begun_here (local 7000)) now
  ended_so e x =
      let d = device (Some found) before in
      let d' = device (Some now) after in
      subst (λ (at : Address). EndedOn stack.KvRaft peers e turns (begun_here at) now) (its_address turns dir d d' is x.config x.at x.configured_so)
      (subst (λ (c : Config). EndedOn c.stack c e turns (begun_here x.at) now) (its_config turns dir d d' is x.config x.at x.configured_so) x.ended)

  pub heard_so : IsEnded (words_for turns dir) text empty (device (Some found) before) (device (Some now) after) fault.Receive
      → refused_areas stack.KvRaft peers found ≡ None
  heard_so x =
      subst (λ (c : Config). refused_areas c.stack c found ≡ None)
      (its_config turns dir (device (Some found) before) (device (Some now) after) is x.config x.at x.configured_so) x.areas

-- ---- a receive that failed in the third turn

hears_fault : HearsAs (settings_of config) kv kv_command kv_output (Between (view_of booted)) (Now 0 ∷ ReceiveFailed 300 ∷ []) [] 0 Broken
hears_fault = search rules

hears_all : HearsAs (settings_of config) kv kv_command kv_output (Starting first) broken_third [] 2 Broken
unfolding number_bytes number_in has_bytes read_number
hears_all = search rules

pub breaks_third : ends fault.Receive begun (fresh_opening ++ broken_third)
unfolding number_bytes
breaks_third =
    let now : Told = told_after begun (fresh_opening ++ broken_third) in
    record {
      first = booted;
      begun = started_at;
      starts = started;
      each = record {
        count = 2;
        below = omega arith;
        middle = booted;
        mid = after_two;
        each = (booted, after_one, (booted, started_at, (refl, refl), first_turn), second_turn);
        last = at_most stack.KvRaft config kv kv_command kv_output (Between (view_of booted)) first known 0 1
            after_two now (omega arith)
            (heard_halts (settings_of config) kv stack.KvRaft kv_command kv_output (who_of config)
            (Between (view_of booted)) Broken first known [] 0 (Now 0 ∷ ReceiveFailed 300 ∷ []) after_two hears_fault (omega arith) held refl);
      };
      all = at_most stack.KvRaft config kv kv_command kv_output (Starting first) first known 2 3 opened now
          (omega arith)
          (heard_halts (settings_of config) kv stack.KvRaft kv_command kv_output (who_of config) (Starting first)
          Broken first known [] 2 broken_third opened hears_all (omega arith) held refl);
    }
