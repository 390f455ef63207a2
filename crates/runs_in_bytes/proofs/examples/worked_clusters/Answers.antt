use Rattle.std.proofs.Common.{◌≡◌, ◌≤◌, ◌∷◌, [], ℕ, false, get_or, refl, ap, arith}
use Rattle.wire_codec.specs.Bodies.{is_spelling}
use Rattle.wire_fields.specs.Bytes.{has_bytes, read_number}
use Rattle.wire_messages.specs.KvBytes.{kv_command}
use Rattle.wire_messages.specs.RaftBytes.{raft_message}
use Rattle.runs_in_bytes.proofs.examples.worked_clusters.Goals as goal

-- one byte is no message of a cluster: its term alone has eight
too_short_for_a_term : is_spelling (raft_message kv_command) (1 ∷ []) ≡ false
unfolding has_bytes read_number
too_short_for_a_term = refl

pub returns-clause-own : goal.returns-clause-own
returns-clause-own c = record {
  packets = tt;
  format = λ bytes. refl;
  short = omega arith;
  size = (omega arith, omega arith);
  same_stack = refl;
  same_name = refl;
  named = refl;
}

pub returns-clause-not_of_another_format : goal.returns-clause-not_of_another_format
returns-clause-not_of_another_format c = λ h. cc (h.format (1 ∷ []), too_short_for_a_term)

pub returns-clause-not_of_no_packets : goal.returns-clause-not_of_no_packets
returns-clause-not_of_no_packets c = λ h. absurd h.packets

pub returns-clause-not_of_two_stacks : goal.returns-clause-not_of_two_stacks
returns-clause-not_of_two_stacks c = λ h. cc (h.same_stack)

pub returns-clause-not_under_another_name : goal.returns-clause-not_under_another_name
returns-clause-not_under_another_name c = λ h. let e : ◌≡◌ {A = ℕ} 7 0 = ap (λ name. get_or name 0 0) h.named in omega (arith, e)

pub returns-clause-not_under_two_names : goal.returns-clause-not_under_two_names
returns-clause-not_under_two_names c = λ h. let e : ◌≡◌ {A = ℕ} 8 0 = ap (λ name. get_or name 0 0) h.same_name in omega (arith, e)

pub returns-clause-not_of_ten_nodes : goal.returns-clause-not_of_ten_nodes
returns-clause-not_of_ten_nodes c = λ h. let e : 10 ≤ 9 = h.size.1 in omega (arith, e)

pub returns-clause-not_of_long_messages : goal.returns-clause-not_of_long_messages
returns-clause-not_of_long_messages c = λ h. let e : 59979 ≤ 59978 = h.short in omega (arith, e)
