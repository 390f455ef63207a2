use Rattle.std.proofs.Common.{◌≡◌, length, refl, arith, lit<}
use Rattle.wire_fields.specs.Bytes.{number_bytes}
use Rattle.node_run.specs.Examples.{granted}
use Rattle.wire_messages.specs.KvBytes.{kv_command}
use Rattle.wire_messages.specs.RaftBytes.{raft_message}
use Rattle.node_run.proofs.saying_examples.worked_grammar.Goals as goal

pub returns-clause-may_say : goal.returns-clause-may_say
returns-clause-may_say c = record {
  packets = λ bytes. refl;
  replies = λ bytes. refl;
  stack = refl;
  me = omega arith;
  peers = omega arith;
  clients = omega arith;
  named = (refl, refl);
}

its_length : length ((raft_message kv_command).spell granted) ≡ 10
unfolding number_bytes
its_length = refl

pub returns-clause-has_few_bytes : goal.returns-clause-has_few_bytes
returns-clause-has_few_bytes c = (((omega arith, lit< tt), tt), omega (arith, its_length))

pub returns-clause-is_another : goal.returns-clause-is_another
returns-clause-is_another c = record { stack = refl; name = refl; me = refl; another = λ e. cc e }
