use Rattle.std.proofs.Common.{refl, arith}
use Rattle.std.proofs.lemmas.List.Elements.{All-nil}
use Rattle.datagram_laws.proofs.examples.worked_bytes.Goals as goal

pub returns-clause-kept : goal.returns-clause-kept
returns-clause-kept c = record { term = omega arith; vote = omega arith; length = omega arith; log = All-nil _ }

pub returns-clause-of_tables : goal.returns-clause-of_tables
returns-clause-of_tables c = record {
  packets = λ bytes. refl;
  replies = λ bytes. refl;
  stack = refl;
  me = omega arith;
  peers = omega arith;
  clients = omega arith;
  named = (refl, refl);
}
