-- What a replay of two steps comes to where not the whole text was read.
use Rattle.std.proofs.Common.{[], codes, refl, arith}
use Rattle.schedule_replay.proofs.outcome_examples.worked_outcomes.Goals as goal

pub returns-clause-refused : goal.returns-clause-refused
returns-clause-refused c = record {
  refused = refl;
  written = refl;
  given = codes "in 1 lock\ntick 1\n";
  gave = record { others = []; whole = refl; left_is = refl };
  later = omega arith;
  ahead = omega arith;
}

pub returns-clause-broke_off : goal.returns-clause-broke_off
returns-clause-broke_off c = record {
  given = codes "in 1 lock\ntick ";
  gave = record { others = codes "1\n"; whole = refl; left_is = refl };
  short = omega arith;
  taken = refl;
  written = refl;
  front = (10, refl);
}
