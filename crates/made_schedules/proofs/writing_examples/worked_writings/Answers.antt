-- Texts of which a front was written.
use Rattle.std.proofs.Common.{refl, rules}
use Rattle.made_schedules.proofs.writing_examples.worked_writings.Goals as goal

pub returns-clause-failed : goal.returns-clause-failed
returns-clause-failed c = record {
  ok = search rules;
  err = (7, refl);
  fault = search rules;
  unfailed = search rules;
  unwanted = search rules;
  quiet = search rules;
  counts = search rules;
}

pub returns-clause-wanted : goal.returns-clause-wanted
returns-clause-wanted c = record {
  ok = search rules;
  err = (7, refl);
  fault = search rules;
  unfailed = search rules;
  unwanted = search rules;
  quiet = search rules;
  counts = search rules;
}
