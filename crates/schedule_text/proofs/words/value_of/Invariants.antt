use Rattle.std.proofs.Common.{◌≡◌, ◌≤◌, drop}
use Rattle.schedule_text.specs.Words.{value_from}
use Rattle.schedule_text.proofs.words.value_of.Given as goal

-- the rest of the digits stands after the value so far
abbrev pub invariant-loop-digit : goal.invariant-loop-digit
invariant-loop-digit l = record {
  rest : value_from l.value (drop l.digit-index l.digits) ≡ value_from 0 l.digits;
  small : l.value ≤ l.most;
}
