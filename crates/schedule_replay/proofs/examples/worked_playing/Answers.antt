-- These print numbers, whose digits have to be computed.
use Rattle.schedule_text.specs.Headers.{header_of}
use Rattle.std.proofs.Common.{◌≡◌, ℕ, ap, arith, refl}
use Rattle.std.specs.Fmt.{digits}
use Rattle.vst_base.specs.declared.lock.LockInput.{LockInput}
use Rattle.vst_base.specs.declared.lock.LockOutput.{LockOutput}
use Rattle.xform_stack.specs.Running.{Progress}
use Rattle.schedule_replay.specs.declared.tally.Tally.{Tally}
use Rattle.schedule_replay.proofs.examples.worked_playing.Goals as goal

pub returns-clause-waits : goal.returns-clause-waits
returns-clause-waits c = λ v n out. record { told = refl; same = refl; counts = refl; nothing = refl }

pub returns-clause-not_without_a_newline : goal.returns-clause-not_without_a_newline
returns-clause-not_without_a_newline c = λ v u n m out after w. cc (w.told)

pub returns-clause-not_with_a_skipped_line : goal.returns-clause-not_with_a_skipped_line
returns-clause-not_with_a_skipped_line c = λ v u n m out after w. cc (w.told)

pub returns-clause-nothing_is_written_while_it_waits : goal.returns-clause-nothing_is_written_while_it_waits
returns-clause-nothing_is_written_while_it_waits c = λ v n w. cc (w.nothing)

pub returns-clause-writes : goal.returns-clause-writes
unfolding digits header_of
returns-clause-writes c = record { written = refl; forgets = refl; stays = λ ss had. had; counted = refl }

pub returns-clause-not_without_its_text : goal.returns-clause-not_without_its_text
unfolding digits header_of
returns-clause-not_without_its_text c = λ w. cc (w.written)

pub returns-clause-not_uncleared : goal.returns-clause-not_uncleared
returns-clause-not_uncleared c = λ w. cc (ap (λ (p : Progress LockInput LockOutput). p.trace) w.forgets)

pub returns-clause-not_uncounted : goal.returns-clause-not_uncounted
returns-clause-not_uncounted c = λ w. let e : ◌≡◌ {A = ℕ} 4 5 = ap (λ (n : Tally). n.inputs) w.counted in omega (arith, e)
