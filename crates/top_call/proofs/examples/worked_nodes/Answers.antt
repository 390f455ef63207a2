use Rattle.std.proofs.Common.{◌≡◌, ℕ, [], None, Option, Some, Result, Ok, Err, ap, arith, inl, inr, lit≤, refl}
use Rattle.std.specs.Prelude.{get_or, length, unwrap_or}
use Rattle.commands.proofs.NodeAnswering.{node_answers}
use Rattle.commands.proofs.NodeEnding.{wanted_first}
use Rattle.commands.specs.NodeExamples.{words}
use Rattle.commands.specs.NodeSeen.{DeviceSeen}
use Rattle.commands.specs.NodeStatuses.{CameTo}
use Rattle.commands.specs.declared.trouble.Trouble.{Trouble}
use Rattle.commands.specs.declared.trouble.Trouble.TheVariants as trouble
use Rattle.node_device.specs.Telling.{Told}
use Rattle.commands.specs.Examples.{quiet_run, read_failed}
use Rattle.top_call.specs.Examples.{used}
use Rattle.top_call.proofs.examples.worked_nodes.Goals as goal

pub returns-clause-status : goal.returns-clause-status
returns-clause-status c = λ w ws r n h. h.status

pub returns-clause-wanted : goal.returns-clause-wanted
returns-clause-wanted c =
    node_answers words _ 8
    (wanted_first words _ 8 refl refl refl (inl (refl, refl, record { faults = refl; wants = refl })) (record { reads = lit≤ tt; writes = lit≤ tt; complains = lit≤ tt }))

-- how many acts a device tells
abbrev acts_in : Option Told → ℕ
acts_in None = 0
acts_in (Some told) = length told.acts

-- after a failed read nothing is done with a device
unread : (came : Result (Unit {0}) Trouble) → CameTo words (used (read_failed (quiet_run [] [] [] []))) came → ⊥
unread (Ok x) h = let e : ◌≡◌ {A = ℕ} 1 0 = h.configured_so.read.quiet in omega (arith, e)
unread (Err trouble.Read) h = let e : ◌≡◌ {A = ℕ} 1 0 = ap (λ (d : DeviceSeen). acts_in d.told) h.device_stays in omega (arith, e)
unread (Err (trouble.Config key)) h = let e : ◌≡◌ {A = ℕ} 1 0 = h.quiet in omega (arith, e)
unread (Err trouble.Begin) h = let e : ◌≡◌ {A = ℕ} 1 0 = h.configured_so.read.quiet in omega (arith, e)
unread (Err (trouble.Ended f)) h = let e : ◌≡◌ {A = ℕ} 1 0 = h.configured_so.read.quiet in omega (arith, e)
unread (Err trouble.Memory) h = let e : ◌≡◌ {A = ℕ} 1 0 = h.quiet in omega (arith, e)

pub returns-clause-used_after_a_failed_read : goal.returns-clause-used_after_a_failed_read
returns-clause-used_after_a_failed_read c = λ n h. unread h.came.0 h.came.1

-- the line of the turns begins otherwise, and so does that of a configuration
pub returns-clause-done_as_a_replay : goal.returns-clause-done_as_a_replay
returns-clause-done_as_a_replay c = λ h. let e : ◌≡◌ {A = ℕ} 98 116 = ap (λ o. get_or (unwrap_or o []) 0 0) (h.done refl).out in omega (arith, e)

pub returns-clause-refused_as_a_line : goal.returns-clause-refused_as_a_line
returns-clause-refused_as_a_line c = λ h. let e : ◌≡◌ {A = ℕ} 108 99 = ap (λ o. get_or (unwrap_or o []) 0 0) (h.refused refl).1.err in omega (arith, e)

pub returns-clause-read_and_the_device_used : goal.returns-clause-read_and_the_device_used
returns-clause-read_and_the_device_used c = λ h. let e : ◌≡◌ {A = ℕ} 1 0 = ap (λ (d : DeviceSeen). acts_in d.told) (h.read refl).came.device_stays in omega (arith, e)

pub returns-clause-write_that_did_not_fail : goal.returns-clause-write_that_did_not_fail
returns-clause-write_that_did_not_fail c = λ h. elim (h.write refl) [
  | inl x ↦ omega (arith, x.rose)
  | inr x ↦ omega (arith, x.rose)
]

-- nothing was said
pub returns-clause-listening_in_silence : goal.returns-clause-listening_in_silence
returns-clause-listening_in_silence c = λ h. elim (h.listening refl) [
  | inl x ↦ let e : ◌≡◌ {A = ℕ} 0 5 = ap (λ o. length (unwrap_or o [])) x.err in omega (arith, e)
  | inr x ↦ let e : ◌≡◌ {A = ℕ} 0 8 = ap (λ o. length (unwrap_or o [])) x.err in omega (arith, e)
]

pub returns-clause-store_in_silence : goal.returns-clause-store_in_silence
returns-clause-store_in_silence c = λ h. let e : ◌≡◌ {A = ℕ} 0 6 = ap (λ o. length (unwrap_or o [])) (h.store refl).err in omega (arith, e)

pub returns-clause-memory_in_silence : goal.returns-clause-memory_in_silence
returns-clause-memory_in_silence c = λ h. elim (h.memory refl).said [
  | inl x ↦ let e : ◌≡◌ {A = ℕ} 0 7 = ap (λ o. length (unwrap_or o [])) x.err in omega (arith, e)
  | inr x ↦ omega (arith, x.rose)
]

pub returns-clause-areas_in_silence : goal.returns-clause-areas_in_silence
returns-clause-areas_in_silence c = λ h. let e : ◌≡◌ {A = ℕ} 0 115 = ap (λ o. get_or (unwrap_or o []) 0 0) (h.areas refl).1.err in omega (arith, e)
