-- What the worked rows of playing are about: locks, of which nothing runs but what clients saw.
use Rattle.std.specs.Prelude.{ℕ, List, [], ◌∷◌, Option, None, Some, Result, codes}
use Rattle.vst_base.specs.declared.lock.LockInput.{LockInput}
use Rattle.vst_base.specs.declared.lock.LockInput.TheVariants as ask
use Rattle.vst_base.specs.declared.lock.LockOutput.{LockOutput}
use Rattle.vst_base.specs.declared.step.Item.TheVariants as item
use Rattle.line_reader.specs.Readers.{ReaderView, fresh}
use Rattle.xform_stack.specs.Running.{Progress}
use Rattle.stacks.specs.Table.{lock_texts}
use Rattle.schedule_replay.specs.declared.tally.Tally.{Tally}
use Rattle.line_reader.specs.declared.why.Why.TheVariants as why
use Rattle.schedule_replay.specs.Outcomes.{ComesTo, KeptUp}
use Rattle.schedule_replay.specs.Playing.{Writes}
use Rattle.schedule_replay.specs.Replaying.{Replayed, no_counts}
use Rattle.schedule_replay.specs.Replays.{replayed_so_far}
use Rattle.schedule_replay.specs.declared.done.Done.{Done}
use Rattle.schedule_replay.specs.declared.fault.ReplayFault.{ReplayFault}

-- a reader that has read these bytes ahead
abbrev pub read_ahead : List ℕ → ReaderView
read_ahead bytes = record (fresh 100) { ahead = bytes }

-- client 1 asked for the lock, which was not written yet, and which was
abbrev pub asked : Progress LockInput LockOutput
asked = record { trace = item.Input 1 ask.Lock ∷ []; taken = 1 }

abbrev pub cleared : Progress LockInput LockOutput
cleared = record { trace = []; taken = 1 }

-- so many inputs were counted, and nothing else
abbrev pub inputs : ℕ → Tally
inputs n = record { inputs = n; outputs = 0; replies = 0 }

-- what clients saw of the lock was written, counted and cleared
abbrev pub WritesLocks : Progress LockInput LockOutput → Progress LockInput LockOutput → Tally → Tally → Option (List ℕ)
    → Option (List ℕ) → Type 0
WritesLocks v u n m out after = Writes (λ r ss. Unit {0}) (λ r. r) lock_texts v u n m out after

-- two steps after a header: their trace, and that the second of them is refused
abbrev pub two_steps : Done
two_steps = record { events = 2; inputs = 1; outputs = 0; replies = 0; image = 0 }

abbrev pub taken : Replayed
taken = record { out = codes "in 1 lock\n"; refused = None; counts = two_steps }

abbrev pub stopped : Replayed
stopped = record { out = codes "in 1 lock\n"; refused = Some (3, why.NoCopy); counts = no_counts }

-- what a replay of them comes to that is to come to this, with so much left of the source, by a sink that held one line and has this now
abbrev pub comes_to : Replayed → List ℕ → List ℕ → Result Done ReplayFault → Type 0
comes_to replayed left out r =
    ComesTo (λ _. replayed) (λ _. replayed) 1 (codes "in 1 lock\ntick 1\n") (Some left) (Some (codes "held\n")) (Some out) r

-- a schedule of one input
abbrev pub one_input : List ℕ
one_input = codes "schedule 1 bag lock 2\nin 1 lock\n"

-- that a replay of a text keeps up, with so much left of the source, by a sink that held nothing and has this now
abbrev pub keeps_up : (text left out : List ℕ) → Type 0
keeps_up text left out = KeptUp replayed_so_far text (Some left) (Some []) (Some out)
