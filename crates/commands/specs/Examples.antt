-- Runs for worked rows: over an input, and an output and an error stream that were empty, all of which tell what they hold.
use Rattle.std.specs.Prelude.{ℕ, List, [], Some, codes}
use Rattle.command_line.specs.declared.command.MadeSchedule.{MadeSchedule}
use Rattle.vst_base.specs.declared.stack.StackId.TheVariants as stack
use Rattle.commands.specs.Seen.{Run, SinkSeen, SourceSeen}

abbrev pub quiet_source : List ℕ → SourceSeen
quiet_source left = record { left = Some left; faults = 0 }

abbrev pub quiet_sink : List ℕ → SinkSeen
quiet_sink written = record { written = Some written; faults = 0; wants = 0 }

-- the run that found this input, left that of it, and wrote this output and this line, and counted nothing
abbrev pub quiet_run : (input left out err : List ℕ) → Run
quiet_run input left out err = record {
  before = record { input = quiet_source input; out = quiet_sink []; err = quiet_sink [] };
  after = record { input = quiet_source left; out = quiet_sink out; err = quiet_sink err };
}

-- the same run, where a read failed, a write of the output, a write of the error stream, or where one of those wanted memory
abbrev pub read_failed : Run → Run
read_failed r = record r { after = record r.after { input = record r.after.input { faults = 1 } } }

abbrev pub out_failed : Run → Run
out_failed r = record r { after = record r.after { out = record r.after.out { faults = 1 } } }

abbrev pub out_wanted : Run → Run
out_wanted r = record r { after = record r.after { out = record r.after.out { wants = 1 } } }

abbrev pub err_failed : Run → Run
err_failed r = record r { after = record r.after { err = record r.after.err { faults = 1 } } }

abbrev pub err_wanted : Run → Run
err_wanted r = record r { after = record r.after { err = record r.after.err { wants = 1 } } }

-- the run in which what came after came before
abbrev pub backwards : Run → Run
backwards r = record { before = r.after; after = r.before }

-- a schedule of one step, and its text
abbrev pub one_tick : MadeSchedule
one_tick = record { stack = stack.Lock; seed = 0; steps = 1 }

abbrev pub one_tick_text : List ℕ
one_tick_text = codes "schedule 1 bag lock 4\ntick 1\n"
