-- What is seen of the outside of a run: its input, its output and its error stream, before it and after it.
use Rattle.std.specs.Prelude.{◌≡◌, ◌≤◌, ℕ, List, Option}
use Rattle.outside.specs.declared.sink.Sink.{Ghosts as OfSink}
use Rattle.outside.specs.declared.source.Source.{Ghosts as OfSource}

-- what a source has left, where it tells it, and how often a read has failed
pub record SourceSeen : Type 0 where
  pub left : Option (List ℕ)
  pub faults : ℕ

-- what was written to a sink, where it tells it, and how often a write has failed and has wanted memory
pub record SinkSeen : Type 0 where
  pub written : Option (List ℕ)
  pub faults : ℕ
  pub wants : ℕ

pub record Seen : Type 0 where
  pub input : SourceSeen
  pub out : SinkSeen
  pub err : SinkSeen

pub record Run : Type 0 where
  pub before : Seen
  pub after : Seen

abbrev pub source_seen : {S : Type 0} → OfSource S → S → SourceSeen
source_seen source s = record { left = source.left s; faults = source.faults s }

abbrev pub sink_seen : {K : Type 0} → OfSink K → K → SinkSeen
sink_seen sink k = record { written = sink.written k; faults = sink.faults k; wants = sink.wants k }

-- the run that found these and left those: its input, its output and its error stream
abbrev pub ran : {S O E : Type 0} → OfSource S → OfSink O → OfSink E → (input input' : S) (out out' : O) (err err' : E) → Run
ran s o e input input' out out' err err' = record {
  before = record { input = source_seen s input; out = sink_seen o out; err = sink_seen e err };
  after = record { input = source_seen s input'; out = sink_seen o out'; err = sink_seen e err' };
}

-- and one that left its input as this is
abbrev pub ran_beside : {O E : Type 0} → OfSink O → OfSink E → SourceSeen → (out out' : O) (err err' : E) → Run
ran_beside o e input out out' err err' = record {
  before = record { input = input; out = sink_seen o out; err = sink_seen e err };
  after = record { input = input; out = sink_seen o out'; err = sink_seen e err' };
}

-- no write of a sink failed or wanted memory
pub record CountsNothing (before after : SinkSeen) : Type 0 where
  pub faults : after.faults ≡ before.faults
  pub wants : after.wants ≡ before.wants

-- no write failed or wanted memory
pub record WritesQuietly (r : Run) : Type 0 where
  pub out : CountsNothing r.before.out r.after.out
  pub err : CountsNothing r.before.err r.after.err

-- and no read failed
pub record IsQuiet (r : Run) : Type 0 where
  pub reads : r.after.input.faults ≡ r.before.input.faults
  pub writes : WritesQuietly r

-- no count of faults fell
pub record KeepsCounts (r : Run) : Type 0 where
  pub reads : r.before.input.faults ≤ r.after.input.faults
  pub writes : r.before.out.faults ≤ r.after.out.faults
  pub complains : r.before.err.faults ≤ r.after.err.faults
