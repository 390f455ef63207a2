use Rattle.raft_reads.proofs.Dropping.{events_drop_reads, starts_drop_reads}
use Rattle.raft_reads.proofs.laws.reads_are_dropped.Goals as goal

pub returns : goal.returns
returns g c = record {
  by_events = events_drop_reads _ _ _;
  by_starts = starts_drop_reads _ _ _;
}
