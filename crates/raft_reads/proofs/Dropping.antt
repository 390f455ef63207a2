-- What a node that does not lead on knows of reads.
use Rattle.std.proofs.Common.{ℕ, Bool, true, false, cond, refl}
use Rattle.vst_base.specs.Machines.{MachineMeaning}
use Rattle.raft_types.specs.Terms.{term_of}
use Rattle.raft_xform.specs.Electing.{tick}
use Rattle.raft_xform.specs.Nodes.{RaftEffect}
use Rattle.raft_xform.specs.Raft as raft
use Rattle.raft_xform.specs.Replicating as replicating
use Rattle.raft_reads.specs.Dropping.{DropsReads, EventsDropReads, StartsDropReads}
use Rattle.raft_reads.specs.ReadRaft.{ReadEffect, acknowledged, waits, with_reads}
use Rattle.raft_reads.specs.Reads.{ReadView, Reads, with_read}

module _ {S C O : Type 0} (m : MachineMeaning S C O) (nodes me : ℕ) where
  drops : (s : ReadView S C O) (e : RaftEffect S C O) (r : Reads C) (term round : ℕ) → DropsReads nodes s (with_reads m nodes me s.raft e r term round)
  drops s e r term round gone = rw gone refl

  either : (s : ReadView S C O) (b : Bool) (e f : ReadEffect S C O) → DropsReads nodes s e → DropsReads nodes s f → DropsReads nodes s (cond b e f)
  either s true e f d g = d
  either s false e f d g = g

pub events_drop_reads : (S C O : Type 0) → EventsDropReads S C O
events_drop_reads S C O = record {
  input = λ m is_read nodes me s i.
      either m nodes me s (waits is_read s i) _ _ (drops m nodes me s (tick m nodes me s.raft) (with_read s.reads i s.raft.commit) 0 0)
      (drops m nodes me s (replicating.on_input m nodes me s.raft i) s.reads 0 0);
  message = λ m nodes me s from x. drops m nodes me s (raft.on_message m nodes me s.raft from x.raft) (acknowledged s from x) (term_of x.raft) x.round;
  timeout = λ m nodes me s. drops m nodes me s (tick m nodes me s.raft) s.reads 0 0;
}

pub starts_drop_reads : (S C O : Type 0) → StartsDropReads S C O
starts_drop_reads S C O m nodes me k = refl
