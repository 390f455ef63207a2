-- An event of the lock server, of the mirror, or of a machine alone or under primary-backup sends few packets; of handlers that are numbered
-- or whose messages come in order no more than without, and of retrying handlers one more at most.
use Rattle.std.specs.Prelude.{ℕ, ◌+◌, ◌≤◌, ◌==◌, Bool, true, false, List, [], ◌∷◌, ◌++◌, length, Option, Some, None, cond}
use Rattle.std.proofs.Common.{arith, length-append}
use Rattle.fifo_xform.specs.Fifo.{FifoState, fifo, gives, gives_nothing, numbering, on_timeout}
use Rattle.fifo_xform.specs.FifoLaws.{length-numbered_by}
use Rattle.fifo_xform.specs.Peers.{Peers, passing, peer_of, ready}
use Rattle.handler_trait.specs.Handling.{Effect, Meaning}
use Rattle.lock_server.specs.Locks.{lock_server}
use Rattle.lock_server.specs.declared.state.LockState.{LockState}
use Rattle.lock_server.specs.declared.state.LockState.TheVariants.{Server, Client}
use Rattle.mirror.specs.MirrorLaws as mirror_laws
use Rattle.mirror.specs.Mirroring.{mirror}
use Rattle.vst_base.specs.declared.mirror.MirrorInput.{MirrorInput}
use Rattle.vst_base.specs.declared.mirror.MirrorInput.TheVariants.{Put}
use Rattle.primary_backup.specs.Backup.{primary_backup}
use Rattle.primary_backup.specs.BackupLaws as backup
use Rattle.retry_xform.specs.Keeping.{Kept, Retrying}
use Rattle.retry_xform.specs.Retransmission.{as_data, kept_and_sent, retrying, takes_message, with_first_resent}
use Rattle.retry_xform.specs.RetransmissionLaws.{length-as_data}
use Rattle.vst_base.specs.declared.retry.RetryMsg.{RetryMsg}
use Rattle.vst_base.specs.declared.retry.RetryMsg.TheVariants as retry
use Rattle.seqnum_xform.specs.Numbering.{Numbered, Seen, has_seen, with_seen, nothing, numbered, sequence_numbered}
use Rattle.seqnum_xform.specs.NumberingLaws.{length-numbered_from}
use Rattle.trace_maps.specs.SingleNode.{single_node}
use Rattle.vst_base.specs.Machines.{MachineMeaning}
use Rattle.vst_base.specs.declared.lock.LockInput.{LockInput}
use Rattle.vst_base.specs.declared.lock.LockInput.TheVariants as ask
use Rattle.vst_base.specs.declared.lock.LockMsg.{LockMsg}
use Rattle.vst_base.specs.declared.lock.LockMsg.TheVariants as msg
use Rattle.vst_base.specs.declared.seq.SeqMsg.{SeqMsg}
use Rattle.made_schedules.specs.Makes.{own_sends}
use Rattle.made_schedules.specs.Sends.{SendsAtMost}

lock-input : (nodes n : ℕ) (s : LockState) (i : LockInput) → length ((lock_server nodes).input n s i).sends ≤ own_sends
lock-input nodes n (Server queue) i = omega arith
lock-input nodes n (Client held) ask.Lock = omega arith
lock-input nodes n (Client true) ask.Unlock = omega arith
lock-input nodes n (Client false) ask.Unlock = omega arith

lock-message : (nodes n : ℕ) (s : LockState) (from : ℕ) (c : LockMsg) → length ((lock_server nodes).message n s from c).sends ≤ own_sends
lock-message nodes n (Server []) from msg.Lock = omega arith
lock-message nodes n (Server (holder ∷ waiting)) from msg.Lock = omega arith
lock-message nodes n (Server []) from msg.Unlock = omega arith
lock-message nodes n (Server (holder ∷ [])) from msg.Unlock = omega arith
lock-message nodes n (Server (holder ∷ next ∷ waiting)) from msg.Unlock = omega arith
lock-message nodes n (Server queue) from msg.Locked = omega arith
lock-message nodes n (Client held) from msg.Locked = omega arith
lock-message nodes n (Client held) from msg.Lock = omega arith
lock-message nodes n (Client held) from msg.Unlock = omega arith

pub lock-few : (nodes : ℕ) → SendsAtMost own_sends (lock_server nodes)
lock-few nodes = record { input = lock-input nodes; message = lock-message nodes; timeout = λ n s. omega arith }

mirror-input : (nodes n : ℕ) (s : Unit {0}) (i : MirrorInput) → length ((mirror nodes).input n s i).sends ≤ own_sends
mirror-input nodes n s (Put value) = omega arith

pub mirror-few : (nodes : ℕ) → SendsAtMost own_sends (mirror nodes)
mirror-few nodes = record {
  input = mirror-input nodes;
  message = λ n s from c. omega (arith, (mirror_laws.modest_message nodes n from c).few);
  timeout = λ n s. omega arith;
}

pub backup-few : {S C O : Type 0} (m : MachineMeaning S C O) → SendsAtMost own_sends (primary_backup m)
backup-few m = record {
  input = λ n s i. omega (arith, (backup.modest_input m n s i).few);
  message = λ n s from c. omega (arith, (backup.modest_message m n s from c).few);
  timeout = λ n s. omega (arith, (backup.modest_timeout m n s).few);
}

pub single-few : {S C O : Type 0} (m : MachineMeaning S C O) → SendsAtMost own_sends (single_node m)
single-few m = record { input = λ n s i. omega arith; message = λ n s from c. omega arith; timeout = λ n s. omega arith }

module _ {S I O M : Type 0} (most : ℕ) (m : Meaning S I O M) (few : SendsAtMost most m) where
  numbered-sends : (next : ℕ) (seen : Seen) (e : Effect S O M) → length e.sends ≤ most → length (numbered next seen e).sends ≤ most
  numbered-sends next seen e h = omega (arith, length-numbered_from next e.sends, h)

  -- a message that was seen sends nothing
  unless-seen : (s : Numbered S) (b : Bool) (e : Effect (Numbered S) O (SeqMsg M)) → length e.sends ≤ most → length (cond b (nothing s) e).sends ≤ most
  unless-seen s true e h = omega arith
  unless-seen s false e h = h

  pub numbered-few : SendsAtMost most (sequence_numbered m)
  numbered-few = record {
    input = λ n s i. numbered-sends s.next s.seen (m.input n s.inner i) (few.input n s.inner i);
    message = λ n s from p.
        unless-seen s (has_seen s.seen from p.number) _
        (numbered-sends s.next (with_seen s.seen from p.number) (m.message n s.inner from p.inner) (few.message n s.inner from p.inner));
    timeout = λ n s. numbered-sends s.next s.seen (m.timeout n s.inner) (few.timeout n s.inner);
  }

  numbering-sends : (ps : Peers M) (e : Effect S O M) → length e.sends ≤ most → length (numbering ps e).sends ≤ most
  numbering-sends ps e h = omega (arith, length-numbered_by ps e.sends, h)

  gives-few : (n : ℕ) (s : FifoState S M) (from : ℕ) (content : M) → length (gives m n s from content).sends ≤ most
  gives-few n s from content = numbering-sends (passing s.peers from) (m.message n s.inner from content) (few.message n s.inner from content)

  -- a message that is held or ignored sends nothing
  if-expected : (n : ℕ) (s : FifoState S M) (from : ℕ) (content : M) (ps : Peers M) (b : Bool)
      → length (cond b (gives m n s from content) (gives_nothing s.inner ps)).sends ≤ most
  if-expected n s from content ps true = gives-few n s from content
  if-expected n s from content ps false = omega arith

  -- a tick gives one that is held, or fires the timer within
  by-ready : (n : ℕ) (s : FifoState S M) (o : Option (ℕ × M)) → length (on_timeout m n s o).sends ≤ most
  by-ready n s None = numbering-sends s.peers (m.timeout n s.inner) (few.timeout n s.inner)
  by-ready n s (Some held) = gives-few n s held.0 held.1

  pub fifo-few : SendsAtMost most (fifo m)
  fifo-few = record {
    input = λ n s i. numbering-sends s.peers (m.input n s.inner i) (few.input n s.inner i);
    message = λ n s from p. if-expected n s from p.inner _ (p.number == (peer_of s.peers from).expected);
    timeout = λ n s. by-ready n s (ready m.nodes s.peers);
  }

  kept-sends : (s : Retrying S M) (e : Effect S O M) → length e.sends ≤ most → length (kept_and_sent s e).sends ≤ most
  kept-sends s e h = omega (arith, length-as_data s.next e.sends, h)

  -- with one packet more, which acknowledges or is sent again
  one-more : (ps : List (ℕ × RetryMsg M)) (p : ℕ × RetryMsg M) → length ps ≤ most → length (ps ++ p ∷ []) ≤ most + 1
  one-more ps p h = omega (arith, length-append ps (p ∷ []), h)

  by-kept : (s : Retrying S M) (ks : List (Kept M)) (e : Effect S O M) → length e.sends ≤ most → length (with_first_resent ks (kept_and_sent s e)).sends ≤ most + 1
  by-kept s [] e h = let few_sent = kept-sends s e h in omega (arith, few_sent)
  by-kept s (k ∷ ks) e h = one-more (kept_and_sent s e).sends (as_data k) (kept-sends s e h)

  by-content : (n : ℕ) (s : Retrying S M) (from : ℕ) (c : RetryMsg M) → length (takes_message m n s from c).sends ≤ most + 1
  by-content n s from (retry.Data number inner) =
      let e = m.message n s.inner from inner in
      one-more (kept_and_sent s e).sends (from, retry.Ack number) (kept-sends s e (few.message n s.inner from inner))
  by-content n s from (retry.Ack number) = omega arith

  pub retried-few : SendsAtMost (most + 1) (retrying m)
  retried-few = record {
    input = λ n s i. let few_sent = kept-sends s (m.input n s.inner i) (few.input n s.inner i) in omega (arith, few_sent);
    message = by-content;
    timeout = λ n s. by-kept s s.kept (m.timeout n s.inner) (few.timeout n s.inner);
  }

-- so many packets are no more than more
pub at-most-more : {S I O M : Type 0} (most more : ℕ) (m : Meaning S I O M) → most ≤ more → SendsAtMost most m → SendsAtMost more m
at-most-more most more m le few = record {
  input = λ n s i. let here = few.input n s i in omega (arith, le, here);
  message = λ n s from c. let here = few.message n s from c in omega (arith, le, here);
  timeout = λ n s. let here = few.timeout n s in omega (arith, le, here);
}
