-- An event of primary-backup sends one packet at most, to one of the two nodes.
use Rattle.std.specs.Prelude.{ℕ, ◌≤◌, Bool, true, false, ◌==◌, length, Option, Some, None, cond, slice_get}
use Rattle.std.proofs.Common.{arith}
use Rattle.handler_trait.specs.Handling.{IsModest, AreSentBelow}
use Rattle.vst_base.specs.Machines.{MachineMeaning}
use Rattle.vst_base.specs.declared.pb_msg.PbMsg.{PbMsg}
use Rattle.vst_base.specs.declared.pb_msg.PbMsg.TheVariants as msg
use Rattle.primary_backup.specs.Backup.{Backed, BackupEffect, stays, apply_of, asked, acked, applied, redirected, primary_backup}

few-next : {C : Type 0} (o : Option C) → AreSentBelow 2 (apply_of o)
few-next None = tt
few-next (Some c) = (omega arith, tt)

one-next : {C : Type 0} (o : Option C) → length (apply_of o) ≤ 1
one-next None = omega arith
one-next (Some c) = omega arith

module _ {S C O : Type 0} where
  abbrev pub IsModestHere : Backed S C → BackupEffect S C O → Type 0
  IsModestHere s e = IsModest 2 1 (λ _. Unit {0}) (λ _. 0) s e

  modest-stays : (s : Backed S C) → IsModestHere s (stays s)
  modest-stays s = record { few = omega arith; to_nodes = tt; cheap = omega arith; few_outputs = λ after. omega arith }

  modest-unless : (s : Backed S C) (b : Bool) (e f : BackupEffect S C O) → IsModestHere s e → IsModestHere s f → IsModestHere s (cond b e f)
  modest-unless s true e f first second = first
  modest-unless s false e f first second = second

  modest-asked : (s : Backed S C) (c : C) (o : Option C) → IsModestHere s (asked s c o)
  modest-asked s c None = record { few = omega arith; to_nodes = (omega arith, tt); cheap = omega arith; few_outputs = λ after. omega arith }
  modest-asked s c (Some d) = record { few = omega arith; to_nodes = tt; cheap = omega arith; few_outputs = λ after. omega arith }

  modest-acked : (m : MachineMeaning S C O) (s : Backed S C) (o : Option C) → IsModestHere s (acked m s o)
  modest-acked m s None = modest-stays s
  modest-acked m s (Some c) = record { few = omega (arith, one-next (slice_get s.waiting 0)); to_nodes = few-next (slice_get s.waiting 0); cheap = omega arith; few_outputs = λ after. omega arith }

  pub modest_input : (m : MachineMeaning S C O) (n : ℕ) (s : Backed S C) (c : C) → IsModestHere s ((primary_backup m).input n s c)
  modest_input m n s c = modest-unless s (n == 0) (asked s c s.out) (redirected s) (modest-asked s c s.out) (record { few = omega arith; to_nodes = tt; cheap = omega arith; few_outputs = λ after. omega arith })

  pub modest_message : (m : MachineMeaning S C O) (n : ℕ) (s : Backed S C) (from : ℕ) (p : PbMsg C) → IsModestHere s ((primary_backup m).message n s from p)
  modest_message m n s from (msg.Apply c) = modest-unless s (n == 0) (stays s) (applied m s c) (modest-stays s) (record { few = omega arith; to_nodes = (omega arith, tt); cheap = omega arith; few_outputs = λ after. omega arith })
  modest_message m n s from msg.Ack = modest-unless s (n == 0) (acked m s s.out) (stays s) (modest-acked m s s.out) (modest-stays s)

  pub modest_timeout : (m : MachineMeaning S C O) (n : ℕ) (s : Backed S C) → IsModestHere s ((primary_backup m).timeout n s)
  modest_timeout m n s = modest-stays s
