-- A machine at its node, and a primary and its backup, have one output an event at most.
use Rattle.std.specs.Prelude.{ℕ, ◌==◌, Option, Some, None}
use Rattle.std.proofs.Common.{arith}
use Rattle.primary_backup.specs.Backup.{Backed, acked, applied, asked, primary_backup, redirected, stays}
use Rattle.trace_maps.specs.SingleNode.{single_node}
use Rattle.vst_base.specs.Machines.{MachineMeaning}
use Rattle.vst_base.specs.declared.pb_msg.PbMsg.{PbMsg}
use Rattle.vst_base.specs.declared.pb_msg.PbMsg.TheVariants as sent
use Rattle.vst_base.specs.declared.pb_out.PbOut.{PbOut}
use Rattle.trace_check.proofs.Eaches.{either}
use Rattle.trace_check.proofs.TraceLengths.{TellsOne, TellsOnce}

module _ {S C O : Type 0} (m : MachineMeaning S C O) where
  -- a machine alone
  pub single-once : TellsOnce (single_node m)
  single-once = record { input = λ n s c. omega arith; message = λ n s from c. omega arith; timeout = λ n s. omega arith }

  -- a primary and its backup
  stays-one : (s : Backed S C) → TellsOne {O = PbOut O} {M = PbMsg C} (stays s)
  stays-one s = omega arith

  asked-one : (s : Backed S C) (c : C) (o : Option C) → TellsOne {O = PbOut O} {M = PbMsg C} (asked s c o)
  asked-one s c None = omega arith
  asked-one s c (Some d) = omega arith

  acked-one : (s : Backed S C) (o : Option C) → TellsOne (acked m s o)
  acked-one s None = omega arith
  acked-one s (Some c) = omega arith

  backup-message : (n : ℕ) (s : Backed S C) (from : ℕ) (p : PbMsg C) → TellsOne ((primary_backup m).message n s from p)
  backup-message n s from (sent.Apply c) = either TellsOne (n == 0) (stays s) (applied m s c) (stays-one s) (omega arith)
  backup-message n s from sent.Ack = either TellsOne (n == 0) (acked m s s.out) (stays s) (acked-one s s.out) (stays-one s)

  pub backup-once : TellsOnce (primary_backup m)
  backup-once = record {
    input = λ n s c. either TellsOne (n == 0) (asked s c s.out) (redirected s) (asked-one s c s.out) (omega arith);
    message = backup-message;
    timeout = λ n s. stays-one s;
  }
