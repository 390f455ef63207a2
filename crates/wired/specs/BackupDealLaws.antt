-- Primary-backup sends and keeps only commands that have bytes, and sends one message in an event at most, to nodes that exist.
use Rattle.std.specs.Prelude.{ℕ, ◌+◌, ◌≤◌, ◌==◌, Bool, true, false, List, [], ◌∷◌, length, Option, None, Some, IfSome, cond, slice_get}
use Rattle.std.specs.List.{All}
use Rattle.std.proofs.Common.{arith}
use Rattle.std.proofs.lemmas.List.Elements.{All-drop, All-head, All-nil, All-push}
use Rattle.net_semantics.specs.Runs.{no_recovery}
use Rattle.node_body.specs.declared.commands.TheConstants.{MAX_COMMAND}
use Rattle.primary_backup.specs.Backup.{Backed, BackupEffect, acked, applied, apply_of, asked, primary_backup, redirected, stays}
use Rattle.vst_base.specs.Machines.{MachineMeaning}
use Rattle.vst_base.specs.declared.pb_msg.PbMsg.{PbMsg}
use Rattle.vst_base.specs.declared.pb_msg.PbMsg.TheVariants as msg
use Rattle.wire_fields.specs.Formats.{Format}
use Rattle.wire_messages.specs.PeerBytes.{backup_message}
use Rattle.wired.specs.Dealing.{AreSent, DealsInBytes, GoesOn, nothing_saved}
use Rattle.wired.specs.Sending.{GoodBackup, HasBackup}

module _ {C : Type 0} (f : Format C) where
  pub backup_fits : ((c : C) → f.Fits c → length (f.spell c) ≤ MAX_COMMAND) → (from to : ℕ) (x : PbMsg C) → HasBackup f from to x
      → (backup_message f).Fits x × (length ((backup_message f).spell x) ≤ MAX_COMMAND + 1)
  backup_fits short from to (msg.Apply c) fits = (fits, omega (arith, short c fits))
  backup_fits short from to msg.Ack fits = (tt, omega arith)

  first_fits : (cs : List C) → All f.Fits cs → IfSome (slice_get cs 0) f.Fits
  first_fits [] fits = tt
  first_fits (c ∷ cs) fits = All-head f.Fits c cs fits

  next_sent : (n : ℕ) (o : Option C) → IfSome o f.Fits → AreSent (HasBackup f) 2 n (apply_of o)
  next_sent n None fits = tt
  next_sent n (Some c) fits = ((omega arith, fits), tt)

  next_few : (o : Option C) → length (apply_of o) ≤ 1
  next_few None = omega arith
  next_few (Some c) = omega arith

  module _ {S O : Type 0} (m : MachineMeaning S C O) where
    abbrev Goes : ℕ → BackupEffect S C O → Type 0
    Goes n e = GoesOn (HasBackup f) 1 2 (λ s. IfSome s.out f.Fits × All f.Fits s.waiting) n e

    goes_unless : (n : ℕ) (b : Bool) (e d : BackupEffect S C O) → Goes n e → Goes n d → Goes n (cond b e d)
    goes_unless n true e d first second = first
    goes_unless n false e d first second = second

    goes_nowhere : (t n : ℕ) (s : Backed S C) → GoodBackup f t n s → Goes n (stays s)
    goes_nowhere t n s good = record { state = good; few = omega arith; sends = tt }

    goes_asked : (t n : ℕ) (s : Backed S C) (c : C) (o : Option C) → f.Fits c → GoodBackup f t n s → Goes n (asked s c o)
    goes_asked t n s c None fits good = record { state = (fits, good.1); few = omega arith; sends = ((omega arith, fits), tt) }
    goes_asked t n s c (Some d) fits good =
        record { state = (good.0, All-push f.Fits s.waiting c good.1 fits); few = omega arith; sends = tt }

    goes_acked : (t n : ℕ) (s : Backed S C) (o : Option C) → GoodBackup f t n s → Goes n (acked m s o)
    goes_acked t n s None good = goes_nowhere t n s good
    goes_acked t n s (Some c) good = record {
      state = (first_fits s.waiting good.1, All-drop f.Fits 1 s.waiting good.1);
      few = next_few (slice_get s.waiting 0);
      sends = next_sent n (slice_get s.waiting 0) (first_fits s.waiting good.1);
    }

    goes_message : (t n : ℕ) (s : Backed S C) (from : ℕ) (x : PbMsg C) → GoodBackup f t n s
        → Goes n ((primary_backup m).message n s from x)
    goes_message t n s from (msg.Apply c) good =
        goes_unless n (n == 0) (stays s) (applied m s c) (goes_nowhere t n s good)
        (record { state = good; few = omega arith; sends = ((omega arith, tt), tt) })
    goes_message t n s from msg.Ack good = goes_unless n (n == 0) (acked m s s.out) (stays s) (goes_acked t n s s.out good)
        (goes_nowhere t n s good)

    pub backup_deals : DealsInBytes (HasBackup f) 1 nothing_saved f.Fits (primary_backup m) (no_recovery {S = Backed S C}) (GoodBackup f)
    backup_deals = record {
      init = λ n below. (tt, All-nil f.Fits);
      later = λ t n s good. good;
      input = λ t n s c few below takes fits good.
          goes_unless n (n == 0) (asked s c s.out) (redirected s) (goes_asked t n s c s.out fits good)
          (record { state = good; few = omega arith; sends = tt });
      message = λ t n s from x few below from_below has good. goes_message t n s from x good;
      timeout = λ t n s few below good. goes_nowhere t n s good;
      keep = λ t n s below good. tt;
      reboot = λ t n s below good. good;
    }
