-- What a primary and its backup put out has a text, where their machine's outputs have.
use Rattle.std.specs.Prelude.{ℕ, ◌<◌, ◌==◌, List, [], ◌∷◌, Option, Some, None, slice_get}
use Rattle.std.proofs.Common.{arith}
use Rattle.app_text.specs.PbTexts.{IsPbOutput}
use Rattle.net_semantics.specs.BelowPb.{inputs_at}
use Rattle.net_semantics.specs.Runs.{no_recovery}
use Rattle.primary_backup.specs.Backup.{Backed, BackupEffect, acked, applied, apply_of, asked, primary_backup, redirected, stays}
use Rattle.schedule_text.specs.Spellable.{IsSpellable}
use Rattle.trace_maps.specs.SingleNode.{alone}
use Rattle.vst_base.specs.Machines.{MachineMeaning}
use Rattle.vst_base.specs.declared.net.Net.TheVariants as net
use Rattle.vst_base.specs.declared.pb_msg.PbMsg.{PbMsg}
use Rattle.vst_base.specs.declared.pb_msg.PbMsg.TheVariants as msg
use Rattle.vst_base.specs.declared.pb_out.PbOut.{PbOut}
use Rattle.vst_base.specs.declared.step.Item.{Item}
use Rattle.vst_base.specs.declared.step.Item.TheVariants as item
use Rattle.trace_check.specs.Spelled.{IsTextItem}
use Rattle.trace_check.proofs.Eaches.{IfThere, each-at, either}
use Rattle.trace_check.proofs.Machines.{MachineKeeps}
use Rattle.trace_check.proofs.Runs.{IsFine, KeepsTexts}
use Rattle.lists.specs.Each.{Each, each_append, each_drop}

module _ {S C O : Type 0} (m : MachineMeaning S C O) (HasIn : C → Type 0) (HasOut : O → Type 0) (Sound : S → Type 0) (keeps : MachineKeeps m HasIn HasOut Sound) where
  -- the requests that a node remembers have texts, and so have those that are sent
  abbrev pub IsTextBacked : ℕ → Backed S C → Type 0
  IsTextBacked n s = Sound s.machine × IfThere HasIn s.out × Each HasIn s.waiting

  abbrev pub IsTextMsg : PbMsg C → Type 0
  IsTextMsg (msg.Apply c) = HasIn c
  IsTextMsg msg.Ack = Unit {0}

  abbrev IsBackupFine : ℕ → BackupEffect S C O → Type 0
  IsBackupFine n e = IsFine net.Bag (primary_backup m) (no_recovery {S = Backed S C}) HasIn (IsPbOutput HasOut) IsTextBacked IsTextMsg n e

  next-fine : (o : Option C) → IfThere HasIn o → Each (λ (p : ℕ × PbMsg C). (p.0 < 2) × IsTextMsg p.1) (apply_of o)
  next-fine None has = tt
  next-fine (Some c) has = ((omega arith, has), tt)

  stays-fine : (n : ℕ) (s : Backed S C) → IsTextBacked n s → IsBackupFine n (stays s)
  stays-fine n s sound = record { state = sound; outputs = tt; sends = tt }

  asked-fine : (n : ℕ) (s : Backed S C) (c : C) (o : Option C) → IsTextBacked n s → HasIn c → IsBackupFine n (asked s c o)
  asked-fine n s c None sound has = record { state = (sound.0, has, sound.2); outputs = tt; sends = next-fine (Some c) has }
  asked-fine n s c (Some d) sound has = record { state = (sound.0, sound.1, each_append HasIn s.waiting (c ∷ []) sound.2 (has, tt)); outputs = tt; sends = tt }

  acked-fine : (n : ℕ) (s : Backed S C) (o : Option C) → IsTextBacked n s → IfThere HasIn o → IsBackupFine n (acked m s o)
  acked-fine n s None sound has = stays-fine n s sound
  acked-fine n s (Some c) sound has =
      let next = each-at HasIn s.waiting 0 sound.2 in
      record {
        state = (keeps.state s.machine c sound.0 has, next, each_drop HasIn 1 s.waiting sound.2);
        outputs = (keeps.output s.machine c sound.0 has, tt);
        sends = next-fine (slice_get s.waiting 0) next;
      }

  applied-fine : (n : ℕ) (s : Backed S C) (c : C) → IsTextBacked n s → HasIn c → IsBackupFine n (applied m s c)
  applied-fine n s c sound has = record { state = (keeps.state s.machine c sound.0 has, sound.1, sound.2); outputs = tt; sends = ((omega arith, tt), tt) }

  input-fine : (n : ℕ) (s : Backed S C) (c : C) → IsTextBacked n s → HasIn c → IsBackupFine n ((primary_backup m).input n s c)
  input-fine n s c sound has = either (IsBackupFine n) (n == 0) (asked s c s.out) (redirected s) (asked-fine n s c s.out sound has) (record { state = sound; outputs = (tt, tt); sends = tt })

  message-fine : (n : ℕ) (s : Backed S C) (from : ℕ) (p : PbMsg C) → IsTextBacked n s → IsTextMsg p → IsBackupFine n ((primary_backup m).message n s from p)
  message-fine n s from (msg.Apply c) sound has = either (IsBackupFine n) (n == 0) (stays s) (applied m s c) (stays-fine n s sound) (applied-fine n s c sound has)
  message-fine n s from msg.Ack sound has = either (IsBackupFine n) (n == 0) (acked m s s.out) (stays s) (acked-fine n s s.out sound sound.1) (stays-fine n s sound)

  pub backup-keeps : KeepsTexts net.Bag (primary_backup m) (no_recovery {S = Backed S C}) HasIn (IsPbOutput HasOut) IsTextBacked IsTextMsg
  backup-keeps = record {
    init = λ n. (keeps.init, tt, tt);
    input = λ n s c below sound has. input-fine n s c sound has;
    message = λ n s from p below from_below sound fine. message-fine n s from p sound fine;
    timeout = λ n s below sound. stays-fine n s sound;
    reboot = λ n s sound. sound;
  }

-- the inputs of a trace have texts, and so do the steps of a machine alone that takes them
pub inputs-text : {C O : Type 0} (nodes n : ℕ) (HasIn : C → Type 0) (HasOut : PbOut O → Type 0) (items : List (Item C (PbOut O))) → Each (IsTextItem nodes HasIn HasOut) items → Each HasIn (inputs_at n items)
inputs-text nodes n HasIn HasOut [] all = tt
inputs-text nodes n HasIn HasOut (item.Input k c ∷ items) all = let rest = inputs-text nodes n HasIn HasOut items all.1 in either (Each HasIn) (k == n) (c ∷ inputs_at n items) (inputs_at n items) (all.0.1, rest) rest
inputs-text nodes n HasIn HasOut (item.Output k o ∷ items) all = inputs-text nodes n HasIn HasOut items all.1

pub alone-spellable : {C : Type 0} (HasIn : C → Type 0) (cs : List C) → Each HasIn cs → Each (IsSpellable HasIn) (alone cs)
alone-spellable HasIn [] all = tt
alone-spellable HasIn (c ∷ cs) all = ((omega arith, all.0), alone-spellable HasIn cs all.1)
