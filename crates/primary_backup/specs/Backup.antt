-- Primary-backup as a function on machines: node 0 is the primary, node 1 the backup.
use Rattle.std.specs.Prelude.{ℕ, true, ◌==◌, List, [], ◌∷◌, ◌++◌, Option, Some, None, if◌then◌else◌, slice_get, drop}
use Rattle.handler_trait.specs.Handling.{Meaning, Effect}
use Rattle.vst_base.specs.Machines.{MachineMeaning}
use Rattle.vst_base.specs.declared.pb_msg.PbMsg.{PbMsg}
use Rattle.vst_base.specs.declared.pb_msg.PbMsg.TheVariants as msg
use Rattle.vst_base.specs.declared.pb_out.PbOut.{PbOut}
use Rattle.vst_base.specs.declared.pb_out.PbOut.TheVariants as told

-- the machine's state, the request that is out, if one is, and those that wait after it
pub record Backed (S C : Type 0) : Type 0 where
  pub machine : S
  pub out : Option C
  pub waiting : List C

abbrev pub BackupEffect : Type 0 → Type 0 → Type 0 → Type 0
BackupEffect S C O = Effect (Backed S C) (PbOut O) (PbMsg C)

-- the backup is to apply a command, if there is one
abbrev pub apply_of : {C : Type 0} → Option C → List (ℕ × PbMsg C)
apply_of None = []
apply_of (Some c) = (1, msg.Apply c) ∷ []

module _ {S C O : Type 0} where
  -- nothing happens
  abbrev pub stays : Backed S C → BackupEffect S C O
  stays s = record { state = s; outputs = []; sends = [] }

  -- the primary is asked: the request goes out at once, or waits after the one that is out
  abbrev pub asked : Backed S C → C → Option C → BackupEffect S C O
  asked s c None = record {
    state = record { machine = s.machine; out = Some c; waiting = s.waiting };
    outputs = [];
    sends = apply_of (Some c);
  }
  asked s c (Some d) = record {
    state = record { machine = s.machine; out = s.out; waiting = s.waiting ++ c ∷ [] };
    outputs = [];
    sends = [];
  }

  -- the backup has applied the request that is out: the primary does so too, replies, and sends the next
  abbrev pub acked : MachineMeaning S C O → Backed S C → Option C → BackupEffect S C O
  acked m s None = stays s
  acked m s (Some c) = record {
    state = record { machine = (m.apply s.machine c).0; out = slice_get s.waiting 0; waiting = drop 1 s.waiting };
    outputs = told.Reply (m.apply s.machine c).1 ∷ [];
    sends = apply_of (slice_get s.waiting 0);
  }

  -- the backup applies a command, and says so
  abbrev pub applied : MachineMeaning S C O → Backed S C → C → BackupEffect S C O
  applied m s c = record {
    state = record { machine = (m.apply s.machine c).0; out = s.out; waiting = s.waiting };
    outputs = [];
    sends = (0, msg.Ack) ∷ [];
  }

  abbrev pub redirected : Backed S C → BackupEffect S C O
  redirected s = record { state = s; outputs = told.Redirect ∷ []; sends = [] }

  -- a message comes to a node
  abbrev pub backup_message : MachineMeaning S C O → ℕ → Backed S C → PbMsg C → BackupEffect S C O
  backup_message m n s (msg.Apply c) = if n == 0 then stays s else applied m s c
  backup_message m n s msg.Ack = if n == 0 then acked m s s.out else stays s

  abbrev pub primary_backup : MachineMeaning S C O → Meaning (Backed S C) C (PbOut O) (PbMsg C)
  primary_backup m = record {
    nodes = 2;
    takes_input = λ n. true;
    init = λ n. record { machine = m.init; out = None; waiting = [] };
    input = λ n s c. if n == 0 then asked s c s.out else redirected s;
    message = λ n s from p. backup_message m n s p;
    timeout = λ n s. stays s;
  }
