-- The stacks whose nodes keep logs: a line for each, with how the commands in its logs are spelled.
use Rattle.std.specs.Prelude.{List, [], ◌∷◌}
use Rattle.vst_base.specs.declared.stack.StackId.{StackId}
use Rattle.vst_base.specs.declared.stack.StackId.TheVariants as stack
use Rattle.wire_fields.specs.Formats.{Format}
use Rattle.wire_messages.specs.KvBytes.{kv_command}
use Rattle.wire_messages.specs.TableBytes.{table_command}

-- a stack, and the format of its commands
pub record Logged : Type 1 where
  pub Command : Type 0
  pub stack : StackId
  pub format : Format Command

abbrev pub logged : {C : Type 0} → StackId → Format C → Logged
logged {C} s f = record { Command = C; stack = s; format = f }

abbrev pub logged_stacks : List Logged
logged_stacks =
    logged stack.KvRaft kv_command
    ∷ logged stack.TableRaft table_command
    ∷ logged stack.KvRaftRead kv_command
    ∷ logged stack.TableRaftRead table_command
    ∷ []
