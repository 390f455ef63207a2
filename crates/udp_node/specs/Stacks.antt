-- The same of a node by its stack: the table of locks, or the key-value store.
use Rattle.std.specs.Prelude.{ℕ, Option}
use Rattle.kv_machine.specs.Kv.{kv}
use Rattle.lock_table.specs.Table.{table}
use Rattle.node_config.specs.declared.config.Config.{Config}
use Rattle.node_device.specs.Telling.{Told}
use Rattle.slots.specs.Opening.{Why}
use Rattle.udp_node.specs.Serving.{EndsWith, HasServed, found_in, refusal_in}
use Rattle.udp_node.specs.declared.fault.NodeFault.{NodeFault}
use Rattle.vst_base.specs.declared.stack.StackId.{StackId}
use Rattle.vst_base.specs.declared.stack.StackId.TheVariants as stack
use Rattle.wire_messages.specs.KvBytes.{kv_command, kv_output}
use Rattle.wire_messages.specs.TableBytes.{table_command, table_output}

abbrev pub ServedOn : StackId → Config → ℕ → Told → Told → Type 0
ServedOn stack.TableRaft config = HasServed stack.TableRaft config table table_command table_output
ServedOn _ config = HasServed stack.KvRaft config kv kv_command kv_output

abbrev pub EndedOn : StackId → Config → NodeFault → ℕ → Told → Told → Type 0
EndedOn stack.TableRaft config = EndsWith stack.TableRaft config table table_command table_output
EndedOn _ config = EndsWith stack.KvRaft config kv kv_command kv_output

-- why its areas are refused, if they are
abbrev pub refused_areas : StackId → Config → Told → Option Why
refused_areas stack.TableRaft config before = refusal_in (found_in stack.TableRaft config table_command before)
refused_areas _ config before = refusal_in (found_in stack.KvRaft config kv_command before)
