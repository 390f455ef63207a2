-- The line on the output after the last turn, and those on the error stream where there is none.
use Rattle.std.specs.Prelude.{ℕ, List, ◌∷◌, ◌++◌, codes}
use Rattle.hex.specs.Hex.{encode_lower}
use Rattle.node_body.specs.declared.why.Why.{Why}
use Rattle.node_body.specs.declared.why.Why.TheVariants as why
use Rattle.node_config.specs.Keys.{key_word}
use Rattle.node_config.specs.declared.key.ConfigKey.{ConfigKey}
use Rattle.node_state.specs.declared.opening.Refusal.{Refusal}
use Rattle.node_state.specs.declared.opening.Refusal.TheVariants as refusal
use Rattle.commands.specs.Lines.{memory_line, read_failed_line}
use Rattle.schedule_text.specs.Printing.{as_line, numbered}
use Rattle.udp_node.specs.declared.fault.NodeFault.TheVariants as fault
use Rattle.commands.specs.declared.trouble.Trouble.{Trouble}
use Rattle.commands.specs.declared.trouble.Trouble.TheVariants as trouble

abbrev pub turns_line : ℕ → List ℕ
turns_line turns = as_line (numbered (codes "turns") turns)

abbrev pub config_line : ConfigKey → List ℕ
config_line key = as_line (codes "config: " ++ key_word key)

-- a word, and the two numbers or names that differ: what is kept, and what is configured
abbrev pub differing : List ℕ → ℕ → ℕ → List ℕ
differing word kept configured = numbered (numbered word kept) configured

abbrev pub differing_names : List ℕ → List ℕ → List ℕ
differing_names kept configured = codes "name " ++ encode_lower kept ++ 32 ∷ encode_lower configured

abbrev pub slot_text : Why → List ℕ
slot_text why.Slot = codes "slot"
slot_text why.Body = codes "body"
slot_text why.Journal = codes "journal"
slot_text (why.Stack kept configured) = differing (codes "stack") kept configured
slot_text (why.Node kept configured) = differing (codes "node") kept configured
slot_text (why.Cluster kept configured) = differing (codes "cluster") kept configured
slot_text (why.Name kept configured) = differing_names kept configured

abbrev pub refusal_text : Refusal → List ℕ
refusal_text refusal.Selector = codes "selector"
refusal_text (refusal.Slot why) = slot_text why

abbrev pub state_line : Refusal → List ℕ
state_line why = as_line (codes "state: " ++ refusal_text why)

-- the status of each trouble, and its line
abbrev pub status_of : Trouble → ℕ
status_of trouble.Read = 4
status_of (trouble.Config key) = 3
status_of trouble.Begin = 6
status_of trouble.Memory = 8
status_of (trouble.Ended fault.Receive) = 6
status_of (trouble.Ended fault.Store) = 7
status_of (trouble.Ended (fault.Refused why)) = 9
status_of (trouble.Ended fault.Memory) = 8

abbrev pub line_of : Trouble → List ℕ
line_of trouble.Read = read_failed_line
line_of (trouble.Config key) = config_line key
line_of trouble.Begin = as_line (codes "open")
line_of trouble.Memory = memory_line
line_of (trouble.Ended fault.Receive) = as_line (codes "receive")
line_of (trouble.Ended fault.Store) = as_line (codes "store")
line_of (trouble.Ended (fault.Refused why)) = state_line why
line_of (trouble.Ended fault.Memory) = memory_line
