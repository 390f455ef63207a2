-- Clusters whose reads take no entry of the log, over a machine that adds numbers of eight bytes: to add nothing is to read.
use Rattle.std.specs.Prelude.{ℕ, List, [], ◌∷◌, ◌++◌}
use Rattle.handler_trait.specs.Handling.{Effect, Meaning, Recovery}
use Rattle.raft_reads.specs.Examples.{counting}
use Rattle.raft_reads.specs.ReadRaft.{read_recovery}
use Rattle.raft_reads.specs.Reads.{ReadView}
use Rattle.raft_types.specs.Messages.{KeptView}
use Rattle.raft_types.specs.declared.client.RaftInput.{RaftInput}
use Rattle.raft_types.specs.declared.client.RaftOut.{RaftOut}
use Rattle.raft_xform.specs.Examples.{asked}
use Rattle.vst_base.specs.Examples.{counter}
use Rattle.vst_base.specs.declared.stack.StackId.TheVariants as stack
use Rattle.vst_base.specs.declared.step.Step.{Step}
use Rattle.vst_base.specs.declared.step.Step.TheVariants as step
use Rattle.wire_messages.specs.PeerBytes.{any_number}
use Rattle.wire_messages.specs.ReadBytes.{read_message}
use Rattle.wired.specs.RaftSaving.{raft_saving}
use Rattle.wired.specs.Saving.{Saving, Seated, saved, saved_recovery}
use Rattle.wired.specs.Wiring.{no_name, wired}

abbrev pub Reader : Type 0
Reader = ReadView ℕ ℕ ℕ

-- nodes whose packets are bytes, under the byte of kv/raft/read
abbrev pub wired_readers : ℕ → Meaning Reader (RaftInput ℕ) (RaftOut ℕ) (List ℕ)
wired_readers nodes = wired (read_message any_number) stack.KvRaftRead no_name (counting nodes)

-- and that keep bytes
abbrev pub reader_saving : ℕ → Saving (KeptView ℕ)
reader_saving nodes = raft_saving stack.KvRaftRead any_number nodes no_name

abbrev pub saved_readers : ℕ → Meaning (Seated Reader) (RaftInput ℕ) (RaftOut ℕ) (List ℕ)
saved_readers nodes = wired (read_message any_number) stack.KvRaftRead no_name (saved (counting nodes))

abbrev pub readers_recovery : ℕ → Recovery (Seated Reader) (List ℕ)
readers_recovery nodes = saved_recovery (reader_saving nodes) (counting nodes) (read_recovery nodes counter)

-- a number below 256 in four and in eight bytes
abbrev pub in_four : ℕ → List ℕ
in_four n = 0 ∷ 0 ∷ 0 ∷ n ∷ []

abbrev pub in_eight : ℕ → List ℕ
in_eight n = 0 ∷ 0 ∷ 0 ∷ 0 ∷ in_four n

-- the packet of these bytes from one node to another
abbrev pub between : ℕ → ℕ → List ℕ → List ℕ
between from to body = 86 ∷ 2 ∷ 13 ∷ 0 ∷ from ∷ to ∷ (no_name ++ body)

-- AppendEntries of term 1 with commit 1: the index and the term before the entries, the round, and the entries after their number
abbrev pub entries_after : ℕ → ℕ → ℕ → List ℕ → List ℕ
entries_after prev_index prev_term round entries =
    3 ∷ (in_eight 1 ++ in_four prev_index ++ in_eight prev_term ++ in_four 1 ++ in_eight round ++ entries)

-- an answer in term 1 that has all up to index 1, and with these bytes after it
abbrev pub appended_with : List ℕ → List ℕ
appended_with round = 4 ∷ (in_eight 1 ++ 1 ∷ (in_four 1 ++ round))

-- a state, and nothing that is told or sent
abbrev pub nothing_of : Reader → Effect Reader (RaftOut ℕ) (List ℕ)
nothing_of s = record { state = s; outputs = []; sends = [] }

-- a node alone takes a request, stops and starts, and then takes a read
abbrev pub put_and_read : List (Step (RaftInput ℕ))
put_and_read =
    step.Tick 0 ∷ step.In 0 (asked 1 5) ∷ step.Crash 0 ∷ step.Reboot 0 ∷ step.Tick 0 ∷ step.In 0 (asked 2 0) ∷ []
