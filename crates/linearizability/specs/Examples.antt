-- What a client asks and is told, for worked rows.
use Rattle.std.specs.Prelude.{ℕ}
use Rattle.vst_base.specs.declared.step.Item.{Item}
use Rattle.vst_base.specs.declared.step.Item.TheVariants as item
use Rattle.raft_types.specs.declared.client.RaftInput.{RaftInput}
use Rattle.raft_types.specs.declared.client.RaftOut.{RaftOut}
use Rattle.raft_types.specs.declared.client.RaftOut.TheVariants as told

-- a client asks for a number to be added
abbrev pub asks : ℕ → ℕ → ℕ → RaftInput ℕ
asks client request cmd = record { client = client; request = request; cmd = cmd }

-- it asks a node
abbrev pub put_at : ℕ → RaftInput ℕ → Item (RaftInput ℕ) (RaftOut ℕ)
put_at node i = item.Input node i

-- it asks node 0
abbrev pub put : RaftInput ℕ → Item (RaftInput ℕ) (RaftOut ℕ)
put i = item.Input 0 i

-- a node tells a client the sum before
abbrev pub tell_at : ℕ → ℕ → ℕ → ℕ → Item (RaftInput ℕ) (RaftOut ℕ)
tell_at node client request sum = item.Output node (told.Reply client request sum)

-- node 0 tells a client the sum before
abbrev pub tell : ℕ → ℕ → ℕ → Item (RaftInput ℕ) (RaftOut ℕ)
tell client request sum = item.Output 0 (told.Reply client request sum)

-- node 0 tells a client that it does not lead
abbrev pub turn_away : ℕ → ℕ → Item (RaftInput ℕ) (RaftOut ℕ)
turn_away client request = item.Output 0 (told.NotLeader client request)

-- node 0 tells a client that its log is full
abbrev pub say_full : ℕ → ℕ → Item (RaftInput ℕ) (RaftOut ℕ)
say_full client request = item.Output 0 (told.Full client request)
