-- The inputs of made schedules, from a random word x and the step's place i. Division drops the rest.
use Rattle.std.specs.Prelude.{ℕ, ◌/◌, ◌%◌, ◌==◌, List, ◌++◌, None, codes, if◌then◌else◌}
use Rattle.std.specs.Fmt.{decimal}
use Rattle.kv_machine.specs.declared.cmd.KvCmd.{KvCmd}
use Rattle.kv_machine.specs.declared.cmd.KvCmd.TheVariants.{Get, Put, Del, Cas}
use Rattle.lock_table.specs.declared.cmd.TableCmd.{TableCmd}
use Rattle.lock_table.specs.declared.cmd.TableCmd.TheVariants.{Acquire, Release, Holder}
use Rattle.vst_base.specs.declared.mirror.MirrorInput.{MirrorInput}
use Rattle.vst_base.specs.declared.mirror.MirrorInput.TheVariants as mirror
use Rattle.raft_types.specs.declared.client.RaftInput.{RaftInput}
use Rattle.vst_base.specs.declared.lock.LockInput.{LockInput}
use Rattle.vst_base.specs.declared.lock.LockInput.TheVariants.{Lock, Unlock}

-- an even word locks
abbrev pub lock_input : ℕ → ℕ → LockInput
lock_input x i = if x % 2 == 0 then Lock else Unlock

-- keys k0 to k7, and values v and the place
abbrev pub kv_key : ℕ → List ℕ
kv_key x = codes "k" ++ decimal (x % 8)

abbrev pub kv_value : ℕ → List ℕ
kv_value i = codes "v" ++ decimal i

abbrev pub kv_input : ℕ → ℕ → KvCmd
kv_input x i =
    let choice = x / 8 % 4 in
    if choice == 0 then Get (kv_key x)
    else if choice == 1 then Put (kv_key x) (kv_value i)
    else if choice == 2 then Del (kv_key x)
    else Cas (kv_key x) None (kv_value i)

-- names l0 to l7, and owners o0 to o3
abbrev pub lock_name : ℕ → List ℕ
lock_name x = codes "l" ++ decimal (x % 8)

abbrev pub lock_owner : ℕ → List ℕ
lock_owner x = codes "o" ++ decimal (x / 64 % 4)

abbrev pub table_input : ℕ → ℕ → TableCmd
table_input x i =
    let choice = x / 8 % 3 in
    if choice == 0 then Acquire (lock_name x) (lock_owner x)
    else if choice == 1 then Release (lock_name x) (lock_owner x)
    else Holder (lock_name x)

-- such a value, v and the place, is put
abbrev pub mirror_input : ℕ → ℕ → MirrorInput
mirror_input x i = mirror.Put (kv_value i)

-- one of four clients asks, and numbers the request by the place
abbrev pub asked_by_client : {C : Type 0} → (ℕ → ℕ → C) → ℕ → ℕ → RaftInput C
asked_by_client cmd x i = record { client = x / 256 % 4; request = i; cmd = cmd x i }
