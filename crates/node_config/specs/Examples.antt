-- Tables and texts whose configurations were worked out by hand.
use Rattle.std.specs.Prelude.{ℕ, pos, List, [], ◌∷◌, ◌++◌, codes, bytes_eq, if◌then◌else◌}
use Rattle.outside.specs.declared.device.Address.{Address}
use Rattle.toml.specs.Data.{Data, string, integer, array, Items, no_items, item, Members, no_members, member}
use Rattle.vst_base.specs.declared.stack.StackId.TheVariants as stack
use Rattle.node_config.specs.Configs.{config_as}
use Rattle.node_config.specs.declared.config.Config.{Config}

-- a port of 127.0.0.1, and its text
abbrev pub local : ℕ → Address
local port = record { ip = 127 ∷ 0 ∷ 0 ∷ 1 ∷ []; port = port }

abbrev pub first : List ℕ
first = codes "127.0.0.1:7000"

abbrev pub second : List ℕ
second = codes "127.0.0.1:7001"

abbrev pub third : List ℕ
third = codes "127.0.0.1:7002"

abbrev pub string_items : List (List ℕ) → Items
string_items [] = no_items
string_items (t ∷ ts) = item (string t) (string_items ts)

abbrev pub strings : List (List ℕ) → Data
strings texts = array (string_items texts)

-- the table of three peers and no clients
abbrev pub sample : Members
sample =
    member (codes "clients") (array no_items) (
    member (codes "cluster") (string (codes "000102030405060708090a0b0c0d0e0f")) (
    member (codes "election_ms") (integer (pos 300)) (
    member (codes "heartbeat_ms") (integer (pos 50)) (
    member (codes "peers") (strings (first ∷ second ∷ third ∷ [])) (
    member (codes "stack") (string (codes "kv/raft")) no_members)))))

-- the table with another value at a key, and without a key
abbrev pub holding : List ℕ → Data → Members → Members
holding key d no_members = no_members
holding key d (member k e t) = if bytes_eq key k then member k d t else member k e (holding key d t)

abbrev pub without : List ℕ → Members → Members
without key no_members = no_members
without key (member k d t) = if bytes_eq key k then t else member k d (without key t)

abbrev pub name : List ℕ
name = 0 ∷ 1 ∷ 2 ∷ 3 ∷ 4 ∷ 5 ∷ 6 ∷ 7 ∷ 8 ∷ 9 ∷ 10 ∷ 11 ∷ 12 ∷ 13 ∷ 14 ∷ 15 ∷ []

-- its configuration at a node, and with these clients
abbrev pub sample_with : ℕ → List Address → Config
sample_with me clients = config_as stack.KvRaft me (local 7000 ∷ local 7001 ∷ local 7002 ∷ []) clients 50 300 name

-- the text of the table, and its lines but the stack's
abbrev pub sample_rest : List ℕ
sample_rest =
    codes "peers = [\"127.0.0.1:7000\", \"127.0.0.1:7001\", \"127.0.0.1:7002\"]\nclients = []\nheartbeat_ms = 50\nelection_ms = 300\n"
    ++ codes "cluster = \"000102030405060708090a0b0c0d0e0f\"\n"

abbrev pub sample_text : List ℕ
sample_text = codes "stack = \"kv/raft\"\n" ++ sample_rest
