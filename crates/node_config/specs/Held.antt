-- What a table has for each part of a configuration.
use Rattle.std.specs.Prelude.{ℕ, ℤ, pos, negsuc, ◌&&◌, nat_le, List, [], ◌∷◌, ◌++◌, length, Option, Some, None, option_and_then, codes, if◌then◌else◌}
use Rattle.outside.specs.declared.device.Address.{Address}
use Rattle.toml.specs.Data.{Data, Items, no_items, item, Members, as_str}
use Rattle.vst_base.specs.Stacks.{stack_named}
use Rattle.vst_base.specs.declared.node.TheConstants.{MAX_NODES}
use Rattle.vst_base.specs.declared.stack.StackId.{StackId}
use Rattle.vst_base.specs.declared.stack.StackId.TheVariants as stack
use Rattle.node_config.specs.Addresses.{address_of, are_distinct}
use Rattle.node_config.specs.Entries.{string_at, integer_at, array_at}
use Rattle.node_config.specs.Names.{name_of}
use Rattle.node_config.specs.declared.limits.TheConstants.{MAX_CLIENTS, MAX_PERIOD}

infixl 10 ◌>>=◌
abbrev ◌>>=◌ : {A B : Type 0} → Option A → (A → Option B) → Option B
o >>= f = option_and_then f o

-- the stack, where a node runs it
abbrev pub on_a_node : StackId → Option StackId
on_a_node stack.KvRaft = Some stack.KvRaft
on_a_node stack.TableRaft = Some stack.TableRaft
on_a_node _ = None

unfoldable pub stack_in : Members → Option StackId
stack_in t = do
  word ← string_at (codes "stack") t
  named ← stack_named word
  on_a_node named

-- the address that a value is, if it is a string that spells one, and those of each item
unfoldable pub item_address : Data → Option Address
item_address d = as_str d >>= address_of

abbrev pub addresses_of : Items → Option (List Address)
addresses_of no_items = Some []
addresses_of (item d ds) = do
  address ← item_address d
  others ← addresses_of ds
  Some (address ∷ others)

-- the same at a key, if they are so many
unfoldable pub addresses_in : ℕ → ℕ → List ℕ → Members → Option (List Address)
addresses_in least most key t = do
  items ← array_at key t
  addresses ← addresses_of items
  if nat_le least (length addresses) && nat_le (length addresses) most then Some addresses else None

unfoldable pub peers_in : Members → Option (List Address)
peers_in t = addresses_in 1 MAX_NODES (codes "peers") t

-- the clients, if no two of them and of the peers are equal
unfoldable pub clients_in : List Address → Members → Option (List Address)
clients_in peers t = do
  clients ← addresses_in 0 MAX_CLIENTS (codes "clients") t
  if are_distinct (peers ++ clients) then Some clients else None

-- so many milliseconds
abbrev pub period_of : ℤ → Option ℕ
period_of (pos ms) = if nat_le 1 ms && nat_le ms MAX_PERIOD then Some ms else None
period_of (negsuc n) = None

unfoldable pub period_in : List ℕ → Members → Option ℕ
period_in key t = integer_at key t >>= period_of

unfoldable pub cluster_in : Members → Option (List ℕ)
cluster_in t = string_at (codes "cluster") t >>= name_of
