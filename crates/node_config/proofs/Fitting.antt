-- Each configuration is in its ranges.
use Rattle.std.specs.Prelude.{◌≡◌, ℕ, ℤ, pos, negsuc, ◌≤◌, ◌&&◌, Bool, true, false, nat_le, nat_lt, List, [], ◌∷◌, ◌++◌, length, Option, Some, None, Result, Ok, Err, codes, cond, refl}
use Rattle.std.specs.List.{list_all}
use Rattle.std.proofs.Common.{subst}
use Rattle.std.proofs.lemmas.Bool.{and_parts, and_from, le-leb, leb-true, ltb-true}
use Rattle.std.proofs.lemmas.Option.{cond_some, option_and_then_some, same_Some}
use Rattle.outside.specs.declared.device.Address.{Address}
use Rattle.toml.specs.Data.{Data, Items, no_items, item, Members, as_str}
use Rattle.vst_base.specs.Stacks.{stack_named}
use Rattle.vst_base.specs.declared.node.TheConstants.{MAX_NODES}
use Rattle.vst_base.specs.declared.stack.StackId.{StackId}
use Rattle.vst_base.specs.declared.stack.StackId.TheVariants as stack
use Rattle.node_config.specs.Addresses.{address_of, are_distinct}
use Rattle.node_config.specs.Configs.{config_as, config_of, configured, need, of_a_peer, ◌>>=◌}
use Rattle.node_config.specs.Entries.{are_known, array_at, integer_at, string_at}
use Rattle.node_config.specs.Held.{addresses_in, addresses_of, clients_in, cluster_in, item_address, on_a_node, peers_in, period_in, period_of, stack_in}
use Rattle.node_config.specs.Outcomes.{Fits, IsPeriod, has_port}
use Rattle.node_config.specs.declared.config.Config.{Config}
use Rattle.node_config.specs.declared.key.ConfigKey.{ConfigKey}
use Rattle.node_config.specs.declared.key.ConfigKey.TheVariants as key
use Rattle.node_config.specs.declared.limits.TheConstants.{MAX_CLIENTS, MAX_PERIOD}
use Rattle.node_config.proofs.Spelling.{address-parts}

-- what a key needs is there, where there is a configuration
needed : {A B P : Type 0} (k : ConfigKey) (o : Option A) (rest : A → Result B ConfigKey) (b : B) → (need k o >>= rest) ≡ Ok b → ((a : A) → o ≡ Some a → rest a ≡ Ok b → P) → P
needed k None rest b e go = let no : ⊥ = cc in absurd no
needed k (Some a) rest b e go = go a refl e

ok_if : {B : Type 0} (t : Bool) (k : ConfigKey) (r : Result B ConfigKey) (b : B) → cond t r (Err k) ≡ Ok b → (t ≡ true) × (r ≡ Ok b)
ok_if true k r b e = (refl, e)
ok_if false k r b e = let no : ⊥ = cc in absurd no

-- a stack
on_a_node-fits : (s r : StackId) → on_a_node s ≡ Some r → on_a_node r ≡ Some r
on_a_node-fits stack.KvRaft r e = subst (λ x. on_a_node x ≡ Some x) (same_Some _ _ e) refl
on_a_node-fits stack.TableRaft r e = subst (λ x. on_a_node x ≡ Some x) (same_Some _ _ e) refl
on_a_node-fits _ r e = let no : ⊥ = cc in absurd no

stack-fits : (t : Members) (r : StackId) → stack_in t ≡ Some r → on_a_node r ≡ Some r
unfolding stack_in
stack-fits t r e =
    option_and_then_some _ (string_at (codes "stack") t) r e (λ word _ e1.
    option_and_then_some on_a_node (stack_named word) r e1 (λ s _ e2. on_a_node-fits s r e2))

-- ports
address-fits : (text : List ℕ) (a : Address) → address_of text ≡ Some a → has_port a ≡ true
address-fits text a e = le-leb 1 a.port (address-parts text a e).has_text.some

item-fits : (d : Data) (a : Address) → item_address d ≡ Some a → has_port a ≡ true
unfolding item_address
item-fits d a e = option_and_then_some address_of (as_str d) a e (λ text _ is. address-fits text a is)

items-fit : (ds : Items) (found : List Address) → addresses_of ds ≡ Some found → list_all has_port found ≡ true
items-fit no_items found e = subst (λ xs. list_all has_port xs ≡ true) (same_Some _ _ e) refl
items-fit (item d ds) found e =
    option_and_then_some _ (item_address d) found e (λ a a_is e1.
    option_and_then_some _ (addresses_of ds) found e1 (λ others others_are e2.
    subst (λ xs. list_all has_port xs ≡ true) (same_Some _ _ e2) (and_from _ _ (item-fits d a a_is) (items-fit ds others others_are))))

-- addresses at a key
record AreSoMany (least most : ℕ) (found : List Address) : Type 0 where
  enough : least ≤ length found
  few : length found ≤ most
  ports : list_all has_port found ≡ true

addresses-fit : (least most : ℕ) (k : List ℕ) (t : Members) (found : List Address) → addresses_in least most k t ≡ Some found → AreSoMany least most found
unfolding addresses_in
addresses-fit least most k t found e =
    option_and_then_some _ (array_at k t) found e (λ ds _ e1.
    option_and_then_some _ (addresses_of ds) found e1 (λ xs xs_are e2.
    let parts = cond_some (nat_le least (length xs) && nat_le (length xs) most) xs found e2 in
    let both = and_parts (nat_le least (length xs)) (nat_le (length xs) most) parts.0 in
    subst (AreSoMany least most) parts.1 (record { enough = leb-true _ _ both.0; few = leb-true _ _ both.1; ports = items-fit ds xs xs_are })))

peers-fit : (t : Members) (found : List Address) → peers_in t ≡ Some found → AreSoMany 1 MAX_NODES found
unfolding peers_in
peers-fit t found e = addresses-fit 1 MAX_NODES (codes "peers") t found e

record AreClients (peers clients : List Address) : Type 0 where
  so_many : AreSoMany 0 MAX_CLIENTS clients
  distinct : are_distinct (peers ++ clients) ≡ true

clients-fit : (peers : List Address) (t : Members) (found : List Address) → clients_in peers t ≡ Some found → AreClients peers found
unfolding clients_in
clients-fit peers t found e =
    option_and_then_some _ (addresses_in 0 MAX_CLIENTS (codes "clients") t) found e (λ xs xs_are e1.
    let parts = cond_some (are_distinct (peers ++ xs)) xs found e1 in
    subst (AreClients peers) parts.1 (record { so_many = addresses-fit 0 MAX_CLIENTS (codes "clients") t xs xs_are; distinct = parts.0 }))

-- periods
period_of-fits : (z : ℤ) (ms : ℕ) → period_of z ≡ Some ms → IsPeriod ms
period_of-fits (pos n) ms e =
    let parts = cond_some (nat_le 1 n && nat_le n MAX_PERIOD) n ms e in
    let both = and_parts (nat_le 1 n) (nat_le n MAX_PERIOD) parts.0 in
    subst IsPeriod parts.1 (leb-true _ _ both.0, leb-true _ _ both.1)
period_of-fits (negsuc n) ms e = let no : ⊥ = cc in absurd no

period-fits : (k : List ℕ) (t : Members) (ms : ℕ) → period_in k t ≡ Some ms → IsPeriod ms
unfolding period_in
period-fits k t ms e = option_and_then_some period_of (integer_at k t) ms e (λ z _ is. period_of-fits z ms is)

-- both lists
all-append : (xs ys : List Address) → list_all has_port xs ≡ true → list_all has_port ys ≡ true → list_all has_port (xs ++ ys) ≡ true
all-append [] ys e f = f
all-append (x ∷ xs) ys e f =
    let parts = and_parts (has_port x) (list_all has_port xs) e in
    and_from _ _ parts.0 (all-append xs ys parts.1 f)

-- the configuration that has these parts
config-with : (me : ℕ) (config : Config) (s : StackId) (peers clients : List Address) (h e : ℕ) (n : List ℕ)
    → on_a_node s ≡ Some s → AreSoMany 1 MAX_NODES peers → AreClients peers clients → IsPeriod h → IsPeriod e
    → of_a_peer (config_as s me peers clients h e n) ≡ Ok config → Fits me config
config-with me config s peers clients h e n s_fits p_fits c_fits h_fits e_fits is =
    let made : Config = config_as s me peers clients h e n in
    let parts = ok_if (nat_lt me (length peers)) key.Me (Ok made) config is in
    let same : made ≡ config = cc parts.1 in
    subst (Fits me) same (record {
      stack = s_fits;
      me_is = refl;
      within = ltb-true me (length peers) parts.0;
      peers = p_fits.few;
      clients = c_fits.so_many.few;
      ports = all-append peers clients p_fits.ports c_fits.so_many.ports;
      distinct = c_fits.distinct;
      heartbeat = h_fits;
      election = e_fits;
    })

pub config-fits : (me : ℕ) (t : Members) (config : Config) → config_of me t ≡ Ok config → Fits me config
unfolding config_of
config-fits me t config is =
    needed key.Stack (stack_in t) _ config is (λ s s_is is1.
    needed key.Peers (peers_in t) _ config is1 (λ peers p_is is2.
    needed key.Clients (clients_in peers t) _ config is2 (λ clients c_is is3.
    needed key.HeartbeatMs (period_in (codes "heartbeat_ms") t) _ config is3 (λ h h_is is4.
    needed key.ElectionMs (period_in (codes "election_ms") t) _ config is4 (λ e e_is is5.
    needed key.Cluster (cluster_in t) _ config is5 (λ n n_is is6.
    config-with me config s peers clients h e n (stack-fits t s s_is) (peers-fit t peers p_is) (clients-fit peers t clients c_is)
    (period-fits (codes "heartbeat_ms") t h h_is) (period-fits (codes "election_ms") t e e_is)
    (ok_if (are_known t) key.Unknown _ config is6).1))))))

-- whatever text it came from
pub configured-fits : (me : ℕ) (text : List ℕ) (config : Config) → configured me text ≡ Ok config → Fits me config
unfolding configured
configured-fits me text config is = needed key.Text _ (config_of me) config is (λ t _ is1. config-fits me t config is1)
