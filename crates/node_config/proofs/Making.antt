-- What reading a configuration comes to, from its parts.
use Rattle.std.specs.Prelude.{◌≡◌, ℕ, suc, ◌<◌, ◌≤◌, ◌&&◌, Bool, true, false, nat_le, List, length, Option, Some, None, Result, Ok, Err, IfOk, IsUtf8, codes, cond, refl}
use Rattle.std.specs.Str.{is_utf8}
use Rattle.std.proofs.Common.{inl, inr, ap}
use Rattle.std.proofs.lemmas.Bool.{cases_Bool, le-leb}
use Rattle.std.proofs.lemmas.Str.{IsUtf8-from_is_utf8, is_utf8-from_IsUtf8}
use Rattle.outside.specs.declared.device.Address.{Address}
use Rattle.toml.specs.Data.{Members}
use Rattle.toml.specs.Parse.{parse_document}
use Rattle.vst_base.specs.declared.stack.StackId.{StackId}
use Rattle.node_config.specs.Configs.{config_as, config_of, configured, need, of_a_peer, table_of, ◌>>=◌}
use Rattle.node_config.specs.Entries.{are_known}
use Rattle.node_config.specs.Held.{clients_in, cluster_in, peers_in, period_in, stack_in}
use Rattle.node_config.specs.Outcomes.{Comes, Fits, Tells}
use Rattle.node_config.specs.declared.config.Config.{Config}
use Rattle.node_config.specs.declared.fault.ConfigFault.{ConfigFault}
use Rattle.node_config.specs.declared.fault.ConfigFault.TheVariants as fault
use Rattle.node_config.specs.declared.key.ConfigKey.{ConfigKey}
use Rattle.node_config.specs.declared.key.ConfigKey.TheVariants as key
use Rattle.node_config.specs.declared.limits.TheConstants.{MAX_CONFIG}
use Rattle.node_config.proofs.Fitting.{configured-fits}

a-peer : (config : Config) → config.me < length config.peers → of_a_peer config ≡ Ok config
a-peer config within = ap (λ b. let made : Result Config ConfigKey = Ok config in cond b made (Err key.Me)) (le-leb (suc config.me) (length config.peers) within)

-- a table that has each part
pub made : (me : ℕ) (t : Members) (s : StackId) (peers clients : List Address) (h e : ℕ) (n : List ℕ)
    → stack_in t ≡ Some s → peers_in t ≡ Some peers → clients_in peers t ≡ Some clients → period_in (codes "heartbeat_ms") t ≡ Some h → period_in (codes "election_ms") t ≡ Some e → cluster_in t ≡ Some n
    → are_known t ≡ true → me < length peers → config_of me t ≡ Ok (config_as s me peers clients h e n)
unfolding config_of
made me t s peers clients h e n s_is p_is c_is h_is e_is n_is known within =
    rw (s_is, p_is, c_is, h_is, e_is, n_is, known) (a-peer (config_as s me peers clients h e n) within)

-- a text that has a table, and one that has none
table-is : (text : List ℕ) (t : Members) → length text ≤ MAX_CONFIG → IsUtf8 text → parse_document text ≡ Some t → table_of text ≡ Some t
unfolding table_of
table-is text t short utf8 is = rw (le-leb (length text) MAX_CONFIG short, is_utf8-from_IsUtf8 text utf8) is

pub read-table : (me : ℕ) (text : List ℕ) (t : Members) → length text ≤ MAX_CONFIG → IsUtf8 text → parse_document text ≡ Some t → configured me text ≡ config_of me t
unfolding configured
read-table me text t short utf8 is = ap (λ o. need key.Text o >>= config_of me) (table-is text t short utf8 is)

no-table : (text : List ℕ) → (IsUtf8 text → parse_document text ≡ None) → table_of text ≡ None
unfolding table_of
no-table text refused = elim (cases_Bool (is_utf8 text)) [
  | inl same ↦ by-parts (nat_le (length text) MAX_CONFIG) (is_utf8 text) (parse_document text) (refused (IsUtf8-from_is_utf8 text same))
  | inr other ↦ not-utf8 (nat_le (length text) MAX_CONFIG) (is_utf8 text) (parse_document text) other
] where
  by-parts : (a b : Bool) (o : Option Members) → o ≡ None → cond (a && b) o None ≡ None
  by-parts true true o is = is
  by-parts true false o is = refl
  by-parts false b o is = refl

  not-utf8 : (a b : Bool) (o : Option Members) → b ≡ false → cond (a && b) o None ≡ None
  not-utf8 true b o is = ap (λ t. cond t o None) is
  not-utf8 false b o is = refl

pub refuse-text : (me : ℕ) (text : List ℕ) → (IsUtf8 text → parse_document text ≡ None) → configured me text ≡ Err key.Text
unfolding configured
refuse-text me text refused = ap (λ o. need key.Text o >>= config_of me) (no-table text refused)

-- what was not read in vain
pub comes-tells : (is : Result Config ConfigKey) (r : Result Config ConfigFault) → Comes is r → Tells is r
comes-tells is (Ok config) h = h
comes-tells is (Err (fault.Refused k)) h = h
comes-tells is (Err fault.Read) h = tt
comes-tells is (Err fault.Memory) h = tt

pub comes-fits : (me : ℕ) (text : List ℕ) (r : Result Config ConfigFault) → Comes (configured me text) r → IfOk r (Fits me)
comes-fits me text (Ok config) h = configured-fits me text config h
comes-fits me text (Err f) h = tt
