-- A configuration that was read was read to its end, and what a configuration of a node that is a peer says of it.
use Rattle.std.specs.Prelude.{◌≡◌, ℕ, ◌+◌, ◌<◌, List, [], length, drop, Option, Some, None, Ok, Err, IfSome, option_map}
use Rattle.std.proofs.Common.{inl, inr, ap, ◌∙◌, sym, arith}
use Rattle.std.proofs.lemmas.Bool.{cases_lt}
use Rattle.std.proofs.lemmas.List.{drop_all}
use Rattle.node_config.specs.Configs.{config_of, configured, need, ◌>>=◌}
use Rattle.node_config.specs.Outcomes.{Fits}
use Rattle.node_config.specs.declared.config.Config.{Config}
use Rattle.node_config.specs.declared.key.ConfigKey.{ConfigKey}
use Rattle.node_config.specs.declared.key.ConfigKey.TheVariants as key
use Rattle.node_config.specs.declared.limits.TheConstants.{MAX_CONFIG}
use Rattle.node_config.proofs.Texts.{long-text}
use Rattle.node_device.specs.Faults.{Faults}
use Rattle.node_device.specs.Telling.{Told}
use Rattle.commands.specs.Seen.{SourceSeen}
use Rattle.commands.specs.NodeComing.{HasRead}
use Rattle.commands.specs.NodeSeen.{DeviceSeen}

too_long : (me : ℕ) (text : List ℕ) → MAX_CONFIG < length text → configured me text ≡ Err key.Text
unfolding configured
too_long me text long = ap (λ t. need key.Text t >>= config_of me) (long-text text long)

not_both : (config : Config) (k : ConfigKey) → Ok config ≡ Err k → ⊥
not_both config k e = cc

pub read_whole : (me : ℕ) (text : List ℕ) (config : Config) → configured me text ≡ Ok config → drop (MAX_CONFIG + 1) text ≡ []
read_whole me text config is =
    elim (cases_lt MAX_CONFIG (length text)) [
      | inl long ↦ absurd (not_both config key.Text (sym is ∙ too_long me text long))
      | inr short ↦ drop_all (MAX_CONFIG + 1) text (omega (arith, short))
    ]

-- the same of what a source tells
pub ended_told : (me : ℕ) (config : Config) (left left' : Option (List ℕ)) → left' ≡ option_map (drop (MAX_CONFIG + 1)) left
    → IfSome left (λ text. configured me text ≡ Ok config) → IfSome left (λ text. left' ≡ Some [])
ended_told me config None left' is says = tt
ended_told me config (Some text) left' is says = is ∙ ap Some (read_whole me text config says)

-- a device of which nothing has changed is seen as it was
pub same_device : (told told' : Option Told) (faults faults' : Faults) → told' ≡ told → faults' ≡ faults
    → ◌≡◌ {A = DeviceSeen} (record { told = told'; faults = faults' }) (record { told = told; faults = faults })
same_device told told' faults faults' same counts = λ i. record { told = same i; faults = counts i }

pub has_read : (me : ℕ) (config : Config) (before after : SourceSeen) → IfSome before.left (λ text. configured me text ≡ Ok config) → Fits me config
    → after.left ≡ option_map (drop (MAX_CONFIG + 1)) before.left → after.faults ≡ before.faults → HasRead me config before after
has_read me config before after says fits left quiet =
    record { fits = fits; says = says; ended = ended_told me config before.left after.left left says; quiet = quiet }
