-- A text that is read up to the byte that makes it too long.
use Rattle.std.specs.Prelude.{◌≡◌, ℕ, ◌+◌, ◌<◌, ◌&&◌, List, length, take, Option, None, cond}
use Rattle.std.specs.Str.{is_utf8}
use Rattle.std.proofs.Common.{inl, inr, ap, sym, ◌∙◌, arith, take_all}
use Rattle.std.proofs.lemmas.Bool.{cases_lt, lt-leb}
use Rattle.std.proofs.lemmas.List.{length-take}
use Rattle.toml.specs.Data.{Members}
use Rattle.toml.specs.Parse.{parse_document}
use Rattle.node_config.specs.Configs.{config_of, configured, need, table_of, ◌>>=◌}
use Rattle.node_config.specs.declared.key.ConfigKey.TheVariants as key
use Rattle.node_config.specs.declared.limits.TheConstants.{MAX_CONFIG}

-- a text that is too long has no table
pub long-text : (text : List ℕ) → MAX_CONFIG < length text → table_of text ≡ None
unfolding table_of
long-text text long =
    ap (λ b. let found : Option Members = parse_document text in cond (b && is_utf8 text) found None) (lt-leb (length text) MAX_CONFIG long)

table-front : (text : List ℕ) → table_of (take (MAX_CONFIG + 1) text) ≡ table_of text
table-front text =
    elim (cases_lt MAX_CONFIG (length text)) [
      | inl long ↦ long-text (take (MAX_CONFIG + 1) text) (omega (arith, long, length-take (MAX_CONFIG + 1) text)) ∙ sym (long-text text long)
      | inr short ↦ ap table_of (take_all (MAX_CONFIG + 1) text (omega (arith, short)))
    ]

pub configured-front : (me : ℕ) (text : List ℕ) → configured me (take (MAX_CONFIG + 1) text) ≡ configured me text
unfolding configured
configured-front me text = ap (λ t. need key.Text t >>= config_of me) (table-front text)
