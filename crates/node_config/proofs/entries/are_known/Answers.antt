use Rattle.std.proofs.Common.{◌∙◌, string_bytes, rules, tests}
use Rattle.std.proofs.lemmas.Iterator.Consumers.{YieldsList-from_rest}
use Rattle.std.proofs.lemmas.Iterator.Search.{all_from_yields_List}
use Rattle.node_config.specs.Entries.{are_known, is_known}
use Rattle.node_config.proofs.Keying.{known-keys}
use Rattle.node_config.proofs.entries.are_known.Goals as goal

pub returns : goal.returns
unfolding are_known
returns c =
    all_from_yields_List (λ k. is_known (string_bytes k)) _ _ c.all.result c.all.ensures.ran (YieldsList-from_rest _ c.keys.ensures.rest) (λ x b q k. search (rules, tests))
    ∙ known-keys c.args.table.now.entries
