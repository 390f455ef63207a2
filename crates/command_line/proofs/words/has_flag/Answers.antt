use Rattle.std.proofs.Common.{◌∙◌, ap, codes, false}
use Rattle.std.specs.Option.{option_map_or}
use Rattle.std.specs.Str.{bytes_eq}
use Rattle.clap.specs.Walk.{Text}
use Rattle.clap.specs.Words.{found_of}
use Rattle.clap.proofs.WalkLemmas.{one_text-rows}
use Rattle.command_line.proofs.Numbers.{option_flag_is}
use Rattle.command_line.proofs.words.has_flag.Goals as goal

pub returns : goal.returns
returns c = c.unwrap_or.ensures ∙ option_flag_is _ _ c.get_one.result c.get_one.ensures.none c.get_one.ensures.value
    ∙ ap (λ text. option_map_or (λ (t : Text). bytes_eq t (codes "true")) text false) (one_text-rows (found_of c.args.options.now) c.args.name.now)
