use Rattle.std.proofs.Common.{◌∙◌, ap, arith}
use Rattle.std.specs.Prelude.{option_and_then}
use Rattle.std.specs.Str.Parse.{ExplainsUnsignedError, HasUnsignedDigitsIfOk, ParsesUnsigned}
use Rattle.clap.specs.Words.{found_of}
use Rattle.clap.proofs.WalkLemmas.{one_text-rows}
use Rattle.command_line.specs.CommandSet.{number_of}
use Rattle.command_line.proofs.Numbers.{option_number_is}
use Rattle.command_line.proofs.words.number_in.Goals as goal

pub returns : goal.returns
returns c = option_number_is (λ t r. ParsesUnsigned 32 10 t r × ExplainsUnsignedError 10 t r × HasUnsignedDigitsIfOk t r) 32 _ c.get_one.result (omega arith, omega arith) c.get_one.ensures.none c.get_one.ensures.value (λ t r read. read.0)
    ∙ ap (option_and_then number_of) (one_text-rows (found_of c.args.options.now) c.args.name.now)
