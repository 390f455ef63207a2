-- What a proof unfolds to compute `takes_words`, `asked_of` and its parts at words that are written out.
use Rattle.std.specs.Prelude.{⊤}
use Rattle.clap.proofs.OnLiterals.{clap_on_literals}
use Rattle.command_line.specs.CommandSet.{asked_of, command_of, entered_by, node_of, takes_words}

unfoldable pub words_on_literals : ⊤
unfolding clap_on_literals takes_words entered_by asked_of command_of node_of
words_on_literals = tt
