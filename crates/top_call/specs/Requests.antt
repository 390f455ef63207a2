-- What the words of a run ask for, and what is said of the run by that.
use Rattle.std.specs.Prelude.{List, map, Option, Some, None, string_bytes}
use Rattle.std.specs.declared.string.String.{String}
use Rattle.command_line.specs.AskedNodes.{NodeWordsView}
use Rattle.command_line.specs.CommandSet.{asked_of}
use Rattle.command_line.specs.declared.asked.Asked.{Asked}
use Rattle.command_line.specs.declared.asked.Asked.TheVariants.{Node, Texts}
use Rattle.command_line.specs.declared.command.Command.{Command}

abbrev pub asked : {Z : Type 0} → List (String Z) → Option Asked
asked words = asked_of (map string_bytes words)

-- P of a run of a command over texts, or of words that name none; Q of a run of a node
abbrev pub By : Option Asked → (Option Command → Type 0) → (NodeWordsView → Type 0) → Type 0
By None P Q = P None
By (Some (Texts command)) P Q = P (Some command)
By (Some (Node node)) P Q = Q node
