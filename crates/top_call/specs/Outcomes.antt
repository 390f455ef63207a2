-- What a run of the program comes to, by what its words ask for.
use Rattle.std.specs.Prelude.{◌≡◌, ◌⊎◌, ℕ, List, Option, Some, None}
use Rattle.command_line.specs.CommandSet.{asked_of}
use Rattle.command_line.specs.declared.asked.Asked.{Asked}
use Rattle.command_line.specs.declared.asked.Asked.TheVariants.{Node, Texts}
use Rattle.commands.specs.NodeOutcomes.{AnswersNode}
use Rattle.commands.specs.NodeSeen.{NodeRun}
use Rattle.commands.specs.Outcomes.{AnswersCommand, RefusesWords}

-- a status of the program
abbrev pub IsStatus : ℕ → Type 0
IsStatus n = (n ≡ 0) ⊎ (n ≡ 1) ⊎ (n ≡ 2) ⊎ (n ≡ 3) ⊎ (n ≡ 4) ⊎ (n ≡ 5) ⊎ (n ≡ 6) ⊎ (n ≡ 7) ⊎ (n ≡ 8) ⊎ (n ≡ 9)

-- the run of words that ask for nothing, for a command over texts, or for a node. The first two use no device
abbrev pub AnswersAsked : Option Asked → List (List ℕ) → NodeRun → ℕ → Type 0
AnswersAsked None words r result = RefusesWords words r.streams result
AnswersAsked (Some (Texts command)) words r result = AnswersCommand command r.streams result
AnswersAsked (Some (Node w)) words r result = AnswersNode w r result

-- the run of these words, and the status that it answers
pub record Answers (words : List (List ℕ)) (r : NodeRun) (result : ℕ) : Type 0 where
  pub asked : AnswersAsked (asked_of words) words r result
