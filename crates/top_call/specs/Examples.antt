-- Runs for worked rows: those of the worked rows of commands over texts, beside a device.
use Rattle.std.specs.Prelude.{ℕ, [], ◌∷◌, Some}
use Rattle.command_line.specs.declared.asked.Asked.TheVariants.{Node, Texts}
use Rattle.command_line.specs.declared.command.Command.TheVariants as command
use Rattle.disk.specs.Acts.{Now}
use Rattle.commands.specs.NodeExamples.{device, idle, words}
use Rattle.commands.specs.NodeSeen.{NodeRun}
use Rattle.node_device.specs.Examples.{counts, tells}
use Rattle.commands.specs.Seen.{Run}
use Rattle.top_call.specs.Outcomes.{AnswersAsked}

-- a device that is left alone, and one whose clock is read
abbrev pub beside : Run → NodeRun
beside r = record { streams = r; before = idle; after = idle }

abbrev pub used : Run → NodeRun
used r = record { streams = r; before = idle; after = device (tells (Now 0 ∷ [])) (counts 1 1) }

-- a replay answers this status, or a node of three turns
abbrev pub ReplayAnswers : NodeRun → ℕ → Type 0
ReplayAnswers r n = AnswersAsked (Some (Texts command.Replay)) [] r n

abbrev pub NodeAnswers : NodeRun → ℕ → Type 0
NodeAnswers r n = AnswersAsked (Some (Node words)) [] r n
