use Rattle.std.proofs.Common.{◌≡◌, ◌∙◌, ◌∷◌, [], List, None, Option, Some, ap, codes, map, refl, string_bytes, ℕ}
use Rattle.std.specs.declared.string.String.{String}
use Rattle.command_line.proofs.OnLiterals.{words_on_literals}
use Rattle.command_line.specs.CommandSet.{asked_of}
use Rattle.command_line.specs.declared.asked.Asked.{Asked}
use Rattle.command_line.specs.declared.asked.Asked.TheVariants.{Texts}
use Rattle.command_line.specs.declared.command.Command.TheVariants as command
use Rattle.top_call.specs.Requests.{asked}
use Rattle.top_call.proofs.examples.worked_requests.Goals as goal

asked-as : {Z : Type 0} (ws : List (String Z)) (text : List (List ℕ)) (o : Option Asked) → map string_bytes ws ≡ text → asked_of text ≡ o → asked ws ≡ o
asked-as ws text o e is = ap asked_of e ∙ is

of-replay : asked_of (codes "vst" ∷ codes "replay" ∷ []) ≡ Some (Texts command.Replay)
unfolding words_on_literals
of-replay = refl

of-nothing : asked_of (codes "vst" ∷ codes "frob" ∷ []) ≡ None
unfolding words_on_literals
of-nothing = refl

pub returns-clause-replay : goal.returns-clause-replay
returns-clause-replay c = λ ws e. asked-as ws _ _ e of-replay

pub returns-clause-nothing : goal.returns-clause-nothing
returns-clause-nothing c = λ ws e. asked-as ws _ _ e of-nothing
