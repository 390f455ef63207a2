use Rattle.std.proofs.Common.{◌∙◌, [], ◌∷◌}
use Rattle.schedule_text.proofs.FrontLaws.{strip_prefix-both, strip_prefix-neither}
use Rattle.schedule_text.proofs.headers.after_word.Goals as goal

pub returns-in-Some : goal.returns-in-Some
returns-in-Some c = c.strip_prefix-in-Some.ensures ∙ strip_prefix-both c.args.word.now (32 ∷ []) c.args.line.now c.in-Some.rest.now c.in-Some.ensures

pub returns-in-None : goal.returns-in-None
returns-in-None c = strip_prefix-neither c.args.word.now (32 ∷ []) c.args.line.now c.in-None.ensures
