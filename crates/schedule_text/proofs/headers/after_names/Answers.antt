use Rattle.std.proofs.Common.{◌∙◌, ap}
use Rattle.schedule_text.proofs.FrontLaws.{strip_prefix-both, strip_prefix-neither}
use Rattle.schedule_text.specs.Headers.{strip_prefix, spaced, net_word}
use Rattle.vst_base.specs.Stacks.{stack_word}
use Rattle.schedule_text.proofs.headers.after_names.Goals as goal

pub returns-in-Some : goal.returns-in-Some
returns-in-Some c =
    c.after_word-in-Some.ensures ∙ (ap (λ word. strip_prefix (spaced word) c.in-Some.rest.now) c.stack_word.ensures
    ∙ strip_prefix-both (spaced (net_word c.args.net)) (spaced (stack_word c.args.stack)) c.args.line.now c.in-Some.rest.now
    (c.in-Some.ensures ∙ ap (λ word. strip_prefix (spaced word) c.args.line.now) c.net_word.ensures))

pub returns-in-None : goal.returns-in-None
returns-in-None c = strip_prefix-neither (spaced (net_word c.args.net)) (spaced (stack_word c.args.stack)) c.args.line.now
    (c.in-None.ensures ∙ ap (λ word. strip_prefix (spaced word) c.args.line.now) c.net_word.ensures)
