use Rattle.std.proofs.Common.{◌∙◌, sym}
use Rattle.check_text.proofs.ImageHeaders.{header-headed}
use Rattle.check_text.proofs.image_lines.image_header.Goals as goal

pub returns-then-heads-clause-headed : goal.returns-then-heads-clause-headed
returns-then-heads-clause-headed c =
    header-headed c.stacks_have_one_word.ensures.apart c.args.below c.args.line.now c.in_ok-header.header (sym c.in_ok-header.was ∙ c.header_of.ensures) (sym c.heads.ensures ∙ c.if-heads.true)
