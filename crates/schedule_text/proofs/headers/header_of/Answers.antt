use Rattle.std.proofs.Common.{◌∙◌, ap}
use Rattle.schedule_text.specs.Headers.{header_among, header_of}
use Rattle.schedule_text.proofs.headers.header_of.Goals as goal

pub returns : goal.returns
unfolding header_of
returns c = c.header_among.ensures ∙ ap (λ rs. header_among rs c.args.line.now) c.all.ensures
