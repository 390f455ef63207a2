use Rattle.std.proofs.Common.{Option, Some, List, ℕ, sym, ap, ◌∙◌}
use Rattle.wire_codec.specs.HeadingLaws.{heading_is_format}
use Rattle.wire_codec.specs.Headings.{heading}
use Rattle.wire_codec.specs.declared.heading.Heading.{Heading}
use Rattle.wire_codec.proofs.datagram.decode.Goals as goal

pub returns-clause-in_range : goal.returns-clause-in_range
returns-clause-in_range c =
    let h = c.in_ok-heading.heading in
    let found : List ℕ → Option (Heading × List ℕ) = λ body. Some (h, body) in
    (heading_is_format.one_spelling c.args.bytes.now h c.rest-body.result.now
    (ap heading.read (sym c.new-input.ensures) ∙ c.in_ok-heading.ensures ∙ ap found (sym c.rest-body.ensures))).fits
