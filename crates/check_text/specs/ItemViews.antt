-- What the code's parts of a line of a trace show.
use Rattle.std.specs.Prelude.{Option, option_map}
use Rattle.check_text.specs.TraceLines.{ItemParts}
use Rattle.check_text.specs.declared.item_parts.ItemParts.{ItemParts as CodeParts}

abbrev pub parts_view : Option CodeParts → Option ItemParts
parts_view o = option_map (λ p. record { is_input = p.is_input; number = p.number.now; text = p.text.now }) o
