use Rattle.node_run.proofs.Sayings.{all_heard, all_in_grammar, all_read}
use Rattle.node_run.proofs.laws.what_is_said_is_heard.Goals as goal

pub returns-clause-packets : goal.returns-clause-packets
returns-clause-packets g c = λ settings effect may few.
    all_heard g.C.Wire.format g.O.Wire.format settings may g.met.C.Wire.is_format g.met.O.Wire.is_format effect.sends few.packets

pub returns-clause-replies : goal.returns-clause-replies
returns-clause-replies g c = λ settings effect may few.
    all_read g.C.Wire.format g.O.Wire.format settings may g.met.C.Wire.is_format g.met.O.Wire.is_format effect.outputs few.replies

pub returns-clause-in_grammar : goal.returns-clause-in_grammar
returns-clause-in_grammar g c = λ settings effect may few.
    all_in_grammar g.C.Wire.format g.O.Wire.format settings may effect.sends effect.outputs few.packets few.replies
