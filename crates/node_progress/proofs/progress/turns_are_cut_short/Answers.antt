use Rattle.node_progress.proofs.Halting.{heard_halts, save_halts, say_halts}
use Rattle.node_progress.proofs.progress.turns_are_cut_short.Goals as goal

pub returns-clause-heard : goal.returns-clause-heard
returns-clause-heard g c = λ settings m who.
    heard_halts settings m g.C.Commands.stack g.C.Wire.format g.O.Wire.format who

pub returns-clause-save : goal.returns-clause-save
returns-clause-save g c = λ settings m who.
    save_halts settings m g.C.Commands.stack g.C.Wire.format g.O.Wire.format who

pub returns-clause-say : goal.returns-clause-say
returns-clause-say g c = λ settings m who.
    say_halts settings m g.C.Commands.stack g.C.Wire.format g.O.Wire.format who
