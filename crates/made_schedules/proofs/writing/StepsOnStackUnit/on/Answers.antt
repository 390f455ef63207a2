use Rattle.std.proofs.lemmas.Result.{err_from_is_err_and}
use Rattle.made_schedules.proofs.Written.{unwritten}
use Rattle.made_schedules.specs.MadeTexts.{step_lines}
use Rattle.made_schedules.proofs.writing.StepsOnStackUnit.on.Goals as goal

pub returns-in_err-network : goal.returns-in_err-network
returns-in_err-network g c =
    let p = err_from_is_err_and c.from_residual.result c.from_residual.ensures.1 in
    unwritten (step_lines (g.S.Plays.play c.args.nodes) (g.S.StackCode.made c.args.nodes) c.args.self.seed c.args.self.steps)
    (g.K.Sink.written c.args.sink.now) (g.K.Sink.faults c.args.sink.now) (g.K.Sink.wants c.args.sink.now) c.from_residual.result p.0 p.1 p.2
