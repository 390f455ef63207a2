-- The stack that is found for the row is that of the claims on it.
use Rattle.trace_check.proofs.FoundClaims.{checked-told}
use Rattle.trace_check.proofs.checking.check.Goals as goal

pub returns-clause-told : goal.returns-clause-told
returns-clause-told g c =
    checked-told (g.S.Source.left c.args.source.now) (g.S.Source.left c.on_stack.new.a) (g.S.Source.faults c.args.source.now)
    (g.S.Source.faults c.on_stack.new.a) c.on_stack.result c.args.stack c.row-row.result c.row-row.ensures c.on_stack.ensures
