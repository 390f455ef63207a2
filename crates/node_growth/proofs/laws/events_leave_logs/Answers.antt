use Rattle.node_growth.proofs.Becoming.{log_becomes}
use Rattle.node_growth.proofs.Growing.{few_are_new, left_is_common, log_continues}
use Rattle.node_growth.proofs.laws.events_leave_logs.Goals as goal

pub returns-clause-becomes : goal.returns-clause-becomes
returns-clause-becomes g c = log_becomes g.C.Wire.format g.O.Wire.format

pub returns-clause-continues : goal.returns-clause-continues
returns-clause-continues g c = log_continues g.C.Wire.format g.O.Wire.format

pub returns-clause-left_is_common : goal.returns-clause-left_is_common
returns-clause-left_is_common g c = left_is_common g.C.Wire.format g.O.Wire.format

pub returns-clause-few_are_new : goal.returns-clause-few_are_new
returns-clause-few_are_new g c = few_are_new g.C.Wire.format g.O.Wire.format
