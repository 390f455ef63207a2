-- Records that do not follow: after a closed gate, and with more entries kept than the record before leaves.
use Rattle.std.proofs.Common.{sym}
use Rattle.std.proofs.lemmas.Bool.{false≢true}
use Rattle.node_body.proofs.examples.worked_records.Goals as goal

pub returns-clause-closed_before_one : goal.returns-clause-closed_before_one
returns-clause-closed_before_one c = λ h. false≢true (sym h.0.odd)

pub returns-clause-keeps_what_the_first_cut : goal.returns-clause-keeps_what_the_first_cut
returns-clause-keeps_what_the_first_cut c = λ h. false≢true h.1.0.keeps
