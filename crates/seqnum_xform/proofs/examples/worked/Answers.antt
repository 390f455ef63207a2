use Rattle.number_set.specs.NumberSetLaws.{set_tests}
use Rattle.seqnum_xform.proofs.examples.worked.Goals as goal

pub returns-clause-seen : goal.returns-clause-seen
returns-clause-seen c = simp set_tests

pub returns-clause-other_number : goal.returns-clause-other_number
returns-clause-other_number c = simp set_tests

pub returns-clause-earlier_number : goal.returns-clause-earlier_number
returns-clause-earlier_number c = simp set_tests

pub returns-clause-other_sender : goal.returns-clause-other_sender
returns-clause-other_sender c = simp set_tests

pub returns-clause-both : goal.returns-clause-both
returns-clause-both c = simp set_tests

pub returns-clause-copies_do_nothing : goal.returns-clause-copies_do_nothing
returns-clause-copies_do_nothing c = simp set_tests

pub returns-clause-in_any_order : goal.returns-clause-in_any_order
returns-clause-in_any_order c = simp set_tests
