use Rattle.network_tests.proofs.xform_stack_tests.what_a_failing_network_holds_is_counted.Goals as goal

pub tells-requires-clause-sound : goal.tells-requires-clause-sound
tells-requires-clause-sound g c = record { sound = c.in_ok-network.ensures.sound; shown = _; shows = c.in_ok-network.ensures.first }
