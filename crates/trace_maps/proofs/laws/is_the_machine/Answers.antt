use Rattle.std.specs.Prelude.{refl}
use Rattle.net_semantics.specs.RunLaws.{outputs_in-machine_trace_from}
use Rattle.net_semantics.specs.Runs.{no_recovery}
use Rattle.net_semantics.specs.Worlds.{first_world}
use Rattle.trace_maps.specs.SingleNode.{single_node}
use Rattle.trace_maps.proofs.Alone.{all-of-them, any-commands, from-any-state}
use Rattle.trace_maps.proofs.laws.is_the_machine.Goals as goal

pub returns-clause-trace : goal.returns-clause-trace
returns-clause-trace g c = λ m ss allowed. from-any-state m no_recovery (first_world (single_node m)) ss allowed

pub returns-clause-outputs : goal.returns-clause-outputs
returns-clause-outputs g c = λ m cs. outputs_in-machine_trace_from m m.init cs

pub returns-clause-allowed : goal.returns-clause-allowed
returns-clause-allowed g c = λ m cs. any-commands m no_recovery (first_world (single_node m)) cs refl

pub returns-clause-all_of_them : goal.returns-clause-all_of_them
returns-clause-all_of_them g c = λ cs. all-of-them cs
