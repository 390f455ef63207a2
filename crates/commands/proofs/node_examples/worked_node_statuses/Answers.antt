use Rattle.std.proofs.Common.{inr, refl}
use Rattle.node_config.specs.declared.key.ConfigKey.TheVariants as key
use Rattle.commands.proofs.NodeRefuted.{says_no_memory}
use Rattle.commands.proofs.NodeSilent.{unread, wanting_first}
use Rattle.commands.proofs.node_examples.worked_node_statuses.Goals as goal

pub returns-clause-refused : goal.returns-clause-refused
returns-clause-refused c =
    (key.Me, record { came = record { says = tt; given = refl; quiet = refl; device_stays = refl }; out = refl; err = refl; quiet = record { faults = refl; wants = refl } })

pub returns-clause-unread : goal.returns-clause-unread
returns-clause-unread c = record { came = unread; out = refl; err = refl; quiet = record { faults = refl; wants = refl } }

pub returns-clause-says_memory : goal.returns-clause-says_memory
returns-clause-says_memory c = inr (wanting_first, refl)

pub returns-clause-says_memory_of_a_read : goal.returns-clause-says_memory_of_a_read
returns-clause-says_memory_of_a_read c = says_no_memory
