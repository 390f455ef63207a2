use Rattle.made_schedules.proofs.Texts.{kv-texts, lock-texts, mirror-texts, of-clients, of-commands, table-texts}
use Rattle.made_schedules.proofs.lines.made_inputs_have_texts.Goals as goal

pub returns-clause-lock : goal.returns-clause-lock
returns-clause-lock c = lock-texts

pub returns-clause-mirror : goal.returns-clause-mirror
returns-clause-mirror c = mirror-texts

pub returns-clause-kv : goal.returns-clause-kv
returns-clause-kv c = of-commands kv-texts

pub returns-clause-table : goal.returns-clause-table
returns-clause-table c = of-commands table-texts

pub returns-clause-kv_raft : goal.returns-clause-kv_raft
returns-clause-kv_raft c = of-clients kv-texts

pub returns-clause-table_raft : goal.returns-clause-table_raft
returns-clause-table_raft c = of-clients table-texts
