use Rattle.made_schedules.proofs.RaftSends.{raft-few}
use Rattle.made_schedules.proofs.ReadsMake.{read-few}
use Rattle.made_schedules.proofs.Sends.{backup-few, fifo-few, lock-few, mirror-few, numbered-few, retried-few}
use Rattle.made_schedules.proofs.few.events_send_few.Goals as goal

pub returns-clause-lock : goal.returns-clause-lock
returns-clause-lock g c = lock-few

pub returns-clause-mirror : goal.returns-clause-mirror
returns-clause-mirror g c = mirror-few

pub returns-clause-backup : goal.returns-clause-backup
returns-clause-backup g c = λ m. backup-few m

pub returns-clause-raft : goal.returns-clause-raft
returns-clause-raft g c = λ nodes m most. raft-few nodes m most

pub returns-clause-numbered : goal.returns-clause-numbered
returns-clause-numbered g c = λ most m few. numbered-few most m few

pub returns-clause-ordered : goal.returns-clause-ordered
returns-clause-ordered g c = λ most m few. fifo-few most m few

pub returns-clause-retried : goal.returns-clause-retried
returns-clause-retried g c = λ most m few. retried-few most m few

pub returns-clause-reads : goal.returns-clause-reads
returns-clause-reads g c = λ nodes m is_read most. read-few nodes m is_read most
