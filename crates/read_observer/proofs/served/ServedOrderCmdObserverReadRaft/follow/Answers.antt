use Rattle.std.proofs.lemmas.Result.{on_ok_weaker}
use Rattle.read_observer.proofs.served.ServedOrderCmdObserverReadRaft.follow.Goals as goal

pub returns : goal.returns
returns g c = on_ok_weaker c.follow_reads.result (λ reads ss had looked taken is.
    let before = rw (← c.self.view_is) at had in
    record {
      executed = c.in_ok-follow_nodes.ensures ss _ taken before.executed;
      answered = reads ss _ taken looked before.answered;
    }) c.follow_reads.ensures
