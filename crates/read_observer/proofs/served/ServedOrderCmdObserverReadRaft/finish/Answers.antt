use Rattle.std.proofs.Common.{[], ◌++◌, map, zip, ap, ◌∙◌}
use Rattle.reads_safety.specs.Orders.{insert_all}
use Rattle.read_observer.specs.Observed.{cluster_in}
use Rattle.read_observer.proofs.Placed.{served}
use Rattle.read_observer.proofs.served.ServedOrderCmdObserverReadRaft.finish.Goals as goal

pub returns : goal.returns
returns g c = λ h r ss had.
    let cluster = cluster_in (g.M.Machine.meaning h.machine) (g.M.Queries.reads h.machine) h.nodes in
    let inner = c.into_indexed-indexes.ensures in
    let is = c.in_ok-placed.ensures ∙ (λ i. zip (inner.indexes i) (inner.requests i) ++ c.self.inside.answered.items) in
    c.from_lines.ensures ∙ (c.in_ok-lines.ensures ∙ (ap (λ xs. map (λ p. p.1) (insert_all [] xs)) is ∙ served cluster _ ss (rw (← c.self.view_is) at had)))
