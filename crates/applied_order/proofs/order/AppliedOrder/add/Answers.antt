use Rattle.std.proofs.Common.{◌≡◌, OnOk}
use Rattle.std.proofs.lemmas.Result.{on_ok_weaker}
use Rattle.raft_clients.specs.Executed.{request_of}
use Rattle.applied_order.proofs.Adding.{followed_more}
use Rattle.applied_order.specs.Orders.{with_entry}
use Rattle.applied_order.proofs.order.AppliedOrder.add.Goals as goal

pub returns-clause-followed : goal.returns-clause-followed
returns-clause-followed g c =
    let e = c.args.entry.now in
    let takes : OnOk c.take.result (c.take.new.self ≡ with_entry c.args.self.now (request_of e)) =
    rw (c.what.ensures.value) at c.take.ensures.does in
    on_ok_weaker c.take.result (λ is es had. followed_more c.args.self.now es e had c.take.new.self is) takes
