use Rattle.std.proofs.Common.{ap, length}
use Rattle.node_core.proofs.Taking.{continues_then, left_is_held}
use Rattle.node_core.proofs.shipped.Shipped.take.Goals as goal

pub returns-clause-taken : goal.returns-clause-taken
returns-clause-taken g c =
    let happened = c.in_ok-happen.ensures in
    record {
      is = record { of = happened.is.of; sound = happened.is.sound };
      same = left_is_held c.args.config.now (g.M.Machine.meaning c.args.raft.now.machine) g.C.Wire.format g.O.Wire.format c.args.self.replica c.args.event _ _ _ _ _
          (ap (λ r. r.state) happened.state) (ap (λ r. r.store) happened.state) c.requires.ready.knows c.left_by-same.ensures (ap length c.log-old.ensures.entries)
          (ap length c.log.ensures.entries);
    }

pub returns-clause-continues : goal.returns-clause-continues
returns-clause-continues g c =
    continues_then c.args.config.now (g.M.Machine.meaning c.args.raft.now.machine) g.C.Wire.format g.O.Wire.format c.args.self.replica c.args.event _
    (ap (λ r. r.state) c.in_ok-happen.ensures.state) c.requires.ready.knows
