use Rattle.std.proofs.Common.{◌+◌, sym, subst, IfErr, IfSome, OnOk}
use Rattle.vst_base.specs.declared.stack.StackId.{StackId}
use Rattle.udp_node.specs.Serving.{Meets, StillTold}
use Rattle.udp_node.specs.Stacks.{EndedOn, ServedOn, refused_areas}
use Rattle.udp_node.proofs.Served.{runs_kv}
use Rattle.udp_node.proofs.serving.serve.Goals as goal

pub returns-in-TableRaft-clause-served : goal.returns-in-TableRaft-clause-served
returns-in-TableRaft-clause-served g c =
    subst (λ (s : StackId). OnOk c.serve_stack.result (StillTold (1 + c.args.turns) (g.D.Device.told c.args.device.now) (g.D.Device.told c.serve_stack.new.device) (ServedOn s c.args.config.now c.args.turns))) (sym c.in-TableRaft.is)
    c.serve_stack.ensures.served

pub returns-in_default : goal.returns-in_default
returns-in_default g c =
    let kv = runs_kv c.args.config.now.stack c.requires.fits.stack c.in_default.not-TableRaft in
    record {
      served = subst (λ (s : StackId). OnOk c.serve_stack-in_default.result (StillTold (1 + c.args.turns) (g.D.Device.told c.args.device.now) (g.D.Device.told c.serve_stack-in_default.new.device) (ServedOn s c.args.config.now c.args.turns))) (sym kv)
          c.serve_stack-in_default.ensures.served;
      ended = subst (λ (s : StackId). IfErr c.serve_stack-in_default.result (λ fault. StillTold (1 + c.args.turns) (g.D.Device.told c.args.device.now) (g.D.Device.told c.serve_stack-in_default.new.device) (EndedOn s c.args.config.now fault c.args.turns)))
          (sym kv) c.serve_stack-in_default.ensures.ended;
      tells = c.serve_stack-in_default.ensures.tells;
      areas = subst (λ (s : StackId). IfSome (g.D.Device.told c.args.device.now) (λ before. Meets (refused_areas s c.args.config.now before) c.serve_stack-in_default.result)) (sym kv)
          c.serve_stack-in_default.ensures.areas;
      causes = c.serve_stack-in_default.ensures.causes;
      begun = c.serve_stack-in_default.ensures.begun;
    }
