use Rattle.std.specs.Prelude.{◌+◌, Err, Ok}
use Rattle.command_line.specs.CommandSet.{node_words}
use Rattle.commands.specs.NodeComing.{Comes}
use Rattle.commands.specs.NodeSeen.{device_seen}
use Rattle.commands.specs.declared.trouble.Trouble.TheVariants as trouble
use Rattle.commands.specs.Seen.{source_seen}
use Rattle.udp_node.specs.Stacks.{EndedOn, ServedOn}
use Rattle.commands.proofs.NodeReading.{has_read}
use Rattle.commands.proofs.NodeTaking.{areas_begun, fault_begun, handed_on, sends_begun, still_begun}
use Rattle.commands.proofs.node_running.take_turns.Goals as goal

pub returns-in-Failed-clause-comes : goal.returns-in-Failed-clause-comes
returns-in-Failed-clause-comes g c = record {
  config = c.in_ok-config.config;
  at = c.own_address.result;
  configured_so = record {
    read = has_read c.args.me c.in_ok-config.config _ _ c.in_ok-config.ensures.told c.in_ok-config.ensures.fits c.in_ok-config.ensures.left (c.in_ok-config.ensures.quiet (λ e. cc));
    at_is = c.own_address.ensures;
  };
  told = c.in-Failed.ensures.outcome.1;
  counts = c.in-Failed.ensures.causes;
}

pub returns-in_err-serve-clause-comes : goal.returns-in_err-serve-clause-comes
returns-in_err-serve-clause-comes g c =
    let e = c.in_err-serve.field-0.0 in
    let config = c.in_ok-config.config in
    let at = c.own_address.result in
    let dir = c.args.state.now in
    handed_on _ (trouble.Ended e)
    (Comes (node_words c.args.me c.args.turns dir) (source_seen g.S.Source c.args.input.now) (source_seen g.S.Source c.read_config.new.source)
    (device_seen g.D.Device c.args.device.now) (device_seen g.D.Device c.serve.new.device))
    c.from_residual-in_err-serve.ensures.1
    (record {
      config = config;
      at = at;
      configured_so = record {
        read = has_read c.args.me config _ _ c.in_ok-config.ensures.told c.in_ok-config.ensures.fits c.in_ok-config.ensures.left (c.in_ok-config.ensures.quiet (λ e. cc));
        at_is = c.own_address.ensures;
      };
      areas = areas_begun config at dir (Err e) _ _ c.in-Ready.ensures.outcome.1 c.in_err-serve.ensures.areas;
      ended = still_begun (EndedOn config.stack config e c.args.turns) (1 + c.args.turns) at dir _ _ _ c.in-Ready.ensures.outcome.1 c.in_err-serve.ensures.ended;
      counts = fault_begun _ _ _ e c.in-Ready.ensures.causes c.in_err-serve.ensures.causes;
    })

pub returns-clause-comes : goal.returns-clause-comes
returns-clause-comes g c =
    let config = c.in_ok-config.config in
    let at = c.own_address.result in
    let dir = c.args.state.now in
    record {
      config = config;
      at = at;
      configured_so = record {
        read = has_read c.args.me config _ _ c.in_ok-config.ensures.told c.in_ok-config.ensures.fits c.in_ok-config.ensures.left (c.in_ok-config.ensures.quiet (λ e. cc));
        at_is = c.own_address.ensures;
      };
      areas = areas_begun config at dir (Ok tt) _ _ c.in-Ready.ensures.outcome.1 c.in_ok-serve.ensures.areas;
      turns = still_begun (ServedOn config.stack config c.args.turns) (1 + c.args.turns) at dir _ _ _ c.in-Ready.ensures.outcome.1 c.in_ok-serve.ensures.served;
      counts = sends_begun _ _ _ c.in-Ready.ensures.causes c.in_ok-serve.ensures.causes;
    }
