use Rattle.std.proofs.Common.{◌∙◌}
use Rattle.std.proofs.lemmas.Result.{err_from_is_err_and, on_ok_weaker, on_err_weaker}
use Rattle.schedule_text.specs.Printing.{as_line}
use Rattle.schedule_text.proofs.Sending.{sending-broken, sending-more, sending-failed, sending-done, sending-last}
use Rattle.schedule_text.proofs.sinks.print_lines.Goals as goal

pub returns-in_err-push_line-clause-err : goal.returns-in_err-push_line-clause-err
returns-in_err-push_line-clause-err g c =
    let k = g.K.Sink in
    let p = err_from_is_err_and c.from_residual.result c.from_residual.ensures.1 in
    rw p.1 (sending-broken (λ y. as_line (g.P.Printed.text y)) (k.written c.args.sink.now) c.args.lines.now c.loop-line.line-index (k.written c.loop-line.sink) c.loop-line.text.items c.loop-line.invariant.lines)

pub returns-in_err-spill-clause-err : goal.returns-in_err-spill-clause-err
returns-in_err-spill-clause-err g c =
    let k = g.K.Sink in
    let p = err_from_is_err_and c.from_residual-in_err-spill.result c.from_residual-in_err-spill.ensures.1 in
    let x = c.line-item.result in
    rw p.1 (sending-failed (λ y. as_line (g.P.Printed.text y)) (k.written c.args.sink.now) c.args.lines.now c.loop-line.line-index x c.loop-line-test.true c.line-item.is
    (k.written c.loop-line.sink) (k.written c.spill.new.sink) c.loop-line.text.items c.push_line.new.out.items c.loop-line.invariant.lines c.in_ok-push_line.ensures c.in_err-spill.ensures.err)

pub loop-line-preserved : goal.loop-line-preserved
loop-line-preserved g c =
    let k = g.K.Sink in
    let x = c.line-item.result in
    record {
      lines = sending-more (λ y. as_line (g.P.Printed.text y)) (k.written c.args.sink.now) c.args.lines.now c.loop-line.line-index x c.loop-line-test.true c.line-item.is
          (k.written c.loop-line.sink) (k.written c.spill.new.sink) c.loop-line.text.items c.push_line.new.out.items c.spill.new.text.items c.loop-line.invariant.lines c.in_ok-push_line.ensures c.in_ok-spill.ensures.ok;
      faults = c.in_ok-spill.ensures.quiet.0 ∙ c.loop-line.invariant.faults;
      wants = c.in_ok-spill.ensures.quiet.1 ∙ c.loop-line.invariant.wants;
    }

pub returns-clause-ok : goal.returns-clause-ok
returns-clause-ok g c =
    let k = g.K.Sink in
    let sent = rw c.deref.ensures.value at c.print_text.ensures.ok in
    on_ok_weaker c.print_text.result (λ gained. sending-done (λ y. as_line (g.P.Printed.text y)) (k.written c.args.sink.now) c.args.lines.now c.loop-line.line-index
    (k.written c.loop-line.sink) (k.written c.print_text.new.sink) c.loop-line.text.items c.loop-line-test.false c.loop-line.invariant.lines gained) sent

pub returns-clause-err : goal.returns-clause-err
returns-clause-err g c =
    let k = g.K.Sink in
    let sent = rw c.deref.ensures.value at c.print_text.ensures.err in
    on_err_weaker c.print_text.result (λ gained. sending-last (λ y. as_line (g.P.Printed.text y)) (k.written c.args.sink.now) c.args.lines.now c.loop-line.line-index
    (k.written c.loop-line.sink) (k.written c.print_text.new.sink) c.loop-line.text.items c.loop-line-test.false c.loop-line.invariant.lines gained) sent
