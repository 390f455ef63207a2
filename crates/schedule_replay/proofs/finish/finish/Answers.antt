use Rattle.std.proofs.lemmas.Result.{err_from_is_err_and}
use Rattle.outside.proofs.Wholes.{gained-both}
use Rattle.schedule_text.specs.Printing.{lines_text}
use Rattle.stacks.specs.ClaimTexts.{image_head}
use Rattle.schedule_replay.proofs.Finishing.{front-none, front-first, front-second}
use Rattle.schedule_replay.proofs.finish.finish.Goals as goal

pub returns-in_err-head-clause-err : goal.returns-in_err-head-clause-err
returns-in_err-head-clause-err g c =
    let p = err_from_is_err_and c.from_residual.result c.from_residual.ensures.1 in
    rw p.1 (front-none (g.K.Sink.written c.args.sink.now) _)

pub returns-in_err-print_text-clause-err : goal.returns-in_err-print_text-clause-err
returns-in_err-print_text-clause-err g c =
    let p = err_from_is_err_and c.from_residual-in_err-print_text.result c.from_residual-in_err-print_text.ensures.1 in
    let lines = lines_text (g.L.Printed.text) c.args.image.now in
    let sent = rw (c.deref.ensures.value, c.in_ok-head.ensures) at c.in_err-print_text.ensures.err in
    rw p.1 (front-first (g.K.Sink.written c.args.sink.now) (g.K.Sink.written c.print_text.new.sink) (image_head c.args.header) lines sent)

pub returns-in_err-print_lines-clause-err : goal.returns-in_err-print_lines-clause-err
returns-in_err-print_lines-clause-err g c =
    let p = err_from_is_err_and c.from_residual-in_err-print_lines.result c.from_residual-in_err-print_lines.ensures.1 in
    let lines = lines_text (g.L.Printed.text) c.args.image.now in
    let sent = rw (c.deref.ensures.value, c.in_ok-head.ensures) at c.in_ok-print_text.ensures.ok in
    rw p.1 (front-second (g.K.Sink.written c.args.sink.now) (g.K.Sink.written c.print_text.new.sink) (g.K.Sink.written c.print_lines.new.sink) (image_head c.args.header) lines sent c.in_err-print_lines.ensures.err)

pub returns-clause-ok : goal.returns-clause-ok
returns-clause-ok g c =
    let lines = lines_text (g.L.Printed.text) c.args.image.now in
    let sent = rw (c.deref.ensures.value, c.in_ok-head.ensures) at c.in_ok-print_text.ensures.ok in
    gained-both (g.K.Sink.written c.args.sink.now) (g.K.Sink.written c.print_text.new.sink) (g.K.Sink.written c.print_lines.new.sink) (image_head c.args.header) lines sent c.in_ok-print_lines.ensures.ok
