use Rattle.std.proofs.Common.{[], ◌++◌, ap, subst, ◌∙◌}
use Rattle.std.specs.Prelude.{OnErr}
use Rattle.outside.specs.Wholes.{Gained, GainedPrefix}
use Rattle.schedule_text.specs.declared.header.Header.{Header}
use Rattle.schedule_text.specs.Headers.{header_text}
use Rattle.schedule_text.specs.Printing.{as_line}
use Rattle.stacks.specs.Table.{kind_at}
use Rattle.made_schedules.specs.MadeTexts.{made_header, step_lines, with_made}
use Rattle.made_schedules.proofs.Written.{broken-writes, found-writes, ready-stack, then-writes}
use Rattle.made_schedules.specs.Making.{WritesText}
use Rattle.made_schedules.proofs.making.write_schedule.Goals as goal

pub on_stack-requires-clause-ready : goal.on_stack-requires-clause-ready
on_stack-requires-clause-ready g c =
    let h = made_header c.args.stack in
    rw c.made_header-header.ensures (ready-stack (kind_at h.net h.stack) h.nodes c.args.seed c.args.steps (λ a refused. (c.requires.few, refused))
    (c.made_schedules_are_allowed.ensures.allowed c.args.stack c.args.seed c.args.steps c.requires.sends))

pub returns-in-Ok : goal.returns-in-Ok
returns-in-Ok g c =
    let k = g.K.Sink in
    let h = made_header c.args.stack in
    let out = k.written c.args.sink.now in
    let mid = k.written c.print_text.new.sink in
    let first = subst (λ bs. Gained out mid bs) (c.deref.ensures.value ∙ (c.in_ok-line.ensures ∙ ap (λ (x : Header). as_line (header_text x)) c.made_header-header.ensures)) c.in-Ok.ensures.ok in
    let found = rw c.made_header-header.ensures at c.on_stack.ensures in
    then-writes (as_line (header_text h)) (with_made [] (λ a. step_lines a.plays.play a.made c.args.seed c.args.steps) c.args.stack) out mid (k.written c.on_stack.new.a)
    (k.faults c.args.sink.now) (k.faults c.print_text.new.sink) (k.faults c.on_stack.new.a) (k.wants c.args.sink.now) (k.wants c.print_text.new.sink) (k.wants c.on_stack.new.a) c.on_stack.result
    first c.in-Ok.ensures.quiet.0 c.in-Ok.ensures.quiet.1
    (found-writes (kind_at h.net h.stack) h.nodes c.args.seed c.args.steps mid (k.written c.on_stack.new.a)
    (k.faults c.print_text.new.sink) (k.faults c.on_stack.new.a) (k.wants c.print_text.new.sink) (k.wants c.on_stack.new.a) c.on_stack.result found)

pub returns : goal.returns
returns g c =
    let k = g.K.Sink in
    let h = made_header c.args.stack in
    let out = k.written c.args.sink.now in
    let out' = k.written c.print_text.new.sink in
    let line_is = c.deref.ensures.value ∙ (c.in_ok-line.ensures ∙ ap (λ (x : Header). as_line (header_text x)) c.made_header-header.ensures) in
    subst (λ r. WritesText (as_line (header_text h) ++ with_made [] (λ a. step_lines a.plays.play a.made c.args.seed c.args.steps) c.args.stack) out out'
    (k.faults c.args.sink.now) (k.faults c.print_text.new.sink) (k.wants c.args.sink.now) (k.wants c.print_text.new.sink) r) c.in-Err.is
    (broken-writes (as_line (header_text h)) (with_made [] (λ a. step_lines a.plays.play a.made c.args.seed c.args.steps) c.args.stack) out out'
    (k.faults c.args.sink.now) (k.faults c.print_text.new.sink) (k.wants c.args.sink.now) (k.wants c.print_text.new.sink) c.in-Err.fault c.print_text.result c.in-Err.is
    (subst (λ bs. OnErr c.print_text.result (GainedPrefix out out' bs)) line_is c.print_text.ensures.err) c.print_text.ensures.fault c.print_text.ensures.unfailed c.print_text.ensures.unwanted c.print_text.ensures.counts)
