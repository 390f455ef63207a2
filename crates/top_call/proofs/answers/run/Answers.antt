use Rattle.std.proofs.Common.{◌∙◌, None, Some, ap, map, refl, string_bytes, sym, arith}
use Rattle.commands.specs.NodeSeen.{node_ran}
use Rattle.commands.specs.Seen.{ran}
use Rattle.commands.proofs.Answering.{words_refused}
use Rattle.top_call.proofs.Headlines.{node_headline, none_headline, texts_headline, wanting_headline}
use Rattle.top_call.proofs.Untaken.{answers_as, answers_unread}
use Rattle.top_call.proofs.answers.run.Goals as goal

pub returns-in-Ok-Some-Texts-clause-answers : goal.returns-in-Ok-Some-Texts-clause-answers
returns-in-Ok-Some-Texts-clause-answers g c =
    let read = c.in-Ok-Some-Texts in
    let streams = ran g.S.Source g.O.Sink g.E.Sink c.args.input.now c.run_command.new.input c.args.out.now c.run_command.new.out c.args.err.now c.run_command.new.err in
    answers_as (map string_bytes c.args.words.now) _ (node_ran streams g.D.Device c.args.device.now c.args.device.now) _
    (sym read.ensures.asked ∙ read.field-0-is ∙ ap Some read.field-0-0-is) c.run_command.ensures.answers

pub returns-in-Ok-Some-Node-clause-answers : goal.returns-in-Ok-Some-Node-clause-answers
returns-in-Ok-Some-Node-clause-answers g c =
    let read = c.in-Ok-Some-Node in
    let streams = ran g.S.Source g.O.Sink g.E.Sink c.args.input.now c.run_node.new.input c.args.out.now c.run_node.new.out c.args.err.now c.run_node.new.err in
    answers_as (map string_bytes c.args.words.now) _ (node_ran streams g.D.Device c.args.device.now c.run_node.new.device) _
    (sym read.ensures.asked ∙ read.field-0-is ∙ ap Some read.field-0-0-is) c.run_node.ensures.answers

pub returns-in-Ok-None-clause-answers : goal.returns-in-Ok-None-clause-answers
returns-in-Ok-None-clause-answers g c =
    let read = c.in-Ok-None in
    let streams = ran g.S.Source g.O.Sink g.E.Sink c.args.input.now c.args.input.now c.args.out.now c.args.out.now c.args.err.now c.tell.new.err in
    answers_as (map string_bytes c.args.words.now) None (node_ran streams g.D.Device c.args.device.now c.args.device.now) _ (sym read.ensures.asked ∙ read.field-0-is)
    (words_refused _ streams _ c.tell.ensures.told ((rw read.field-0-is at read.ensures.refused).0 refl) refl refl
    (record { reads = omega arith; writes = omega arith; complains = c.tell.ensures.counts }))

pub returns-in-Err-clause-answers : goal.returns-in-Err-clause-answers
returns-in-Err-clause-answers g c =
    let streams = ran g.S.Source g.O.Sink g.E.Sink c.args.input.now c.args.input.now c.args.out.now c.args.out.now c.args.err.now c.tell-in-Err.new.err in
    answers_unread (map string_bytes c.args.words.now) (node_ran streams g.D.Device c.args.device.now c.args.device.now) _ c.tell-in-Err.ensures.told refl refl refl
    (record { reads = omega arith; writes = omega arith; complains = c.tell-in-Err.ensures.counts })

pub returns-in-Ok-Some-Texts-clause-headline : goal.returns-in-Ok-Some-Texts-clause-headline
returns-in-Ok-Some-Texts-clause-headline g c = λ replay is.
    let read = c.in-Ok-Some-Texts in
    let run = ran g.S.Source g.O.Sink g.E.Sink c.args.input.now c.run_command.new.input c.args.out.now c.run_command.new.out c.args.err.now c.run_command.new.err in
    record { shown = texts_headline _ _ run (sym read.ensures.asked ∙ read.field-0-is ∙ ap Some read.field-0-0-is) replay (c.run_command.ensures.answers.done is) }

pub returns-in-Ok-Some-Node-clause-headline : goal.returns-in-Ok-Some-Node-clause-headline
returns-in-Ok-Some-Node-clause-headline g c = λ replay is.
    let read = c.in-Ok-Some-Node in
    node_headline _ _ (sym read.ensures.asked ∙ read.field-0-is ∙ ap Some read.field-0-0-is) replay

pub returns-in-Ok-None-clause-headline : goal.returns-in-Ok-None-clause-headline
returns-in-Ok-None-clause-headline g c = λ replay is.
    let read = c.in-Ok-None in
    none_headline _ (sym read.ensures.asked ∙ read.field-0-is) replay

pub returns-in-Err-clause-headline : goal.returns-in-Err-clause-headline
returns-in-Err-clause-headline g c = λ replay is. wanting_headline _ _ _ c.tell-in-Err.ensures.told is
