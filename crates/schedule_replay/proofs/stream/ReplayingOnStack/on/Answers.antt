use Rattle.std.proofs.Common.{inr, subst}
use Rattle.stacks.specs.Plays.{Play, image_of, texts_of}
use Rattle.schedule_replay.specs.Outcomes.{ComesTo, KeptUp}
use Rattle.schedule_replay.specs.Rests.{stack_so_far, stack_whole}
use Rattle.schedule_replay.proofs.Openings.{same-play}
use Rattle.schedule_replay.proofs.stream.ReplayingOnStack.on.Goals as goal

pub returns : goal.returns
returns g c =
    let a = g.C.Text.AppText in
    let p = g.C.Plays.play c.args.nodes in
    let r = c.args.self.reader in
    let t = texts_of a.input_of a.input_text a.output_of a.output_text a.replies in
    let i = image_of c.below-below.result g.C.Line.Printed.text in
    let same = same-play p (g.C.Running.Runs.played c.in_ok-running.running) t i c.in_ok-running.ensures.runs c.below-below.ensures.texts c.below-below.ensures.below in
    record {
      told = λ rest has.
          subst (λ (q : Play g.row.C-Input.Denot g.row.C-Output.Denot g.row.C-Line.Denot). ComesTo (stack_whole q r) (stack_so_far q r) r.number rest (g.S.Source.left c.replay_rest.new.source)
          (g.K.Sink.written c.args.sink.now) (g.K.Sink.written c.replay_rest.new.sink) c.replay_rest.result) same (c.replay_rest.ensures.told rest has);
      kept_up = inr (λ rest has.
          subst (λ (q : Play g.row.C-Input.Denot g.row.C-Output.Denot g.row.C-Line.Denot). KeptUp (stack_so_far q r) rest (g.S.Source.left c.replay_rest.new.source)
          (g.K.Sink.written c.args.sink.now) (g.K.Sink.written c.replay_rest.new.sink)) same (c.replay_rest.ensures.kept_up rest has));
      reads_quiet = c.replay_rest.ensures.reads_quiet;
      fault = c.replay_rest.ensures.fault;
      quiet = c.replay_rest.ensures.quiet;
      reads = c.replay_rest.ensures.reads;
      writes = c.replay_rest.ensures.writes;
    }
