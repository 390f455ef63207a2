use Rattle.std.proofs.Common.{◌≡◌, ◌+◌, Err, is_some, refl, ap, ◌∙◌, arith}
use Rattle.line_reader.specs.Lines.{cut_at, has_cut}
use Rattle.line_reader.specs.declared.read_fault.ReadFault.TheVariants as fault
use Rattle.schedule_text.specs.Reading.{is_skipped, step_of}
use Rattle.std.proofs.lemmas.Result.{err_from_is_err_and}
use Rattle.line_reader.specs.Readers.{ReaderView}
use Rattle.schedule_text.specs.Schedules.{script}
use Rattle.schedule_text.proofs.Skipping.{skipped-none}
use Rattle.schedule_text.proofs.Streaming.{near-step, not-skips, told-cut, says-step, step-failed, step-skips, step-refused, step-read, read-counted}
use Rattle.schedule_text.proofs.streams.read_step.Goals as goal

pub loop-reader-init : goal.loop-reader-init
loop-reader-init g c =
    let r = c.args.reader.now in
    record {
      told = λ rest has. skipped-none (λ n ls. script r.most g.A.AppText.input_of n r.events ls) r (g.S.Source.left c.args.source.now) rest has;
      number = omega arith;
      most = refl;
      events = refl;
      stays = λ is. is;
      quiet = refl;
      first = λ is. refl;
      unread = λ is. refl;
    }

pub returns-in_err-next_line-clause-told : goal.returns-in_err-next_line-clause-told
returns-in_err-next_line-clause-told g c = λ rest has.
    let inv = c.loop-reader.invariant in
    let s = inv.told rest has in
    let p = err_from_is_err_and c.from_residual.result c.from_residual.ensures.1 in
    let y = c.in_err-next_line.field-0.0 in
    rw (p.1, p.2) (step-failed g.A.AppText.input_of c.args.reader.now c.loop-reader.reader c.next_line.new.reader (g.S.Source.left c.loop-reader.source) (g.S.Source.left c.next_line.new.source) rest inv.most s
    (Unit {0}) y _ _ c.in_err-next_line.ensures.fault (c.in_err-next_line.ensures.told s.uses.rest' s.uses.left))

pub returns-in_err-next_line-clause-ahead : goal.returns-in_err-next_line-clause-ahead
returns-in_err-next_line-clause-ahead g c = λ is.
    let told = told-cut (cut_at 10 c.args.reader.now.ahead) is in
    let read = c.next_line.ensures.ahead told.0 (ap (λ (v : ReaderView). cut_at 10 v.ahead) (c.loop-reader.invariant.first is) ∙ told.1) in
    let p = err_from_is_err_and c.from_residual.result c.from_residual.ensures.1 in
    let y = c.in_err-next_line.field-0.0 in
    rw (p.1, p.2) (λ e. let read_failed : y ≡ fault.Read = cc in read.0 (c.in_err-next_line.was ∙ ap Err read_failed))

pub loop-reader-preserved : goal.loop-reader-preserved
loop-reader-preserved g c =
    let inv = c.loop-reader.invariant in
    let new = c.next_line.new.reader in
    let f = g.A.AppText.input_of in
    let said = rw (c.in-Skipped.is, c.events.ensures, c.line.ensures, c.next_line.ensures.kept.1, inv.events) at c.in_ok-line_says.ensures in
    record {
      told = λ rest has.
          let s = inv.told rest has in
          let reads = c.in_ok-next_line.ensures.told s.uses.rest' s.uses.left in
          step-skips f c.args.reader.now c.loop-reader.reader new (g.S.Source.left c.loop-reader.source) (g.S.Source.left c.next_line.new.source) rest inv.most s
          reads.0 reads.1 reads.3 reads.2 reads.4 (c.next_line.ensures.kept.0 ∙ inv.most) said;
      number = omega (arith, inv.number, c.in_ok-next_line.ensures.number.0);
      most = c.next_line.ensures.kept.0 ∙ inv.most;
      events = c.next_line.ensures.kept.1 ∙ inv.events;
      stays = λ is. c.next_line.ensures.stays (inv.stays is);
      quiet = c.in_ok-next_line.ensures.quiet (λ e. cc) ∙ inv.quiet;
      first = λ is.
          let told = told-cut (cut_at 10 c.args.reader.now.ahead) is in
          let read = c.next_line.ensures.ahead told.0 (ap (λ (v : ReaderView). cut_at 10 v.ahead) (inv.first is) ∙ told.1) in
          let line = rw c.in_ok-next_line.was at read.1 in
          absurd (not-skips f c.args.reader.now.events new.line (ap is_skipped line ∙ told.2) said);
      unread = λ is.
          let told = told-cut (cut_at 10 c.args.reader.now.ahead) is in
          let read = c.next_line.ensures.ahead told.0 (ap (λ (v : ReaderView). cut_at 10 v.ahead) (inv.first is) ∙ told.1) in
          let line = rw c.in_ok-next_line.was at read.1 in
          absurd (not-skips f c.args.reader.now.events new.line (ap is_skipped line ∙ told.2) said);
    }

pub count_event-requires : goal.count_event-requires
count_event-requires g c =
    let said = rw (c.in-IsStep.is, c.events.ensures, c.line.ensures) at c.in_ok-line_says.ensures in
    omega (arith, (says-step g.A.AppText.input_of c.next_line.new.reader.events c.next_line.new.reader.line c.in-IsStep.step said).1)

pub returns-in-IsStep-clause-told : goal.returns-in-IsStep-clause-told
returns-in-IsStep-clause-told g c = λ rest has.
    let inv = c.loop-reader.invariant in
    let new = c.next_line.new.reader in
    let f = g.A.AppText.input_of in
    let said = rw (c.in-IsStep.is, c.events.ensures, c.line.ensures, c.next_line.ensures.kept.1, inv.events) at c.in_ok-line_says.ensures in
    let s = inv.told rest has in
    let reads = c.in_ok-next_line.ensures.told s.uses.rest' s.uses.left in
    read-counted f c.args.reader.now new c.count_event.new.self (g.S.Source.left c.next_line.new.source) rest c.in-IsStep.step (new.events + 1) c.count_event.ensures
    (step-read f c.args.reader.now c.loop-reader.reader new (g.S.Source.left c.loop-reader.source) (g.S.Source.left c.next_line.new.source) rest inv.most s
    reads.0 reads.1 reads.3 reads.2 reads.4 (c.next_line.ensures.kept.0 ∙ inv.most) c.in-IsStep.step said)

pub returns-in-IsStep-clause-step : goal.returns-in-IsStep-clause-step
returns-in-IsStep-clause-step g c =
    let new = c.next_line.new.reader in
    let said = rw (c.in-IsStep.is, c.events.ensures, c.line.ensures) at c.in_ok-line_says.ensures in
    ap (λ (v : ReaderView). step_of g.A.AppText.input_of v.line) c.count_event.ensures ∙ (says-step g.A.AppText.input_of new.events new.line c.in-IsStep.step said).0

pub returns-in-IsStep-clause-events : goal.returns-in-IsStep-clause-events
returns-in-IsStep-clause-events g c =
    let new = c.next_line.new.reader in
    let said = rw (c.in-IsStep.is, c.events.ensures, c.line.ensures) at c.in_ok-line_says.ensures in
    let few = (says-step g.A.AppText.input_of new.events new.line c.in-IsStep.step said).1 in
    let counted = ap (λ (v : ReaderView). v.events) c.count_event.ensures in
    let before = c.next_line.ensures.kept.1 ∙ c.loop-reader.invariant.events in
    ((omega (arith, counted, before), omega (arith, counted, few)), tt)

pub returns-in-Refused-clause-told : goal.returns-in-Refused-clause-told
returns-in-Refused-clause-told g c = λ rest has.
    let inv = c.loop-reader.invariant in
    let new = c.next_line.new.reader in
    let f = g.A.AppText.input_of in
    let said = rw (c.in-Refused.is, c.events.ensures, c.line.ensures, c.next_line.ensures.kept.1, inv.events) at c.in_ok-line_says.ensures in
    let s = inv.told rest has in
    let reads = c.in_ok-next_line.ensures.told s.uses.rest' s.uses.left in
    rw c.refuse.ensures (step-refused f c.args.reader.now c.loop-reader.reader new (g.S.Source.left c.loop-reader.source) (g.S.Source.left c.next_line.new.source) rest inv.most s
    reads.0 reads.1 reads.3 reads.2 reads.4 (c.next_line.ensures.kept.0 ∙ inv.most) c.in-Refused.why said)

pub returns-in_err-next_line-clause-near : goal.returns-in_err-next_line-clause-near
returns-in_err-next_line-clause-near g c = λ rest has.
    let inv = c.loop-reader.invariant in
    let s = inv.told rest has in
    near-step g.A.AppText.input_of c.args.reader.now c.loop-reader.reader (g.S.Source.left c.loop-reader.source) (g.S.Source.left c.next_line.new.source) rest s
    (c.next_line.ensures.near s.uses.rest' s.uses.left)

pub returns-in_err-next_line-clause-unread : goal.returns-in_err-next_line-clause-unread
returns-in_err-next_line-clause-unread g c = λ is.
    let inv = c.loop-reader.invariant in
    let told = told-cut (cut_at 10 c.args.reader.now.ahead) is in
    c.next_line.ensures.unread (ap (λ (v : ReaderView). has_cut 10 v.ahead) (inv.first is) ∙ ap is_some told.1) ∙ inv.unread is

pub returns-in_err-line_says-clause-near : goal.returns-in_err-line_says-clause-near
returns-in_err-line_says-clause-near g c = λ rest has.
    let inv = c.loop-reader.invariant in
    let s = inv.told rest has in
    near-step g.A.AppText.input_of c.args.reader.now c.loop-reader.reader (g.S.Source.left c.loop-reader.source) (g.S.Source.left c.next_line.new.source) rest s
    (c.next_line.ensures.near s.uses.rest' s.uses.left)

pub returns-in_err-line_says-clause-unread : goal.returns-in_err-line_says-clause-unread
returns-in_err-line_says-clause-unread g c = λ is.
    let inv = c.loop-reader.invariant in
    let told = told-cut (cut_at 10 c.args.reader.now.ahead) is in
    c.next_line.ensures.unread (ap (λ (v : ReaderView). has_cut 10 v.ahead) (inv.first is) ∙ ap is_some told.1) ∙ inv.unread is

pub returns-in-IsStep-clause-near : goal.returns-in-IsStep-clause-near
returns-in-IsStep-clause-near g c = λ rest has.
    let inv = c.loop-reader.invariant in
    let s = inv.told rest has in
    near-step g.A.AppText.input_of c.args.reader.now c.loop-reader.reader (g.S.Source.left c.loop-reader.source) (g.S.Source.left c.next_line.new.source) rest s
    (c.next_line.ensures.near s.uses.rest' s.uses.left)

pub returns-in-IsStep-clause-unread : goal.returns-in-IsStep-clause-unread
returns-in-IsStep-clause-unread g c = λ is.
    let inv = c.loop-reader.invariant in
    let told = told-cut (cut_at 10 c.args.reader.now.ahead) is in
    c.next_line.ensures.unread (ap (λ (v : ReaderView). has_cut 10 v.ahead) (inv.first is) ∙ ap is_some told.1) ∙ inv.unread is

pub returns-in-Refused-clause-near : goal.returns-in-Refused-clause-near
returns-in-Refused-clause-near g c = λ rest has.
    let inv = c.loop-reader.invariant in
    let s = inv.told rest has in
    near-step g.A.AppText.input_of c.args.reader.now c.loop-reader.reader (g.S.Source.left c.loop-reader.source) (g.S.Source.left c.next_line.new.source) rest s
    (c.next_line.ensures.near s.uses.rest' s.uses.left)

pub returns-in-Refused-clause-unread : goal.returns-in-Refused-clause-unread
returns-in-Refused-clause-unread g c = λ is.
    let inv = c.loop-reader.invariant in
    let told = told-cut (cut_at 10 c.args.reader.now.ahead) is in
    c.next_line.ensures.unread (ap (λ (v : ReaderView). has_cut 10 v.ahead) (inv.first is) ∙ ap is_some told.1) ∙ inv.unread is
