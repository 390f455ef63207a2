use Rattle.std.proofs.Common.{◌+◌, Err, ap, ◌∙◌, sym, arith}
use Rattle.schedule_text.specs.Reading.{is_skipped}
use Rattle.schedule_text.specs.Headers.{header_of}
use Rattle.schedule_text.proofs.Streaming.{cause-before, header-cause, header-other, header-failed, header-read, header-missing, header-skips, near-header}
use Rattle.schedule_text.proofs.streams.read_header.Goals as goal

pub returns-in-Err : goal.returns-in-Err
returns-in-Err g c =
    let inv = c.loop-fault.invariant in
    let new = c.next_line.new.reader in
    rw c.text_fault.ensures (record {
      told = λ rest has.
          let s = inv.told rest has in
          header-failed c.args.reader.now c.loop-fault.reader new (g.S.Source.left c.loop-fault.source) (g.S.Source.left c.next_line.new.source) rest inv.most s
          (Unit {0}) c.in-Err.fault _ _ c.in-Err.ensures.still c.in-Err.ensures.fault (c.in-Err.ensures.told s.uses.rest' s.uses.left);
      near = λ rest has.
          let s = inv.told rest has in
          near-header c.args.reader.now c.loop-fault.reader (g.S.Source.left c.loop-fault.source) (g.S.Source.left c.next_line.new.source) rest s
          (c.next_line.ensures.near s.uses.rest' s.uses.left);
      few = c.next_line.ensures.few;
      header = tt;
      number = tt;
      stays = λ is. c.next_line.ensures.stays (inv.stays is);
      kept = (c.next_line.ensures.kept.0 ∙ inv.most, c.next_line.ensures.kept.1 ∙ inv.events);
      fault = header-cause c.args.reader.now (new.number + 1) _ _ c.in-Err.fault (cause-before c.args.reader.now c.loop-fault.reader _ _ _ c.in-Err.fault inv.stays (omega (arith, inv.quiet)) c.in-Err.ensures.fault);
      quiet = λ other. c.in-Err.ensures.quiet (λ e. header-other (new.number + 1) c.in-Err.fault (λ f. other (ap Err f)) cc) ∙ inv.quiet;
      counts = omega (arith, inv.quiet, c.next_line.ensures.counts);
    })

pub returns-in-Some-clause-told : goal.returns-in-Some-clause-told
returns-in-Some-clause-told g c = λ rest has.
    let inv = c.loop-fault.invariant in
    let s = inv.told rest has in
    let new = c.next_line.new.reader in
    let reads = c.in-Ok.ensures.told s.uses.rest' s.uses.left in
    header-read c.args.reader.now c.loop-fault.reader new (g.S.Source.left c.loop-fault.source) (g.S.Source.left c.next_line.new.source) rest inv.most s
    reads.0 reads.1 reads.3 reads.2 reads.4 (c.next_line.ensures.kept.0 ∙ inv.most)
    c.in-Some.header (ap is_skipped (sym c.line.ensures) ∙ (sym c.is_skipped.ensures ∙ c.if-not-is_skipped.true)) (c.in-Some.ensures ∙ ap header_of c.line-then-not-is_skipped.ensures)

pub returns-in-None-clause-told : goal.returns-in-None-clause-told
returns-in-None-clause-told g c = λ rest has.
    let inv = c.loop-fault.invariant in
    let s = inv.told rest has in
    let new = c.next_line.new.reader in
    let reads = c.in-Ok.ensures.told s.uses.rest' s.uses.left in
    rw c.number.ensures (header-missing c.args.reader.now c.loop-fault.reader new (g.S.Source.left c.loop-fault.source) (g.S.Source.left c.next_line.new.source) rest inv.most s
    reads.0 reads.1 reads.3 reads.2 reads.4 (c.next_line.ensures.kept.0 ∙ inv.most)
    (ap is_skipped (sym c.line.ensures) ∙ (sym c.is_skipped.ensures ∙ c.if-not-is_skipped.true)) (c.in-None.ensures ∙ ap header_of c.line-then-not-is_skipped.ensures))

pub loop-fault-preserved : goal.loop-fault-preserved
loop-fault-preserved g c =
    let inv = c.loop-fault.invariant in
    record {
      told = λ rest has.
          let s = inv.told rest has in
          let new = c.next_line.new.reader in
          let reads = c.in-Ok.ensures.told s.uses.rest' s.uses.left in
          header-skips c.args.reader.now c.loop-fault.reader new (g.S.Source.left c.loop-fault.source) (g.S.Source.left c.next_line.new.source) rest inv.most s
          reads.0 reads.1 reads.3 reads.2 reads.4 (c.next_line.ensures.kept.0 ∙ inv.most)
          (ap is_skipped (sym c.line.ensures) ∙ (sym c.is_skipped.ensures ∙ c.if-not-is_skipped.false));
      number = omega (arith, inv.number, c.in-Ok.ensures.number.0);
      most = c.next_line.ensures.kept.0 ∙ inv.most;
      events = c.next_line.ensures.kept.1 ∙ inv.events;
      stays = λ is. c.next_line.ensures.stays (inv.stays is);
      quiet = c.in-Ok.ensures.quiet (λ e. cc) ∙ inv.quiet;
    }

pub returns-in-Some-clause-near : goal.returns-in-Some-clause-near
returns-in-Some-clause-near g c = λ rest has.
    let s = c.loop-fault.invariant.told rest has in
    near-header c.args.reader.now c.loop-fault.reader (g.S.Source.left c.loop-fault.source) (g.S.Source.left c.next_line.new.source) rest s
    (c.next_line.ensures.near s.uses.rest' s.uses.left)

pub returns-in-None-clause-near : goal.returns-in-None-clause-near
returns-in-None-clause-near g c = λ rest has.
    let s = c.loop-fault.invariant.told rest has in
    near-header c.args.reader.now c.loop-fault.reader (g.S.Source.left c.loop-fault.source) (g.S.Source.left c.next_line.new.source) rest s
    (c.next_line.ensures.near s.uses.rest' s.uses.left)
