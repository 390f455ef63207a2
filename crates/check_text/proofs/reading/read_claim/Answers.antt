use Rattle.std.proofs.Common.{◌∙◌, refl, arith}
use Rattle.check_text.specs.Forms.{form_of}
use Rattle.check_text.proofs.Readings.{ahead-ended, ahead-refused, claim-ended, ends-cause, ends-failed, line-refused, line-taken, none-so-far}
use Rattle.check_text.proofs.reading.read_claim.Goals as goal
use Rattle.lists.specs.Options.{if_some}

pub loop-fault-init : goal.loop-fault-init
loop-fault-init g c =
    let f = form_of c.args.nodes g.A.AppText.input_of g.A.AppText.output_of c.args.below g.G.ImageText.says in
    rw (c.in_ok-reader.ensures, c.new-draft.ensures) (record {
      told = λ bytes has. none-so-far f (g.S.Source.left c.args.source.now) bytes has;
      headed = λ e. cc;
      counted = omega arith;
      few = omega arith;
      number = omega arith;
      most = refl;
      quiet = refl;
    })

pub returns-in-Err-clause-told : goal.returns-in-Err-clause-told
returns-in-Err-clause-told g c = if_some _ _ (λ bytes has.
    let f = form_of c.args.nodes g.A.AppText.input_of g.A.AppText.output_of c.args.below g.G.ImageText.says in
    let inv = c.loop-fault.invariant in
    let s = inv.told bytes has in
    claim-ended f c.loop-fault.reader c.next_line.new.reader c.loop-fault.draft c.loop-fault.draft (g.S.Source.left c.loop-fault.source) (g.S.Source.left c.next_line.new.source) bytes s
    (Unit {0}) c.in-Err.fault c.end_claim.result _ _ inv.most c.in-Err.ensures.fault (c.in-Err.ensures.told s.uses.rest' s.uses.left) c.in-Err.ensures.still (c.end_claim.ensures.ends c.args.nodes c.args.below))

pub returns-in-Err-clause-fault : goal.returns-in-Err-clause-fault
returns-in-Err-clause-fault g c =
    let f = form_of c.args.nodes g.A.AppText.input_of g.A.AppText.output_of c.args.below g.G.ImageText.says in
    ends-cause f c.loop-fault.draft c.next_line.new.reader.number c.loop-fault.reader _ _ _ c.in-Err.fault c.end_claim.result (omega (arith, c.loop-fault.invariant.quiet)) c.in-Err.ensures.fault (c.end_claim.ensures.ends c.args.nodes c.args.below)

pub returns-in-Err-clause-quiet : goal.returns-in-Err-clause-quiet
returns-in-Err-clause-quiet g c = λ other.
    let f = form_of c.args.nodes g.A.AppText.input_of g.A.AppText.output_of c.args.below g.G.ImageText.says in
    c.in-Err.ensures.quiet (λ e. other (ends-failed f c.loop-fault.draft c.next_line.new.reader.number c.in-Err.fault c.end_claim.result (c.end_claim.ensures.ends c.args.nodes c.args.below) cc)) ∙ c.loop-fault.invariant.quiet

pub returns-in-Some-clause-told : goal.returns-in-Some-clause-told
returns-in-Some-clause-told g c = if_some _ _ (λ bytes has.
    let f = form_of c.args.nodes g.A.AppText.input_of g.A.AppText.output_of c.args.below g.G.ImageText.says in
    let inv = c.loop-fault.invariant in
    let s = inv.told bytes has in
    let reads = c.in-Ok.ensures.told s.uses.rest' s.uses.left in
    let takes = rw (c.in-Some.is, c.line.ensures) at c.in_ok-why.ensures.takes in
    rw c.number.ensures (line-refused f c.loop-fault.reader c.next_line.new.reader c.loop-fault.draft c.take_line.new.draft (g.S.Source.left c.loop-fault.source) (g.S.Source.left c.next_line.new.source) bytes s
    reads.0 reads.1 reads.3 reads.4 (c.next_line.ensures.kept.0 ∙ inv.most) c.in-Some.why takes))

pub loop-fault-preserved : goal.loop-fault-preserved
loop-fault-preserved g c =
    let f = form_of c.args.nodes g.A.AppText.input_of g.A.AppText.output_of c.args.below g.G.ImageText.says in
    let inv = c.loop-fault.invariant in
    let takes = rw (c.in_default.is, c.line.ensures) at c.in_ok-why.ensures.takes in
    record {
      told = λ bytes has.
          let s = inv.told bytes has in
          let reads = c.in-Ok.ensures.told s.uses.rest' s.uses.left in
          line-taken f c.loop-fault.reader c.next_line.new.reader c.loop-fault.draft c.take_line.new.draft (g.S.Source.left c.loop-fault.source) (g.S.Source.left c.next_line.new.source) bytes s
          reads.0 reads.1 reads.3 reads.4 (c.next_line.ensures.kept.0 ∙ inv.most) takes;
      headed = c.in_ok-why.ensures.headed inv.headed;
      counted = c.in_ok-why.ensures.counted inv.counted;
      few = omega (arith, inv.few, c.in_ok-why.ensures.grows, c.in-Ok.ensures.number.0);
      number = c.in-Ok.ensures.number.1;
      most = c.next_line.ensures.kept.0 ∙ inv.most;
      quiet = c.in-Ok.ensures.quiet (λ e. cc) ∙ inv.quiet;
    }

pub returns-in-Err-clause-ahead : goal.returns-in-Err-clause-ahead
returns-in-Err-clause-ahead g c = if_some _ _ (λ bytes has.
    let f = form_of c.args.nodes g.A.AppText.input_of g.A.AppText.output_of c.args.below g.G.ImageText.says in
    let s = c.loop-fault.invariant.told bytes has in
    ahead-ended f c.loop-fault.reader c.next_line.new.reader c.loop-fault.draft c.loop-fault.draft (g.S.Source.left c.loop-fault.source) (g.S.Source.left c.next_line.new.source) bytes s
    (Unit {0}) c.in-Err.fault c.end_claim.result (c.in-Err.ensures.told s.uses.rest' s.uses.left) c.in-Err.ensures.still (c.end_claim.ensures.ends c.args.nodes c.args.below))

pub returns-in-Some-clause-ahead : goal.returns-in-Some-clause-ahead
returns-in-Some-clause-ahead g c = if_some _ _ (λ bytes has.
    let f = form_of c.args.nodes g.A.AppText.input_of g.A.AppText.output_of c.args.below g.G.ImageText.says in
    let s = c.loop-fault.invariant.told bytes has in
    let reads = c.in-Ok.ensures.told s.uses.rest' s.uses.left in
    rw c.number.ensures (ahead-refused f c.loop-fault.reader c.next_line.new.reader c.loop-fault.draft c.take_line.new.draft (g.S.Source.left c.loop-fault.source) (g.S.Source.left c.next_line.new.source) bytes s
    c.in-Some.why reads.2))
