use Rattle.std.proofs.Common.{refl, Some, sym, ap, arith}
use Rattle.schedule_text.proofs.FrontLaws.{strip_prefix-short, strip_prefix-compares}
use Rattle.schedule_text.proofs.headers.strip_prefix.Goals as goal

pub returns-then-line-front : goal.returns-then-line-front
returns-then-line-front c = sym (strip_prefix-short c.args.front.now c.args.line.now (omega arith))

pub returns-then-eq : goal.returns-then-eq
returns-then-eq c = rw (strip_prefix-compares c.args.front.now c.args.line.now c.if-line-front.false, ← c.split_at.ensures.front, ← c.if-eq.ensures) (ap Some c.split_at.ensures.back)

pub returns-else-eq : goal.returns-else-eq
returns-else-eq c = rw (strip_prefix-compares c.args.front.now c.args.line.now c.if-line-front.false, ← c.split_at.ensures.front, ← c.if-eq.ensures) refl
