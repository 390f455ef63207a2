use Rattle.std.proofs.Common.{sym}
use Rattle.line_reader.proofs.Cutting.{cut-nowhere, cut-place, drop-one}
use Rattle.line_reader.proofs.cuts.cut_at.Goals as goal

pub returns-in-Some : goal.returns-in-Some
returns-in-Some c =
    let found = c.in-Some.ensures in
    let bytes = c.args.bytes.now in
    let place = c.in-Some.place in
    rw (c.split_at.ensures.front, c.split_at-in-Some.ensures.back, c.split_at.ensures.back, drop-one place bytes) (sym (cut-place c.args.at place bytes found.0.before found.0.high found.1))

pub returns-in-None : goal.returns-in-None
returns-in-None c = sym (cut-nowhere c.args.at c.args.bytes.now c.in-None.ensures)
