use Rattle.line_reader.proofs.Lasts.{last-nowhere, last-place}
use Rattle.line_reader.proofs.ahead.end_of_lines.Goals as goal

pub returns-in-Some : goal.returns-in-Some
returns-in-Some c =
    let found = c.in-Some.ensures in
    last-place 10 c.in-Some.place c.args.bytes.now found.0.high found.0.after found.1

pub returns-in-None : goal.returns-in-None
returns-in-None c = last-nowhere 10 c.args.bytes.now c.in-None.ensures
