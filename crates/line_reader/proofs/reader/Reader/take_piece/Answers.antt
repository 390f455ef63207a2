use Rattle.std.proofs.Common.{◌≡◌, ◌∷◌, ◌-◌, None, Ok, length, sym, ap, ◌∙◌, arith, length-append}
use Rattle.line_reader.specs.Lines.{cut_at}
use Rattle.line_reader.proofs.Cutting.{cut-parts, none-take}
use Rattle.line_reader.proofs.Taking.{overlong, plain-front, behind-newline}
use Rattle.line_reader.proofs.reader.Reader.take_piece.Goals as goal

pub cut_short-requires-clause-more : goal.cut_short-requires-clause-more
cut_short-requires-clause-more c =
    let ahead = c.self.inside.ahead in
    let parts = cut-parts 10 ahead (c.in-Some.part.now, c.in-Some.field-0-1.now) (ap (cut_at 10) (sym c.bytes.ensures.is) ∙ sym c.in-Some.ensures) in
    let long = c.in_ok-join-in-Some.ensures.long (ap Ok c.if-not-branch.true) in
    let line = c.deref.ensures.value ∙ long.0 in
    omega (arith, ap length line, long.1, ap length parts.whole, length-append c.in-Some.part.now (10 ∷ c.in-Some.field-0-1.now))

pub skip-requires : goal.skip-requires
skip-requires c =
    let parts = cut-parts 10 c.self.inside.ahead (c.in-Some.part.now, c.in-Some.field-0-1.now) (ap (cut_at 10) (sym c.bytes.ensures.is) ∙ sym c.in-Some.ensures) in
    omega (arith, ap length parts.whole, length-append c.in-Some.part.now (10 ∷ c.in-Some.field-0-1.now))

pub returns-then-not-branch-clause-takes : goal.returns-then-not-branch-clause-takes
returns-then-not-branch-clause-takes c =
    let ahead = c.self.inside.ahead in
    let line = c.self.inside.line.items in
    let part = c.in-Some.part.now in
    let parts = cut-parts 10 ahead (part, c.in-Some.field-0-1.now) (ap (cut_at 10) (sym c.bytes.ensures.is) ∙ sym c.in-Some.ensures) in
    let long = c.in_ok-join-in-Some.ensures.long (ap Ok c.if-not-branch.true) in
    let same = c.deref.ensures.value ∙ long.0 in
    let short = rw (← c.self.view_is) at c.requires.room in
    let over = overlong line ahead short (omega (arith, long.1, ap length parts.whole, length-append part (10 ∷ c.in-Some.field-0-1.now))) (plain-front line ahead part c.in-Some.field-0-1.now parts.whole parts.front short long.1) in
    rw (← c.self.view_is, c.cut_short.ensures.is, c.cut_short.ensures.used, same) over

pub returns-then-not-branch-2-clause-takes : goal.returns-then-not-branch-2-clause-takes
returns-then-not-branch-2-clause-takes c =
    let ahead = c.self.inside.ahead in
    let line = c.self.inside.line.items in
    let none : cut_at 10 ahead ≡ None = ap (cut_at 10) (sym c.bytes.ensures.is) ∙ sym c.in-None.ensures in
    let long = c.in_ok-join-in-None.ensures.long (ap Ok c.if-not-branch-2.true) in
    let same = c.deref-then-not-branch-2.ensures.value ∙ long.0 in
    let short = rw (← c.self.view_is) at c.requires.room in
    let over = overlong line ahead short (omega (arith, long.1, ap length c.bytes-in-None.ensures.is)) (none-take 10 (4097 - length line) ahead none) in
    rw (← c.self.view_is, c.cut_short-then-not-branch-2.ensures.is, c.cut_short-then-not-branch-2.ensures.used, same) over

pub returns-else-not-branch-clause-takes : goal.returns-else-not-branch-clause-takes
returns-else-not-branch-clause-takes c =
    let ahead = c.self.inside.ahead in
    let part = c.in-Some.part.now in
    let parts = cut-parts 10 ahead (part, c.in-Some.field-0-1.now) (ap (cut_at 10) (sym c.bytes.ensures.is) ∙ sym c.in-Some.ensures) in
    let joined = c.in_ok-join-in-Some.ensures.joined (ap Ok c.if-not-branch.false) in
    rw (← c.self.view_is) (part, behind-newline ahead part c.in-Some.field-0-1.now c.skip.new.self parts.whole c.skip.ensures, parts.front, joined.0)
