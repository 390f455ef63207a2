use Rattle.std.proofs.Common.{◌≡◌, ◌≤◌, ◌++◌, length, take, drop, ap, ◌∙◌, arith}
use Rattle.std.proofs.lemmas.List.{take-take, take-append-le}
use Rattle.node_config.proofs.reading.read_text.Goals as goal
use Rattle.lists.specs.Options.{if_some, of_some}

pub returns-in-Some-clause-text : goal.returns-in-Some-clause-text
returns-in-Some-clause-text g c =
    let s = g.S.Source in
    let len = c.in-Some.len in
    let first = c.deref_mut.result.now in
    let filled = c.fill.new.buf in
    let rest = drop (length filled) c.in_ok-text.text.items in
    let size : length first ≡ 65537 = c.deref_mut.ensures.len ∙ c.in_ok-text.ensures.len in
    let whole : length filled ≡ length first = c.fill.auto.buf in
    let within : len ≤ c.in_ok-text.text.len = omega (arith, c.in-Some.ensures.count, c.in_ok-text.ensures.len, size) in
    let fits : len ≤ length filled = omega (arith, c.in-Some.ensures.count, whole) in
    if_some _ (s.left c.args.source.now) (λ bytes is.
    c.truncate.ensures.items
    ∙ (take-take len c.in_ok-text.text.len (filled ++ rest) within
    ∙ (take-append-le len filled rest fits
    ∙ (of_some (λ given. take len filled ≡ take (length first) given) (s.left c.args.source.now) bytes is c.in-Some.ensures.bytes
    ∙ ap (λ n. take n bytes) size))))
