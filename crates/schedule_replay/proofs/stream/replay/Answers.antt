use Rattle.std.proofs.Common.{Ok, Err, ap, ◌∙◌, subst}
use Rattle.line_reader.specs.Readers.{ReaderView}
use Rattle.schedule_text.specs.Streams.{HeaderIsNear, ReadsHeader}
use Rattle.schedule_text.specs.HeaderLaws.{header_of-row}
use Rattle.vst_base.specs.Stacks.{row_of}
use Rattle.stacks.specs.Fits.{IsFit}
use Rattle.stacks.specs.Stack.{stack}
use Rattle.stacks.specs.Table.{kind_at}
use Rattle.stacks.proofs.Found.{mapped-found, weaker-found}
use Rattle.schedule_replay.proofs.Openings.{found-comes, header-comes, header-then, fresh-rest, going-of, kept-all, kept-header, kept-unread}
use Rattle.schedule_replay.proofs.stream.replay.Goals as goal
use Rattle.lists.specs.Options.{if_some}

pub on_stack-requires : goal.on_stack-requires
on_stack-requires g c =
    let h = c.in-Ok.header in
    let known = header_of-row c.read_header.new.reader.line h c.in-Ok.ensures.header in
    let kind = kind_at h.net h.stack in
    let there = weaker-found kind (IsFit (row_of h.stack)) (λ _. Unit {0}) (λ k fit. tt) (c.headers_have_stacks.ensures h known) in
    record { known = known; ready = mapped-found kind (λ k. stack k h.nodes) (λ _. Unit {0}) there }

pub returns-in-Err-clause-told : goal.returns-in-Err-clause-told
returns-in-Err-clause-told g c =
    let left = g.S.Source.left c.args.source.now in
    let left' = g.S.Source.left c.read_header.new.source in
    let out = g.K.Sink.written c.args.sink.now in
    let new = c.read_header.new.reader in
    let r = c.in_ok-reader.reader in
    let y = c.in-Err.fault in
    if_some _ left (λ bytes told.
    let reads = c.in-Err.ensures.told bytes (fresh-rest r left bytes c.in_ok-reader.ensures told) in
    header-comes new left' out bytes y c.replay_fault.result c.replay_fault.ensures (subst (λ (v : ReaderView). ReadsHeader v new left' bytes (Err y)) c.in_ok-reader.ensures reads))

pub returns-clause-told : goal.returns-clause-told
returns-clause-told g c =
    let left = g.S.Source.left c.args.source.now in
    let mid = g.S.Source.left c.read_header.new.source in
    let left' = g.S.Source.left c.on_stack.new.a in
    let out = g.K.Sink.written c.args.sink.now in
    let out' = g.K.Sink.written c.on_stack.new.b in
    let new = c.read_header.new.reader in
    let r = c.in_ok-reader.reader in
    let h = c.in-Ok.header in
    let is = c.in_ok-reader.ensures in
    let rests = found-comes h new mid left' out out' _ _ _ _ _ _ c.on_stack.result c.on_stack.ensures in
    if_some _ left (λ bytes told.
    let reads = subst (λ (v : ReaderView). ReadsHeader v new mid bytes (Ok h)) is (c.in-Ok.ensures.told bytes (fresh-rest r left bytes is told)) in
    header-then h new (c.read_header.ensures.kept.0 ∙ ap (λ (v : ReaderView). v.most) is) (c.read_header.ensures.kept.1 ∙ ap (λ (v : ReaderView). v.events) is) reads.0 reads.3
    mid left' out out' bytes reads.1 c.on_stack.result (going-of new.ended _ _ _ _ c.on_stack.result rests.fault) (rests.told reads.1.rest' reads.1.left))

pub returns-in_err-reader-clause-kept_up : goal.returns-in_err-reader-clause-kept_up
returns-in_err-reader-clause-kept_up g c =
    let left = g.S.Source.left c.args.source.now in
    if_some _ left (λ bytes told. kept-unread left (g.K.Sink.written c.args.sink.now) bytes told)

pub returns-in-Err-clause-kept_up : goal.returns-in-Err-clause-kept_up
returns-in-Err-clause-kept_up g c =
    let left = g.S.Source.left c.args.source.now in
    let left' = g.S.Source.left c.read_header.new.source in
    let r = c.in_ok-reader.reader in
    let is = c.in_ok-reader.ensures in
    if_some _ left (λ bytes told. kept-header left' (g.K.Sink.written c.args.sink.now) bytes
    (subst (λ (v : ReaderView). HeaderIsNear v left' bytes) is (c.read_header.ensures.near bytes (fresh-rest r left bytes is told))))

pub returns-clause-kept_up : goal.returns-clause-kept_up
returns-clause-kept_up g c =
    let left = g.S.Source.left c.args.source.now in
    let mid = g.S.Source.left c.read_header.new.source in
    let left' = g.S.Source.left c.on_stack.new.a in
    let out = g.K.Sink.written c.args.sink.now in
    let out' = g.K.Sink.written c.on_stack.new.b in
    let new = c.read_header.new.reader in
    let r = c.in_ok-reader.reader in
    let h = c.in-Ok.header in
    let is = c.in_ok-reader.ensures in
    let rests = found-comes h new mid left' out out' _ _ _ _ _ _ c.on_stack.result c.on_stack.ensures in
    if_some _ left (λ bytes told.
    let has = fresh-rest r left bytes is told in
    let reads = subst (λ (v : ReaderView). ReadsHeader v new mid bytes (Ok h)) is (c.in-Ok.ensures.told bytes has) in
    let near = subst (λ (v : ReaderView). HeaderIsNear v mid bytes) is (c.read_header.ensures.near bytes has) in
    kept-all h new (c.read_header.ensures.kept.0 ∙ ap (λ (v : ReaderView). v.most) is) (c.read_header.ensures.kept.1 ∙ ap (λ (v : ReaderView). v.events) is) reads.0 reads.3
    mid left' out out' bytes reads.1 near rests.kept_up)
