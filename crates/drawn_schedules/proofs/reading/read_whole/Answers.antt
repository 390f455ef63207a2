use Rattle.std.proofs.Common.{◌∙◌}
use Rattle.drawn_schedules.proofs.Giving.{gave-more}
use Rattle.drawn_schedules.proofs.reading.read_whole.Goals as goal

pub loop-preserved : goal.loop-preserved
loop-preserved g c =
    let left = g.S.Source.left in
    let old = left c.args.source.now in
    let mid = left c.loop.source in
    let new = left c.read.new.self in
    let read = c.in-Got.ensures.read in
    let gave = gave-more old mid new c.loop.bytes.items _ _ c.in-Got.count c.loop.invariant.told read.1 read.2 in
    record {
      told = rw c.in_ok-extend_from_slice-in-Got.ensures.items gave;
      quiet = read.3 ∙ c.loop.invariant.quiet;
    }
