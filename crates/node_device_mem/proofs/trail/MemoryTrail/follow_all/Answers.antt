-- An act that is not reached, one that is done, and the end of the list.
use Rattle.std.proofs.Common.{◌<◌, ◌≤◌, ◌+◌, ◌-◌, length, take, drop, sym, ap, ◌∙◌, arith}
use Rattle.disk.specs.Images.{followed}
use Rattle.node_device_mem.specs.Histories.{all_acts}
use Rattle.node_device_mem.specs.MemoryTrails.{trail_of}
use Rattle.node_device_mem.proofs.Following.{stops_at, goes_on, ends_at}
use Rattle.node_device_mem.proofs.trail.MemoryTrail.follow_all.Goals as goal

pub returns-then-left-act : goal.returns-then-left-act
returns-then-left-act c =
    let some : c.loop-act.act-index < length c.args.past.now = omega arith in
    λ clock from nows.
    sym (stops_at (trail_of c.loop-act.self) clock c.args.past.now c.loop-act.act-index c.act-item.result from nows c.loop-act.left c.act-item.is some c.if-left-act.true)
    ∙ c.loop-act.invariant clock from nows

pub loop-act-preserved : goal.loop-act-preserved
loop-act-preserved c =
    let some : c.loop-act.act-index < length c.args.past.now = omega arith in
    λ clock from nows.
    ap (λ trail. followed trail (take (c.loop-act.left - (c.act-item.result.nows + 1)) (all_acts clock (drop (c.loop-act.act-index + 1) c.args.past.now) from nows))) c.in_ok-follow.ensures
    ∙ (sym (goes_on (trail_of c.loop-act.self) clock c.args.past.now c.loop-act.act-index c.act-item.result from nows c.loop-act.left c.act-item.is some c.if-left-act.false)
    ∙ c.loop-act.invariant clock from nows)

pub returns : goal.returns
returns c =
    let none : length c.args.past.now ≤ c.loop-act.act-index = omega arith in
    λ clock from nows.
    sym (ends_at (trail_of c.loop-act.self) clock c.args.past.now c.loop-act.act-index from nows c.loop-act.left none) ∙ c.loop-act.invariant clock from nows
