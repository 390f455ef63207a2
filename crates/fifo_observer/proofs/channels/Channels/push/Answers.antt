use Rattle.std.proofs.Common.{◌++◌, ◌∷◌, [], ap, arith, subst, sym, ◌∙◌}
use Rattle.lanes.specs.Lanes.{lane}
use Rattle.fifo_observer.specs.Channels.{Follows}
use Rattle.fifo_observer.proofs.Counting.{follows-more}
use Rattle.fifo_observer.proofs.channels.Channels.push.Goals as goal

pub returns-clause-follows : goal.returns-clause-follows
returns-clause-follows c = λ es f.
    let now = c.self.inside in
    let place = c.lane-lane.result in
    let is = c.lane-lane.ensures ∙ ap (λ s. lane s c.index-2.result) c.index.ensures ∙ ap (lane c.args.source) c.index-2.ensures in
    let more = follows-more now.lists c.push.new.self now.numbers.items es c.args.source c.args.destination place c.len_of-number.result c.len-packet.result
    (omega (arith, c.index.type_inv, c.index.ensures)) (omega (arith, c.index-2.type_inv, c.index-2.ensures)) is c.in_ok-push.ensures.there c.in_ok-push.ensures.others
    c.len_of-number.ensures (c.len-packet.ensures ∙ now.numbers.ok.0) (subst (λ x. Follows x es) (sym c.self.view_is) f) in
    subst (λ ns. Follows (record { lists = c.push.new.self; numbers = ns }) (es ++ (c.args.source, c.args.destination) ∷ [])) (sym c.in_ok-push-2.ensures.items) more
