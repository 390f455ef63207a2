use Rattle.runs_in_bytes.proofs.in_bytes.InBytesNetwork.forget_trace.Goals as goal

pub returns-clause-follows : goal.returns-clause-follows
returns-clause-follows g c = λ ss had.
    let has = rw (← c.self.view_is) at had in
    rw c.forget_trace.ensures (record {
      ran = has.ran;
      shows = record { states = has.shows.states; up = has.shows.up; packets = has.shows.packets };
    })

pub returns-clause-sound : goal.returns-clause-sound
returns-clause-sound g c = λ had.
    let is = rw (← c.self.view_is) at had in
    rw c.forget_trace.ensures (record {
      own = is.own;
      world = record {
        nodes = is.world.nodes;
        states = is.world.states;
        packets = is.world.packets;
        few_packets = is.world.few_packets;
        few_steps = is.world.few_steps;
        in_order = is.world.in_order;
      };
      shown = is.shown;
      shows = record { states = is.shows.states; up = is.shows.up; packets = is.shows.packets };
    })
