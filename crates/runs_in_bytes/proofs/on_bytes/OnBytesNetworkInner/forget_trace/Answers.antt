use Rattle.runs_in_bytes.proofs.on_bytes.OnBytesNetworkInner.forget_trace.Goals as goal

pub returns-clause-follows : goal.returns-clause-follows
returns-clause-follows g c = λ ss had.
    let has = rw (← c.self.view_is) at had in
    rw c.forget_trace.ensures (record {
      ran = has.ran;
      shows = record { states = has.shows.states; kept = has.shows.kept; up = has.shows.up; packets = has.shows.packets };
    })

pub returns-clause-sound : goal.returns-clause-sound
returns-clause-sound g c = λ had.
    let is = rw (← c.self.view_is) at had in
    let world = is.world.world in
    rw c.forget_trace.ensures (record {
      own = is.own;
      world = record {
        world = record {
          nodes = world.nodes;
          states = world.states;
          packets = world.packets;
          few_packets = world.few_packets;
          few_steps = world.few_steps;
          in_order = world.in_order;
        };
        nodes = is.world.nodes;
        stopped = is.world.stopped;
      };
      shown = is.shown;
      shows = record { states = is.shows.states; kept = is.shows.kept; up = is.shows.up; packets = is.shows.packets };
    })
