use Rattle.drawn_schedules.proofs.pictures.Rest.draw.Given as goal

abbrev pub invariant-loop : goal.invariant-loop
invariant-loop g l = record { sound : g.W.Network.sound l.network }
