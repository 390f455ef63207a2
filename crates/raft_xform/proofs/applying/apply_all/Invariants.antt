use Rattle.std.proofs.Common.{◌≡◌, ◌++◌, drop}
use Rattle.raft_clients.specs.Sessions.{applied_all}
use Rattle.raft_xform.specs.Applying.{replies}
use Rattle.raft_xform.proofs.applying.apply_all.Given as goal

-- what is owed for the rest, from here, is what is owed for all
abbrev pub invariant-loop-entry : goal.invariant-loop-entry
invariant-loop-entry g l =
    let m = g.M.Machine.meaning l.machine in
    let rest = applied_all m l.state l.sessions (drop l.entry-index l.entries) in
    let all = applied_all m l.initial.state l.initial.sessions l.entries in
    record {
      state : rest.state ≡ all.state;
      sessions : rest.sessions ≡ all.sessions;
      outputs : l.effects.outputs ++ replies l.me rest.answers ≡ l.initial.effects.outputs ++ replies l.me all.answers;
      sends : l.effects.sends ≡ l.initial.effects.sends;
      room : l.effects.send_places ≡ l.initial.effects.send_places;
    }
