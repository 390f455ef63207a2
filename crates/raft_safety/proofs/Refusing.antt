-- Which answers to a leader's entries never come.
use Rattle.std.proofs.Common.{◌≡◌, ◌≢◌, ℕ, true, false, List, ◌++◌, refl, subst}
use Rattle.net_semantics.specs.Worlds.{Packet}
use Rattle.vst_base.specs.Logs.{has_conflict}
use Rattle.vst_base.specs.Machines.{MachineMeaning}
use Rattle.vst_base.specs.declared.entry.Entry.{Entry}
use Rattle.raft_free.specs.Events.{Comes, In}
use Rattle.raft_free.specs.Nodes as free
use Rattle.raft_free.specs.Runs.{Reached}
use Rattle.raft_free.proofs.Refusals.{no_committed_conflict, no_rival_appends}
use Rattle.raft_types.specs.Messages.{AppendView}
use Rattle.raft_types.specs.declared.msg.RaftMsg.{RaftMsg}
use Rattle.raft_types.specs.declared.msg.RaftMsg.TheVariants as msg
use Rattle.raft_xform.specs.declared.role.Role.{Role}
use Rattle.raft_xform.specs.declared.role.Role.TheVariants as role
use Rattle.raft_xform.specs.Electing.{heard}
use Rattle.raft_xform.specs.Nodes.{RaftView, is_leader}
use Rattle.raft_safety.specs.Runs.{IsReached, RaftWorld, seen}
use Rattle.raft_safety.specs.Mirrors.{Mirrors, free_packet, free_role}
use Rattle.raft_safety.specs.Safety.{NoCommittedConflict, NoRivalAppends}
use Rattle.raft_safety.proofs.Acting.{Reaches, steps_reach}
use Rattle.raft_safety.proofs.Freed.{node_is}
use Rattle.raft_safety.proofs.Mirroring.{Goes, run_then}
use Rattle.raft_safety.proofs.Refining.{Hears, hears, up}
use Rattle.raft_safety.proofs.Safe.{goes_to}
use Rattle.raft_safety.proofs.Turning.{Stands}

not_leading : (r : Role) → free_role r ≢ free.Leader → is_leader r ≡ false
not_leading role.Leader ne = absurd (ne refl)
not_leading role.Candidate ne = refl
not_leading role.Follower ne = refl

same_conflict : {C : Type 0} (x y : List (Entry C)) (j k prev : ℕ) (es : List (Entry C)) → x ≡ y → j ≡ k → has_conflict x j prev es ≡ false → has_conflict y k prev es ≡ false
same_conflict x y j k prev es p q h = rw (← p, ← q) h

-- where the node that the entries come to has heard of their term
record Meets {S C O : Type 0} (n : ℕ) (s : RaftView S C O) (i from : ℕ) (a : AppendView C) : Type 0 where
  world : free.FreeWorld C
  reached : Reached C n world
  node : world.node i ≡ up s
  comes : Comes world.sent (world.node i) from i (free.Append a.prev_index a.prev_term a.entries a.commit)

module _ {S C O : Type 0} (m : MachineMeaning S C O) (n : ℕ) where
  -- a node that is up hears of the term of a message that came
  hears_it : {w : RaftWorld S C O} {v : free.FreeWorld C} → Mirrors w v → Stands m n w → (p : Packet (RaftMsg C)) (a : AppendView C) → In p w.packets → p.content ≡ msg.Append a →
      Hears m n p.destination (λ _. Unit {0}) (λ _. tt) v.sent (w.state p.destination) a.term (heard a.term (w.state p.destination))
  hears_it {w = w} {v = v} mirrors stands p a here is =
      let k = stands.sound p.destination (stands.good p here).below in
      let came : In (free_packet p.source p.destination (msg.Append a)) v.sent = subst (λ x. In (free_packet p.source p.destination x) v.sent) is (mirrors.sent p here) in
      hears m n p.destination (λ _. Unit {0}) (λ _. tt) (w.state p.destination) p.source (msg.Append a) k.peers k.applied v.sent came

  meets : (w : RaftWorld S C O) → IsReached m n w → (p : Packet (RaftMsg C)) (a : AppendView C) → In p w.packets → p.content ≡ msg.Append a → w.is_up p.destination ≡ true →
      (heard a.term (w.state p.destination)).ballot.term ≡ a.term → Meets n (heard a.term (w.state p.destination)) p.destination p.source a
  meets w r p a here is is_up same = record {
    world = reach.world;
    reached = record { events = g.late ++ h.does.events; run = run_then n g.late h.does.events (free.first_world C) g.world reach.world g.run reach.run };
    node = reach.node;
    comes = rw (reach.sent, reach.node, same) (h.does.old _ came);
  }
    where
      g : Goes m n (free.first_world C) w (seen m n r.steps)
      g = goes_to m n w r

      h : Hears m n p.destination (λ _. Unit {0}) (λ _. tt) g.world.sent (w.state p.destination) a.term (heard a.term (w.state p.destination))
      h = hears_it g.mirrors g.stands p a here is

      came : In (free_packet p.source p.destination (msg.Append a)) g.world.sent
      came = subst (λ x. In (free_packet p.source p.destination x) g.world.sent) is (g.mirrors.sent p here)

      reach : Reaches n p.destination g.world h.does.events h.does.new (up (heard a.term (w.state p.destination)))
      reach = steps_reach n p.destination h.does.events g.world h.does.new (up (heard a.term (w.state p.destination))) (rw (node_is g.mirrors p.destination, is_up) h.does.steps)

pub run_no_rival_appends : (S C O : Type 0) → NoRivalAppends S C O
run_no_rival_appends S C O m n w p a r c =
    let t = meets m n w r p a c.sent c.entries c.up c.term in
    not_leading _ (rw (t.node) at (no_rival_appends C n t.world p.destination p.source a.prev_index a.prev_term a.commit a.entries t.reached t.comes))

pub run_no_committed_conflict : (S C O : Type 0) → NoCommittedConflict S C O
run_no_committed_conflict S C O m n w p a r c =
    let g = goes_to m n w r in
    let h = hears_it m n g.mirrors g.stands p a c.sent c.entries in
    let t = meets m n w r p a c.sent c.entries c.up c.term in
    same_conflict _ _ _ _ a.prev_index a.entries h.log h.commit
    (rw (t.node) at (no_committed_conflict C n t.world p.destination p.source a.prev_index a.prev_term a.commit a.entries t.reached t.comes))
