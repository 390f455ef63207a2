-- Leaders alone have reads.
use Rattle.std.proofs.Common.{◌≡◌, ℕ, Bool, true, false, ◌&&◌, List, [], ◌∷◌, Option, Some, None, cond, slice_get, refl}
use Rattle.net_semantics.specs.Steps.{after_event, delivery, rebooted, with_packets}
use Rattle.net_semantics.specs.Worlds.{Packet, change_at, one_less}
use Rattle.vst_base.specs.declared.step.Step.{Step}
use Rattle.vst_base.specs.declared.step.Step.TheVariants as step
use Rattle.raft_types.specs.Messages.{KeptView}
use Rattle.raft_types.specs.Terms.{term_of}
use Rattle.raft_types.specs.declared.client.RaftInput.{RaftInput}
use Rattle.raft_xform.specs.Electing.{tick}
use Rattle.raft_xform.specs.Nodes.{RaftEffect, RaftView, is_leader}
use Rattle.raft_xform.specs.Raft as raft_rules
use Rattle.raft_xform.specs.Replicating.{on_input}
use Rattle.raft_safety.proofs.Mirroring.{puts}
use Rattle.raft_reads.specs.Clusters.{ReadCluster, ReadWorld, first, handlers, next_world, recovery, world_from}
use Rattle.raft_reads.specs.ReadRaft.{ReadEffect, acknowledged, waits, with_reads}
use Rattle.raft_types.specs.Rounds.{ReadMsg}
use Rattle.raft_reads.specs.Reads.{ReadView, Reads, no_reads, still_leads, with_read}
use Rattle.reads_safety.specs.Safety.{OnlyLeadersRead}

record Idle {S C O : Type 0} (nodes : ℕ) (s : ReadView S C O) : Type 0 where
  unless : is_leader s.raft.role ≡ false → s.reads ≡ no_reads nodes

and_false : (b : Bool) → (b && false) ≡ false
and_false true = refl
and_false false = refl

module _ {S C O : Type 0} (c : ReadCluster S C O) where
  gone : (before after : RaftView S C O) → is_leader after.role ≡ false → still_leads before after ≡ false
  gone before after e = rw e (and_false (is_leader before.role))

  idle_with : (me : ℕ) (before : RaftView S C O) (e : RaftEffect S C O) (r : Reads C) (term round : ℕ) → Idle c.nodes (with_reads c.machine c.nodes me before e r term round).state
  idle_with me before e r term round = record { unless = λ down. rw (gone before e.state down) refl }

  either : (b : Bool) (e f : ReadEffect S C O) → Idle c.nodes e.state → Idle c.nodes f.state → Idle c.nodes (cond b e f).state
  either true e f p q = p
  either false e f p q = q

  idle_next : (w : ReadWorld S C O) (s : Step (RaftInput C)) → ((i : ℕ) → Idle c.nodes (w.state i)) → (i : ℕ) → Idle c.nodes ((next_world c w s).state i)
  idle_next w (step.In n q) h =
      let s = w.state n in
      puts (λ i x. Idle c.nodes x) w.state n _ (either (waits c.is_read s q) _ _
      (idle_with n s.raft (tick c.machine c.nodes n s.raft) (with_read s.reads q s.raft.commit) 0 0)
      (idle_with n s.raft (on_input c.machine c.nodes n s.raft q) s.reads 0 0)) (λ j ne. h j)
  idle_next w (step.Tick n) h =
      let s = w.state n in
      puts (λ i x. Idle c.nodes x) w.state n _ (idle_with n s.raft (tick c.machine c.nodes n s.raft) s.reads 0 0) (λ j ne. h j)
  idle_next w (step.Deliver k) h = go (slice_get w.packets k)
    where
      go : (o : Option (Packet (ReadMsg C))) → (i : ℕ) → Idle c.nodes ((after_event (with_packets w (change_at one_less k w.packets)) (delivery (handlers c) w o)).state i)
      go None = h
      go (Some p) =
          let s = w.state p.destination in
          puts (λ i x. Idle c.nodes x) w.state p.destination _
          (idle_with p.destination s.raft (raft_rules.on_message c.machine c.nodes p.destination s.raft p.source p.content.raft) (acknowledged s p.source p.content) (term_of p.content.raft) p.content.round)
          (λ j ne. h j)
  idle_next w (step.Dup k) h = h
  idle_next w (step.Lose k) h = h
  idle_next w (step.Crash n) h = h
  idle_next w (step.Reboot n) h = go (w.kept n)
    where
      go : (o : Option (KeptView C)) → (i : ℕ) → Idle c.nodes ((rebooted (recovery c) w n o).state i)
      go None = h
      go (Some k) = puts (λ i x. Idle c.nodes x) w.state n ((recovery c).reboot n k) (record { unless = λ down. refl }) (λ j ne. h j)

  idle_run : (w : ReadWorld S C O) (ss : List (Step (RaftInput C))) → ((i : ℕ) → Idle c.nodes (w.state i)) → (i : ℕ) → Idle c.nodes ((world_from c w ss).state i)
  idle_run w [] h = h
  idle_run w (s ∷ ss) h = idle_run (next_world c w s) ss (idle_next w s h)

pub only_leaders_read : (S C O : Type 0) → OnlyLeadersRead S C O
only_leaders_read S C O c ss i down = (idle_run c (first c) ss (λ j. record { unless = λ down. refl }) i).unless down
