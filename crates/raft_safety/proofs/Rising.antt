-- A leader's commit rises by the rule alone.
use Rattle.std.proofs.Common.{◌≡◌, ℕ, true, ◌&&◌, List, [], ◌∷◌, Option, Some, None, eqb, ltb, refl, arith}
use Rattle.std.proofs.lemmas.Bool.{and_parts, eqb-true}
use Rattle.net_semantics.specs.RunLaws.{run_from-append}
use Rattle.net_semantics.specs.Steps.{Event, after_event, copied, event_in, next_in, rebooted, with_packets}
use Rattle.net_semantics.specs.Worlds.{Packet, change_at, first_world}
use Rattle.vst_base.specs.Logs.{term_at}
use Rattle.vst_base.specs.Elections.{is_majority, holders, may_commit}
use Rattle.vst_base.specs.Machines.{MachineMeaning}
use Rattle.vst_base.specs.Nets.{AtNode, OfPacket, Starts, StepView, Stops, view_of}
use Rattle.raft_commit.specs.Peers.{matched_of}
use Rattle.raft_free.specs.Nodes as free
use Rattle.raft_types.specs.Messages.{KeptView}
use Rattle.raft_types.specs.declared.client.RaftInput.{RaftInput}
use Rattle.raft_types.specs.declared.client.RaftOut.{RaftOut}
use Rattle.raft_types.specs.declared.msg.RaftMsg.{RaftMsg}
use Rattle.raft_xform.specs.Nodes.{RaftView, is_leader}
use Rattle.raft_xform.specs.Raft.{raft, raft_recovery}
use Rattle.raft_safety.specs.Mirrors.{Mirrors}
use Rattle.raft_safety.specs.Runs.{Leads, RaftWorld, world_after}
use Rattle.raft_safety.specs.Safety.{CommitsByTheRule, CommitsRiseByTheRule}
use Rattle.raft_safety.proofs.Mirroring.{first_taken, puts}
use Rattle.raft_safety.proofs.Refining.{Rises}
use Rattle.raft_safety.proofs.Safe.{goes, parts}
use Rattle.raft_safety.proofs.Turning.{IsTakenIn, Stands, turn}

module _ {S C O : Type 0} (m : MachineMeaning S C O) (n : ℕ) (w : RaftWorld S C O) (v : free.FreeWorld C) (mirrors : Mirrors w v) (stands : Stands m n w) where
  -- of a node that was in w, and is in this state now
  abbrev IsRule : ℕ → RaftView S C O → Type 0
  IsRule i s = is_leader s.role ≡ true → Rises n i (w.state i) s

  -- a node to which nothing happened
  unmoved : (i : ℕ) → IsRule i (w.state i)
  unmoved i l less = absurd (omega (arith, less))

  at_event : (s : StepView (RaftInput C)) → IsTakenIn m n w s → (e : Event (RaftView S C O) (RaftInput C) (RaftOut O) (RaftMsg C)) → event_in (raft n m) w s ≡ Some e →
      (ps : List (Packet (RaftMsg C))) (i : ℕ) → IsRule i ((after_event (with_packets w ps) (Some e)).state i)
  at_event s taken e is ps =
      puts IsRule w.state e.node e.effect.state (turn m n w v [] mirrors stands s taken e is).refined.rises (λ j ne. unmoved j)

  rebooted_rule : (k : ℕ) (o : Option (KeptView C)) (i : ℕ) → IsRule i ((rebooted (raft_recovery m) w k o).state i)
  rebooted_rule k None i = unmoved i
  rebooted_rule k (Some kept) i = puts IsRule w.state k ((raft_recovery m).reboot k kept) (λ l less. absurd (omega (arith, less))) (λ j ne. unmoved j) i

  pub next_rule : (s : StepView (RaftInput C)) → IsTakenIn m n w s → (i : ℕ) → IsRule i ((next_in (raft n m) (raft_recovery m) w s).state i)
  next_rule (AtNode k q) taken = at_event (AtNode k q) taken _ refl w.packets
  next_rule (OfPacket k fate) taken = by_event (event_in (raft n m) w (OfPacket k fate)) refl
    where
      by_event : (o : Option (Event (RaftView S C O) (RaftInput C) (RaftOut O) (RaftMsg C))) → event_in (raft n m) w (OfPacket k fate) ≡ o →
          (i : ℕ) → IsRule i ((after_event (with_packets w (change_at (copied fate) k w.packets)) o).state i)
      by_event None at = unmoved
      by_event (Some e) at = at_event (OfPacket k fate) taken e at (change_at (copied fate) k w.packets)
  next_rule (Stops k) taken = unmoved
  next_rule (Starts k) taken = rebooted_rule k (w.kept k)

by_the_rule : {S C O : Type 0} (n : ℕ) (w : RaftWorld S C O) (i term commit : ℕ) → Leads w i term →
    may_commit n i (matched_of (w.state i).peers) (w.state i).log (w.state i).ballot.term commit (w.state i).commit ≡ true → CommitsByTheRule n w i term (w.state i).commit
by_the_rule n w i term commit l may =
    let s = w.state i in
    let a = and_parts (ltb commit s.commit) (eqb (term_at s.log s.commit) s.ballot.term && is_majority n (holders i (matched_of s.peers) s.commit)) may in
    let b = and_parts (eqb (term_at s.log s.commit) s.ballot.term) (is_majority n (holders i (matched_of s.peers) s.commit)) a.1 in
    record { leads = l; own = rw (l.term) at (eqb-true _ _ b.0); most = b.1; up_to = omega arith }

pub commits_rise_by_the_rule : (S C O : Type 0) → CommitsRiseByTheRule S C O
commits_rise_by_the_rule S C O m n ss s i term r l less =
    let p = parts m n (first_world (raft n m)) ss (s ∷ []) r.allowed in
    let g = goes m n ss (record { size = r.size; allowed = p.0 }) in
    let rule = next_rule m n (world_after m n ss) g.world g.mirrors g.stands (view_of s) (first_taken m n (world_after m n ss) s [] p.1).0 i in
    let after = run_from-append (raft n m) (raft_recovery m) (first_world (raft n m)) ss (s ∷ []) in
    by_the_rule n _ i term ((world_after m n ss).state i).commit l ((rw (← after) at rule) l.leader less)
