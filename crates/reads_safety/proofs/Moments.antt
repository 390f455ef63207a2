-- Two moments of a run with reads.
use Rattle.std.proofs.Common.{◌≡◌, ℕ, ◌≤◌, inl, inr, true, false, Bool, List, ◌++◌, length, take, cond, refl, ◌∙◌, ap, arith}
use Rattle.std.proofs.lemmas.List.{length-take}
use Rattle.vst_base.specs.Elections.{is_majority}
use Rattle.vst_base.specs.Logs.{term_at}
use Rattle.vst_base.specs.declared.entry.Entry.{Entry}
use Rattle.vst_base.specs.declared.step.Step.{Step}
use Rattle.raft_free.specs.Nodes as free
use Rattle.raft_types.specs.declared.client.RaftInput.{RaftInput}
use Rattle.raft_xform.specs.declared.role.Role.{Role}
use Rattle.raft_xform.specs.declared.role.Role.TheVariants as role
use Rattle.raft_xform.specs.Nodes.{RaftView, is_leader}
use Rattle.linearizability.specs.Linearizable.{Seen}
use Rattle.raft_safety.specs.Applied.{applied_by}
use Rattle.raft_safety.specs.Mirrors.{free_role}
use Rattle.raft_safety.specs.Runs as raft_runs
use Rattle.raft_safety.specs.Runs.{AreMoments, Leads}
use Rattle.raft_safety.proofs.Freed.{free_node, node_is}
use Rattle.raft_safety.proofs.Growing.{whole}
use Rattle.raft_safety.proofs.Remembering.{Sofar}
use Rattle.raft_safety.proofs.Safe.{Moment, free_leads, moment, run_election_safety}
use Rattle.raft_reads.specs.Clusters.{ReadCluster, ReadWorld, world_after}
use Rattle.raft_reads.specs.Erasing.{erased, erased_from, erased_world}
use Rattle.reads_safety.specs.Runs.{IsRun}
use Rattle.raft_reads.proofs.Erasing.{erased_append}
use Rattle.reads_safety.proofs.Erased.{erased_after, erased_run}
use Rattle.reads_safety.proofs.Indexing.{Holds, read_index}
use Rattle.reads_safety.proofs.Staying.{IsOver, Still, over_run, still_run, term_run}

take_short : {A : Type 0} (k : ℕ) (xs : List A) → length (take k xs) ≤ k
take_short k xs = omega (arith, length-take k xs)

-- a free node that leads is up, and its node leads
leads_back : {S C O : Type 0} (b : Bool) (s : RaftView S C O) → (free_node b s).role ≡ free.Leader → (b ≡ true) × (is_leader s.role ≡ true)
leads_back b s e = go b s.role e
  where
    go : (b : Bool) (r : Role) → cond b (free_role r) free.Follower ≡ free.Leader → (b ≡ true) × (is_leader r ≡ true)
    go true role.Leader e = (refl, refl)
    go true role.Candidate e = absurd (cc e)
    go true role.Follower e = absurd (cc e)
    go false r e = absurd (cc e)

module _ {S C O : Type 0} (c : ReadCluster S C O) where
  abbrev pub LeadsIn : ReadWorld S C O → ℕ → ℕ → Type 0
  LeadsIn w i t = Leads (erased_world w) i t

  pub moments : (early late : List (Step (RaftInput C))) → IsRun c (early ++ late) →
      AreMoments c.machine c.nodes (erased_world (world_after c early)) (erased_world (world_after c (early ++ late)))
  moments early late r = record {
    early = erased c early;
    late = erased_from c (world_after c early) late;
    run = rw (erased_append c _ early late) at (erased_run c (early ++ late) r);
    first = erased_after c early;
    second = erased_after c (early ++ late) ∙ ap (raft_runs.world_after c.machine c.nodes) (erased_append c _ early late);
  }

  two : (early late : List (Step (RaftInput C))) → IsRun c (early ++ late) →
      Moment c.machine c.nodes (erased_world (world_after c early)) (erased_world (world_after c (early ++ late)))
  two early late r = moment _ _ _ _ (moments early late r)

  -- no node's term falls
  pub terms_grow : (early late : List (Step (RaftInput C))) → IsRun c (early ++ late) → (k : ℕ) →
      ((world_after c early).state k).raft.ballot.term ≤ ((world_after c (early ++ late)).state k).raft.ballot.term
  terms_grow early late r k =
      let t = two early late r in
      rw (node_is t.before.mirrors k, node_is t.after.mirrors k) at (term_run c.nodes k t.after.late t.before.world t.after.world t.after.run)

  pub one_leader : (early late : List (Step (RaftInput C))) → IsRun c (early ++ late) → (i j t : ℕ) → LeadsIn (world_after c early) i t → LeadsIn (world_after c (early ++ late)) j t → i ≡ j
  one_leader early late r i j t li lj = run_election_safety S C O c.machine c.nodes _ _ i j t (moments early late r) li lj

  abbrev StillIn : ReadWorld S C O → ℕ → ℕ → ℕ → Type 0
  StillIn w i t commit = Still t commit (free_node (w.is_up i) (w.state i).raft)

  still_later : (early late : List (Step (RaftInput C))) → IsRun c (early ++ late) → (i t commit : ℕ) → StillIn (world_after c early) i t commit → StillIn (world_after c (early ++ late)) i t commit
  still_later early late r i t commit s =
      let m = two early late r in
      (rw (node_is m.before.mirrors i, node_is m.after.mirrors i) at (still_run c.nodes t commit i m.after.late m.before.world m.after.world m.after.run)) s

  over_later : (early late : List (Step (RaftInput C))) → IsRun c (early ++ late) → (i t : ℕ) → IsOver t (free_node ((world_after c early).is_up i) ((world_after c early).state i).raft) →
      IsOver t (free_node ((world_after c (early ++ late)).is_up i) ((world_after c (early ++ late)).state i).raft)
  over_later early late r i t s =
      let m = two early late r in
      (rw (node_is m.before.mirrors i, node_is m.after.mirrors i) at (over_run c.nodes t i m.after.late m.before.world m.after.world m.after.run)) s

  led : (w : ReadWorld S C O) (i t : ℕ) → LeadsIn w i t → StillIn w i t 0
  led w i t l = inl (record { term = l.term; role = free_leads (erased_world w) i t l; commit = omega arith })

  -- a node that leads in a term leads in it at each moment between
  not_over : (w : ReadWorld S C O) (i t : ℕ) → LeadsIn w i t → IsOver t (free_node (w.is_up i) (w.state i).raft) → ⊥
  not_over w i t l (inl lt) = omega (arith, l.term)
  not_over w i t l (inr f) = cc (f.1, free_leads (erased_world w) i t l)

  pub leads_between : (early mid late : List (Step (RaftInput C))) → IsRun c (early ++ mid) → IsRun c ((early ++ mid) ++ late) → (i t : ℕ) →
      LeadsIn (world_after c early) i t → LeadsIn (world_after c ((early ++ mid) ++ late)) i t → LeadsIn (world_after c (early ++ mid)) i t
  leads_between early mid late r q i t first last = go (still_later early mid r i t 0 (led (world_after c early) i t first))
    where
      go : StillIn (world_after c (early ++ mid)) i t 0 → LeadsIn (world_after c (early ++ mid)) i t
      go (inl l) = let b = leads_back ((world_after c (early ++ mid)).is_up i) ((world_after c (early ++ mid)).state i).raft l.role in record { up = b.0; leader = b.1; term = l.term }
      go (inr o) = absurd (not_over (world_after c ((early ++ mid) ++ late)) i t last (over_later (early ++ mid) late q i t o))

  -- what was applied by any node by now
  index_here : (w : ReadWorld S C O) (seen : Seen C O) (best : List (Entry C)) → Sofar c.machine c.nodes (erased_world w) seen best → (i : ℕ) →
      LeadsIn w i (w.state i).raft.ballot.term → term_at (w.state i).raft.log (w.state i).raft.commit ≡ (w.state i).raft.ballot.term →
      (quorum : ℕ → Bool) → is_majority c.nodes quorum ≡ true → ((k : ℕ) → quorum k ≡ true → (w.state k).raft.ballot.term ≤ (w.state i).raft.ballot.term) →
      length best ≤ (w.state i).raft.commit
  index_here w seen best s i leads own quorum most low = omega (arith, low_commit, a, b)
    where
      holds : Holds C c.nodes s.world i
      holds = record {
        leads = rw (node_is s.mirrors i) (free_leads (erased_world w) i _ leads);
        own = rw (node_is s.mirrors i) own;
        quorum = quorum;
        most = most;
        low = λ k e. rw (node_is s.mirrors i, node_is s.mirrors k) (low k e);
      }

      low_commit : (s.was.at.node s.was.who).applied ≤ (w.state i).raft.commit
      low_commit = rw (node_is s.mirrors i) at (read_index c.nodes s.world i holds s.was.at s.was.who s.was.moments)

      a : length best ≡ length (take (s.was.at.node s.was.who).applied (s.was.at.node s.was.who).log)
      a = ap length s.was.is

      b : length (take (s.was.at.node s.was.who).applied (s.was.at.node s.was.who).log) ≤ (s.was.at.node s.was.who).applied
      b = take_short (s.was.at.node s.was.who).applied (s.was.at.node s.was.who).log

  pub index : (ss : List (Step (RaftInput C))) → IsRun c ss → (i : ℕ) → let w = world_after c ss in
      LeadsIn w i (w.state i).raft.ballot.term → term_at (w.state i).raft.log (w.state i).raft.commit ≡ (w.state i).raft.ballot.term →
      (quorum : ℕ → Bool) → is_majority c.nodes quorum ≡ true → ((k : ℕ) → quorum k ≡ true → (w.state k).raft.ballot.term ≤ (w.state i).raft.ballot.term) →
      length (applied_by c.machine c.nodes (erased c ss)) ≤ (w.state i).raft.commit
  index ss r i = index_here (world_after c ss) _ _ (rw (← erased_after c ss) at (whole c.machine c.nodes (erased c ss) (erased_run c ss r)).sofar) i
