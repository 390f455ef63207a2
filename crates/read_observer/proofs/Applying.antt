-- What is kept of what a cluster with reads has applied follows a step, by the schedule of Raft.
use Rattle.std.proofs.Common.{◌≡◌, ℕ, List, [], ◌∷◌, ◌++◌, map, Option, Some, None, refl, sym, ap, subst, ◌∙◌}
use Rattle.net_semantics.specs.Runs.{first_refused}
use Rattle.vst_base.specs.declared.step.Step.{Step}
use Rattle.raft_types.specs.Messages.{IsClusterSize, KeptView}
use Rattle.raft_types.specs.Rounds.{ReadMsg}
use Rattle.raft_types.specs.declared.client.RaftInput.{RaftInput}
use Rattle.raft_types.specs.declared.client.RaftOut.{RaftOut}
use Rattle.raft_reads.specs.Clusters.{ReadCluster, recovery, world_after}
use Rattle.raft_reads.specs.Erasing.{erased, erased_step}
use Rattle.raft_reads.specs.Reads.{ReadView}
use Rattle.raft_safety.specs.Applied.{applied_by}
use Rattle.raft_safety.specs.Runs as raft_runs
use Rattle.reads_safety.specs.Orders.{answered}
use Rattle.reads_safety.specs.Runs.{IsRun}
use Rattle.reads_safety.proofs.Erased.{erased_run}
use Rattle.applied_order.specs.Orders.{HasFollowed, OrderView}
use Rattle.xform_stack.proofs.ByNode.{Follows, follows_all}
use Rattle.xform_stack.specs.Systems.{System, world_of}
use Rattle.read_observer.specs.Observed.{IsPlace, cluster_of}
use Rattle.read_observer.proofs.Events.{Stands, answered-at, answered-nowhere, erased-more, erased_state}

module _ {S C O : Type 0} (c : ReadCluster S C O) (follows : List (Step (RaftInput C)) → Type 0) where
  -- what a node tells of each schedule that was followed, of those of Raft
  pub tells : (n : ℕ) (x : ReadView S C O) → ((ss : List (Step (RaftInput C))) → follows ss → x ≡ (world_after c ss).state n) →
      (ts : List (Step (RaftInput C))) → Stands c follows ts → x.raft ≡ (raft_runs.world_after c.machine c.nodes ts).state n
  tells n x told ts stands =
      subst (λ us. x.raft ≡ (raft_runs.world_after c.machine c.nodes us).state n) (sym stands.1) (erased_state c stands.0 n x (told stands.0 stands.2))

  -- and by what system: the state of the node that was looked at
  pub told_of : (sys : System (ReadView S C O) (KeptView C) (RaftInput C) (RaftOut O) (ReadMsg C)) (k n : ℕ) (x : ReadView S C O) → sys ≡ cluster_of c → k ≡ n →
      ((ss : List (Step (RaftInput C))) → follows ss → x ≡ (world_of sys ss).state k) →
      (ss : List (Step (RaftInput C))) → follows ss → x ≡ (world_after c ss).state n
  told_of sys k n x is same told = λ ss followed. told ss followed ∙ ap (λ u. (world_of u ss).state k) is ∙ ap (λ j. (world_after c ss).state j) same

  -- by the schedules of Raft alone
  followed-erased : (old now : OrderView C) → Follows c.machine c.nodes (Stands c follows) c.nodes old now →
      (es : List (Step (RaftInput C))) (t : Step (RaftInput C)) (all : List (Step (RaftInput C))) → all ≡ es ++ t ∷ [] →
      raft_runs.IsRun c.machine c.nodes all → Stands c follows all →
      HasFollowed old (applied_by c.machine c.nodes es) → HasFollowed now (applied_by c.machine c.nodes all)
  followed-erased old now was es t all is run stands had =
      subst (λ ts. HasFollowed now (applied_by c.machine c.nodes ts)) (sym is)
      (follows_all c.machine c.nodes (Stands c follows) old now was es t
      (subst (raft_runs.IsRun c.machine c.nodes) is run) (subst (Stands c follows) is stands) had)

  -- once each node was looked at after a step, what is kept has followed it
  pub followed-step : (old now : OrderView C) → Follows c.machine c.nodes (Stands c follows) c.nodes old now →
      (ss : List (Step (RaftInput C))) (s : Step (RaftInput C)) → IsRun c (ss ++ s ∷ []) → follows (ss ++ s ∷ []) →
      HasFollowed old (applied_by c.machine c.nodes (erased c ss)) → HasFollowed now (applied_by c.machine c.nodes (erased c (ss ++ s ∷ [])))
  followed-step old now was ss s run followed had =
      followed-erased old now was (erased c ss) (erased_step c (world_after c ss) s) (erased c (ss ++ s ∷ [])) (erased-more c ss s)
      (erased_run c (ss ++ s ∷ []) run) ((ss ++ s ∷ []), refl, followed) had

module _ {S C O : Type 0} (c : ReadCluster S C O) (sys : System (ReadView S C O) (KeptView C) (RaftInput C) (RaftOut O) (ReadMsg C)) (is : sys ≡ cluster_of c)
    (size : IsClusterSize c.nodes) (ss : List (Step (RaftInput C))) (s : Step (RaftInput C))
    (allowed : first_refused sys.net sys.meaning sys.recovery (ss ++ s ∷ []) ≡ None) where
  step_run : IsRun c (ss ++ s ∷ [])
  step_run = record { size = size; allowed = subst (λ x. first_refused x.net x.meaning x.recovery (ss ++ s ∷ []) ≡ None) is allowed }

  -- no read is answered where a step is no event
  pub reads-nowhere : (old : List (ℕ × RaftInput C)) (place : Option ℕ) → None ≡ place → IsPlace c sys.recovery place ss s → old ≡ answered c ss → old ≡ answered c (ss ++ s ∷ [])
  reads-nowhere old place none at had =
      had ∙ answered-nowhere c ss s step_run
      (subst (λ o. IsPlace c (recovery c) o ss s) (sym none) (subst (λ x. IsPlace c x.recovery place ss s) is at))

  -- those that a node has answered after an event there
  pub reads-somewhere : (old new : List (ℕ × RaftInput C)) (place : Option ℕ) (n : ℕ) (x : ReadView S C O) → Some n ≡ place →
      x ≡ (world_of sys (ss ++ s ∷ [])).state n → new ≡ old ++ map (λ y. (x.raft.applied, y.input)) x.answered →
      IsPlace c sys.recovery place ss s → old ≡ answered c ss → new ≡ answered c (ss ++ s ∷ [])
  reads-somewhere old new place n x some told more at had =
      let here : x ≡ (world_after c (ss ++ s ∷ [])).state n = told ∙ ap (λ u. (world_of u (ss ++ s ∷ [])).state n) is in
      more ∙ ap (λ ys. ys ++ map (λ y. (x.raft.applied, y.input)) x.answered) had
      ∙ ap (λ (v : ReadView S C O). answered c ss ++ map (λ y. (v.raft.applied, y.input)) v.answered) here
      ∙ answered-at c ss s step_run n
      (subst (λ o. IsPlace c (recovery c) o ss s) (sym some) (subst (λ x. IsPlace c x.recovery place ss s) is at))
