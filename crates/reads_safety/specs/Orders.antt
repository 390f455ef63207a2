-- The order of what clients asked for: the executed requests, and each answered read after those that its node had applied.
use Rattle.std.specs.Prelude.{ℕ, List, [], ◌∷◌, ◌++◌, Option, Some, None, map, option_map, nat_le, if◌then◌else◌}
use Rattle.std.specs.List.{enumerate_from, filter_map}
use Rattle.net_semantics.specs.Steps.{Event, event_of}
use Rattle.vst_base.specs.declared.entry.Entry.{Entry}
use Rattle.vst_base.specs.declared.step.Step.{Step}
use Rattle.raft_clients.specs.Executed.{executed_after, request_of}
use Rattle.raft_types.specs.declared.client.RaftInput.{RaftInput}
use Rattle.raft_types.specs.declared.client.RaftOut.{RaftOut}
use Rattle.raft_reads.specs.Clusters.{ReadCluster, ReadWorld, first, handlers, next_world}
use Rattle.raft_reads.specs.Erasing.{erased}
use Rattle.raft_types.specs.Rounds.{ReadMsg}
use Rattle.raft_reads.specs.Reads.{ReadView}
use Rattle.raft_safety.specs.Applied.{applied_by}

module _ {C : Type 0} where
  -- an entry's request, with the index of the entry
  abbrev pub request_at : ℕ × Entry C → Option (ℕ × RaftInput C)
  request_at p = option_map (λ r. (p.0, r)) (request_of p.1)

  -- the executed requests of a log, each with the index of its entry
  abbrev pub executed_at : List (Entry C) → List (ℕ × RaftInput C)
  executed_at es = filter_map request_at (executed_after (λ p. request_of p.1) [] (enumerate_from 1 es))

  -- a read with its index stands after all that have no greater one
  abbrev pub insert : List (ℕ × RaftInput C) → ℕ × RaftInput C → List (ℕ × RaftInput C)
  insert [] x = x ∷ []
  insert (y ∷ ys) x = if nat_le y.0 x.0 then y ∷ insert ys x else x ∷ y ∷ ys

  abbrev pub insert_all : List (ℕ × RaftInput C) → List (ℕ × RaftInput C) → List (ℕ × RaftInput C)
  insert_all ys [] = ys
  insert_all ys (x ∷ xs) = insert_all (insert ys x) xs

module _ {S C O : Type 0} where
  -- the reads that an event answers, each with the index up to which its node has applied its log then
  abbrev pub answered_in : Option (Event (ReadView S C O) (RaftInput C) (RaftOut O) (ReadMsg C)) → List (ℕ × RaftInput C)
  answered_in None = []
  answered_in (Some e) = map (λ x. (e.effect.state.raft.applied, x.input)) e.effect.state.answered

  abbrev pub answered_at : ReadCluster S C O → ReadWorld S C O → Step (RaftInput C) → List (ℕ × RaftInput C)
  answered_at c w s = answered_in (event_of (handlers c) w s)

  -- those that these steps answer, in order
  abbrev pub answered_from : ReadCluster S C O → ReadWorld S C O → List (Step (RaftInput C)) → List (ℕ × RaftInput C)
  answered_from c w [] = []
  answered_from c w (s ∷ ss) = answered_at c w s ++ answered_from c (next_world c w s) ss

  abbrev pub answered : ReadCluster S C O → List (Step (RaftInput C)) → List (ℕ × RaftInput C)
  answered c ss = answered_from c (first c) ss

  -- what was executed, and the reads that were answered, in order
  abbrev pub placed : ReadCluster S C O → List (Step (RaftInput C)) → List (ℕ × RaftInput C)
  placed c ss = insert_all (executed_at (applied_by c.machine c.nodes (erased c ss))) (answered c ss)

  abbrev pub order : ReadCluster S C O → List (Step (RaftInput C)) → List (RaftInput C)
  order c ss = map (λ p. p.1) (placed c ss)
