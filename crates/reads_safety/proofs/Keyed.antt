-- The executed requests with the indexes of their entries, entry by entry.
use Rattle.std.proofs.Common.{◌≡◌, ℕ, suc, ◌+◌, Bool, true, false, cond, if◌then◌else◌, List, [], ◌∷◌, ◌++◌, map, Option, Some, None, refl, ap, arith}
use Rattle.std.specs.List.{enumerate_from, filter_map}
use Rattle.std.specs.Option.{option_to_list}
use Rattle.vst_base.specs.declared.entry.Entry.{Entry}
use Rattle.vst_base.specs.declared.step.Step.{Step}
use Rattle.raft_clients.specs.Executed.{exceeds, executed_after, is_executed, request_of}
use Rattle.raft_types.specs.declared.client.RaftInput.{RaftInput}
use Rattle.raft_safety.specs.Applied.{applied_by}
use Rattle.raft_reads.specs.Clusters.{ReadCluster}
use Rattle.raft_reads.specs.Erasing.{erased}
use Rattle.reads_safety.specs.Orders.{answered, executed_at, insert_all, order, request_at}

module _ {C : Type 0} where
  -- what an entry of this index adds to what is executed of the entries behind it
  abbrev pub executed_if : ℕ → List (RaftInput C) → List (ℕ × RaftInput C) → Option (RaftInput C) → List (ℕ × RaftInput C)
  executed_if k earlier rest None = rest
  executed_if k earlier rest (Some r) = if exceeds earlier r.client r.request then (k, r) ∷ rest else rest

  -- the executed requests of entries after the index k, where these were asked for earlier
  abbrev pub executed_from : ℕ → List (RaftInput C) → List (Entry C) → List (ℕ × RaftInput C)
  executed_from k earlier [] = []
  executed_from k earlier (e ∷ es) = executed_if (suc k) earlier (executed_from (suc k) (earlier ++ option_to_list (request_of e)) es) (request_of e)

  same_keys : (k next : ℕ) → next ≡ suc k → (earlier : List (RaftInput C)) (es : List (Entry C)) →
      filter_map request_at (executed_after (λ p. request_of p.1) earlier (enumerate_from next es)) ≡ executed_from k earlier es
  same_keys k next is earlier [] = refl
  same_keys k next is earlier (e ∷ es) =
      one (request_of e) refl (executed_after (λ p. request_of p.1) (earlier ++ option_to_list (request_of e)) (enumerate_from (next + 1) es)) _
      (same_keys (suc k) (next + 1) (omega (arith, is)) (earlier ++ option_to_list (request_of e)) es)
    where
      chosen : (r : RaftInput C) → request_of e ≡ Some r → (b : Bool) (rest : List (ℕ × Entry C)) (keys : List (ℕ × RaftInput C)) → filter_map request_at rest ≡ keys →
          filter_map request_at (cond b ((next, e) ∷ rest) rest) ≡ cond b ((suc k, r) ∷ keys) keys
      chosen r asked true rest keys h = rw asked (λ i. (is i, r) ∷ h i)
      chosen r asked false rest keys h = h

      one : (o : Option (RaftInput C)) → request_of e ≡ o → (rest : List (ℕ × Entry C)) (keys : List (ℕ × RaftInput C)) → filter_map request_at rest ≡ keys →
          filter_map request_at (cond (is_executed earlier o) ((next, e) ∷ rest) rest) ≡ executed_if (suc k) earlier keys o
      one None asked rest keys h = h
      one (Some r) asked rest keys h = chosen r asked (exceeds earlier r.client r.request) rest keys h

  pub executed_keys : (es : List (Entry C)) → executed_at es ≡ executed_from 0 [] es
  executed_keys es = same_keys 0 1 refl [] es

module _ {S C O : Type 0} where
  -- the order by these
  abbrev pub keyed : ReadCluster S C O → List (Step (RaftInput C)) → List (ℕ × RaftInput C)
  keyed c ss = insert_all (executed_from 0 [] (applied_by c.machine c.nodes (erased c ss))) (answered c ss)

  abbrev pub keyed_order : ReadCluster S C O → List (Step (RaftInput C)) → List (RaftInput C)
  keyed_order c ss = map (λ p. p.1) (keyed c ss)

  pub same_order : (c : ReadCluster S C O) (ss : List (Step (RaftInput C))) → order c ss ≡ keyed_order c ss
  same_order c ss = ap (λ keys. map (λ p. p.1) (insert_all keys (answered c ss))) (executed_keys (applied_by c.machine c.nodes (erased c ss)))
