-- The executed requests with their places, and the answered reads among them.
use Rattle.std.proofs.Common.{◌≡◌, ℕ, ◌+◌, Bool, true, false, cond, List, [], ◌∷◌, ◌++◌, map, zip, Option, Some, None, refl, sym, ap, subst, ◌∙◌}
use Rattle.std.specs.List.{cons_option, enumerate_from, filter_map}
use Rattle.std.specs.Option.{option_to_list}
use Rattle.vst_base.specs.declared.entry.Entry.{Entry}
use Rattle.vst_base.specs.declared.step.Step.{Step}
use Rattle.raft_types.specs.declared.client.RaftInput.{RaftInput}
use Rattle.raft_clients.proofs.Listed.{executed_after-filter}
use Rattle.raft_clients.specs.Executed.{exceeds, executed, executed_after, is_executed, request_of, requests}
use Rattle.raft_reads.specs.Clusters.{ReadCluster}
use Rattle.raft_reads.specs.Erasing.{erased}
use Rattle.raft_safety.specs.Applied.{applied_by}
use Rattle.reads_safety.specs.Orders.{executed_at, insert_all, order, request_at}
use Rattle.reads_safety.proofs.Inserting.{insert_append}
use Rattle.reads_safety.proofs.Keyed.{executed_keys}
use Rattle.reads_safety.proofs.Keys.{sorted}
use Rattle.reads_safety.proofs.Placing.{Sorted}
use Rattle.applied_order.specs.Orders.{HasFollowed, OrderView}
use Rattle.read_observer.specs.Observed.{HasServed, ServedView}
use Rattle.read_observer.proofs.Sorting.{insert_sorted}

module _ {C : Type 0} where
  abbrev asked_at : ℕ × Entry C → Option (RaftInput C)
  asked_at p = request_of p.1

  abbrev index_at : ℕ × Entry C → ℕ
  index_at p = p.0

  -- each entry's index stands beside its request
  abbrev Pairs : List (ℕ × Entry C) → Type 0
  Pairs ps = zip (map index_at ps) (filter_map asked_at ps) ≡ filter_map request_at ps

  pairs-cons : (n : ℕ) (e : Entry C) (r : RaftInput C) (ps : List (ℕ × Entry C)) → request_of e ≡ Some r → Pairs ps → Pairs ((n, e) ∷ ps)
  pairs-cons n e r ps is rest = rw is (ap (λ zs. (n, r) ∷ zs) rest)

  pairs-chosen : (n : ℕ) (e : Entry C) (r : RaftInput C) (ps : List (ℕ × Entry C)) (b : Bool) → request_of e ≡ Some r → Pairs ps → Pairs (cond b ((n, e) ∷ ps) ps)
  pairs-chosen n e r ps true is rest = pairs-cons n e r ps is rest
  pairs-chosen n e r ps false is rest = rest

  pairs-executed : (n : ℕ) (e : Entry C) (earlier : List (RaftInput C)) (ps : List (ℕ × Entry C)) (o : Option (RaftInput C)) → request_of e ≡ o → Pairs ps →
      Pairs (cond (is_executed earlier o) ((n, e) ∷ ps) ps)
  pairs-executed n e earlier ps None is rest = rest
  pairs-executed n e earlier ps (Some r) is rest = pairs-chosen n e r ps (exceeds earlier r.client r.request) is rest

  pairs : (earlier : List (RaftInput C)) (n : ℕ) (es : List (Entry C)) → Pairs (executed_after asked_at earlier (enumerate_from n es))
  pairs earlier n [] = refl
  pairs earlier n (e ∷ es) =
      pairs-executed n e earlier (executed_after asked_at (earlier ++ option_to_list (request_of e)) (enumerate_from (n + 1) es)) (request_of e) refl
      (pairs (earlier ++ option_to_list (request_of e)) (n + 1) es)

  requests-numbered : (n : ℕ) (es : List (Entry C)) → filter_map asked_at (enumerate_from n es) ≡ requests es
  requests-numbered n [] = refl
  requests-numbered n (e ∷ es) = ap (cons_option (request_of e)) (requests-numbered (n + 1) es)

  -- what is kept of entries, as requests with their places
  pub kept_at : (o : OrderView C) (es : List (Entry C)) → HasFollowed o es → zip o.indexes o.requests ≡ executed_at es
  kept_at o es had =
      let ps = executed_after asked_at [] (enumerate_from 1 es) in
      let all : o.requests ≡ filter_map asked_at ps =
      had.requests ∙ ap executed (sym (requests-numbered 1 es)) ∙ sym (executed_after-filter asked_at [] (enumerate_from 1 es)) in
      (λ i. zip (had.indexes i) (all i)) ∙ pairs [] 1 es

  pub executed-sorted : (es : List (Entry C)) → Sorted (executed_at es)
  executed-sorted es = subst Sorted (sym (executed_keys es)) (sorted 0 [] es)

module _ {S C O : Type 0} (c : ReadCluster S C O) where
  -- the requests by place are what the cluster has served
  pub served : (o : ServedView C) (ss : List (Step (RaftInput C))) → HasServed c o ss →
      map (λ p. p.1) (insert_all [] (zip o.executed.indexes o.executed.requests ++ o.answered)) ≡ order c ss
  served o ss had =
      let es = applied_by c.machine c.nodes (erased c ss) in
      ap (λ xs. map (λ p. p.1) (insert_all [] (xs ++ o.answered))) (kept_at o.executed es had.executed)
      ∙ ap (map (λ p. p.1)) (insert_append c.machine [] (executed_at es) o.answered)
      ∙ ap (λ xs. map (λ p. p.1) (insert_all xs o.answered)) (insert_sorted (executed_at es) (executed-sorted es))
      ∙ ap (λ rs. map (λ p. p.1) (insert_all (executed_at es) rs)) had.answered
