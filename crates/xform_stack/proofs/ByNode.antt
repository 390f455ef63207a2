-- What is kept of what a cluster has applied follows a step, node by node.
use Rattle.std.proofs.Common.{◌≡◌, ℕ, zero, suc, ◌+◌, ◌<◌, ◌≤◌, Bool, true, false, cond, ltb, List, [], ◌∷◌, ◌++◌, length, refl, arith}
use Rattle.net_semantics.specs.Runs.{run_from}
use Rattle.net_semantics.specs.Steps.{next}
use Rattle.net_semantics.specs.Worlds.{first_world}
use Rattle.vst_base.specs.Machines.{MachineMeaning}
use Rattle.vst_base.specs.declared.entry.Entry.{Entry}
use Rattle.vst_base.specs.declared.step.Step.{Step}
use Rattle.raft_types.specs.declared.client.RaftInput.{RaftInput}
use Rattle.raft_xform.specs.Nodes.{RaftView}
use Rattle.raft_xform.specs.Raft.{raft, raft_recovery}
use Rattle.raft_safety.specs.Applied.{applied_by, applied_list, applied_lists, longer, longest, longest_from}
use Rattle.raft_safety.specs.Runs.{IsRun, RaftWorld, world_after}
use Rattle.raft_safety.specs.Safety.{AppliedGrows, EachHasABeginning}
use Rattle.applied_order.specs.Orders.{HasFollowed, OrderView}
use Rattle.lists.specs.Prefixes.{IsPrefix}

longer_begins : {A : Type 0} (xs ys all : List A) → IsPrefix xs all → IsPrefix ys all → IsPrefix (longer xs ys) all
longer_begins xs ys all x y = go (ltb (length xs) (length ys))
  where
    go : (b : Bool) → IsPrefix (cond b ys xs) all
    go true = y
    go false = x

module _ {S C O : Type 0} (m : MachineMeaning S C O) (nodes : ℕ) where
  longest_begins : (w : RaftWorld S C O) (best all : List (Entry C)) (n : ℕ) → n ≤ nodes → IsPrefix best all →
      ((i : ℕ) → i < nodes → IsPrefix (applied_list (w.state i)) all) → IsPrefix (longest n (applied_lists w) best) all
  longest_begins w best all zero h begins each = begins
  longest_begins w best all (suc n) h begins each =
      longer_begins _ _ all (longest_begins w best all n (omega arith) begins each) (each n (omega arith))

  one_step : (w : RaftWorld S C O) (best : List (Entry C)) (ss : List (Step (RaftInput C))) (s : Step (RaftInput C)) →
      longest_from applied_lists m nodes w best (ss ++ s ∷ [])
      ≡ longest nodes (applied_lists (run_from (raft nodes m) (raft_recovery m) w (ss ++ s ∷ [])))
      (longest_from applied_lists m nodes w best ss)
  one_step w best [] s = refl
  one_step w best (t ∷ ss) s =
      let after = next (raft nodes m) (raft_recovery m) w t in
      one_step after (longest nodes (applied_lists after) best) ss s

  -- once so many nodes of what stands after these steps and one more were looked at, it is what is kept of the longest list of theirs
  pub record Follows (Stands : List (Step (RaftInput C)) → Type 0) (n : ℕ) (old now : OrderView C) : Type 0 where
    pub so_far : (ss : List (Step (RaftInput C))) (s : Step (RaftInput C)) → IsRun m nodes (ss ++ s ∷ []) → Stands (ss ++ s ∷ []) →
        HasFollowed old (applied_by m nodes ss) →
        HasFollowed now (longest n (applied_lists (world_after m nodes (ss ++ s ∷ []))) (applied_by m nodes ss))

  module _ (Stands : List (Step (RaftInput C)) → Type 0) where
    pub follows_first : (o : OrderView C) → Follows Stands 0 o o
    follows_first o = record { so_far = λ ss s run stands had. had }

    pub follows_more : AppliedGrows S C O → EachHasABeginning S C O →
        (n : ℕ) (old now next : OrderView C) (state : RaftView S C O) → n < nodes →
        ((ss : List (Step (RaftInput C))) → Stands ss → state ≡ (world_after m nodes ss).state n) →
        ((all es : List (Entry C)) → IsPrefix es all → IsPrefix (applied_list state) all → HasFollowed now es →
        HasFollowed next (longer es (applied_list state))) →
        Follows Stands n old now → Follows Stands (n + 1) old next
    follows_more grows each n old now next state below tells caught was = record {
      so_far = λ ss s run stands had.
          let w = world_after m nodes (ss ++ s ∷ []) in
          let all = applied_by m nodes (ss ++ s ∷ []) in
          let best = applied_by m nodes ss in
          let each_begins = λ (i : ℕ) (h : i < nodes). each m nodes (ss ++ s ∷ []) i run h in
          let begins = longest_begins w best all n (omega arith) (grows m nodes ss (s ∷ []) run) each_begins in
          let is : state ≡ w.state n = tells (ss ++ s ∷ []) stands in
          let one : n + 1 ≡ suc n = omega arith in
          let state_begins : IsPrefix (applied_list state) all = rw is (each_begins n below) in
          rw one (rw (← is) (caught all (longest n (applied_lists w) best) begins state_begins (was.so_far ss s run stands had)));
    }

    pub follows_all : (old now : OrderView C) → Follows Stands nodes old now → (ss : List (Step (RaftInput C))) (s : Step (RaftInput C)) →
        IsRun m nodes (ss ++ s ∷ []) → Stands (ss ++ s ∷ []) → HasFollowed old (applied_by m nodes ss) → HasFollowed now (applied_by m nodes (ss ++ s ∷ []))
    follows_all old now was ss s run stands had = rw (one_step (first_world (raft nodes m)) [] ss s) (was.so_far ss s run stands had)
