-- A read that was dropped is never answered.
use Rattle.std.proofs.Common.{◌≡◌, ℕ, suc, ◌||◌, Bool, true, false, List, [], ◌∷◌, ◌++◌, cond, refl, sym, ◌∙◌, append_assoc, append-nil, arith}
use Rattle.std.proofs.lemmas.Bool.{false≢true}
use Rattle.lists.specs.Each.{Each}
use Rattle.vst_base.specs.declared.step.Step.{Step}
use Rattle.vst_base.specs.declared.step.Step.TheVariants as step
use Rattle.raft_free.specs.Events.{In}
use Rattle.raft_types.specs.declared.client.RaftInput.{RaftInput}
use Rattle.linearizability.specs.Linearizable.{is_named}
use Rattle.raft_reads.specs.Clusters.{ReadCluster, world_after}
use Rattle.raft_reads.specs.Reads.{Waiting}
use Rattle.reads_safety.specs.Orders.{answered}
use Rattle.reads_safety.specs.Runs.{ArePairsUnused, IsRun}
use Rattle.reads_safety.specs.Safety.{DroppedIsGone}
use Rattle.reads_safety.proofs.Acts.{count_waiting}
use Rattle.reads_safety.proofs.Once.{NoneLeft, count, gone_on}
use Rattle.reads_safety.proofs.Placing.{named_itself}
use Rattle.reads_safety.proofs.Rounds.{run_front}
use Rattle.reads_safety.proofs.Tracing.{in_front, named_trans, other_name, unused_at}

-- none passes the test, by counting
none_waiting : {C : Type 0} (f : RaftInput C → Bool) (xs : List (Waiting C)) → Each (λ x. f x.input ≡ false) xs → count_waiting f xs ≡ 0
none_waiting f [] e = refl
none_waiting f (x ∷ xs) e = rw (e.0) (none_waiting f xs e.1)

each_waiting : {C : Type 0} (f : RaftInput C → Bool) (xs : List (Waiting C)) → count_waiting f xs ≡ 0 → Each (λ x. f x.input ≡ false) xs
each_waiting f [] e = tt
each_waiting f (x ∷ xs) e = go (f x.input) refl e (each_waiting f xs)
  where
    go : (b : Bool) → f x.input ≡ b → cond b (suc (count_waiting f xs)) (count_waiting f xs) ≡ 0 → (count_waiting f xs ≡ 0 → Each (λ x. f x.input ≡ false) xs) → Each (λ x. f x.input ≡ false) (x ∷ xs)
    go true is e rest = absurd (omega (arith, e))
    go false is e rest = (is, rest e)

none_answered : {C : Type 0} (f : RaftInput C → Bool) (xs : List (ℕ × RaftInput C)) → Each (λ y. f y.1 ≡ false) xs → count f xs ≡ 0
none_answered f [] e = refl
none_answered f (x ∷ xs) e = rw (e.0) (none_answered f xs e.1)

each_answered : {C : Type 0} (f : RaftInput C → Bool) (xs : List (ℕ × RaftInput C)) → count f xs ≡ 0 → Each (λ y. f y.1 ≡ false) xs
each_answered f [] e = tt
each_answered f (x ∷ xs) e = go (f x.1) refl e (each_answered f xs)
  where
    go : (b : Bool) → f x.1 ≡ b → cond b (suc (count f xs)) (count f xs) ≡ 0 → (count f xs ≡ 0 → Each (λ y. f y.1 ≡ false) xs) → Each (λ y. f y.1 ≡ false) (x ∷ xs)
    go true is e rest = absurd (omega (arith, e))
    go false is e rest = (is, rest e)

or_first : (a b : Bool) → a ≡ true → (a || b) ≡ true
or_first true b e = refl
or_first false b e = absurd (false≢true e)

module _ {S C O : Type 0} (c : ReadCluster S C O) (n : ℕ) (i : RaftInput C) (reads : c.is_read i.cmd ≡ true) where
  -- no later request has its name
  none_comes : (ss : List (Step (RaftInput C))) (s : Step (RaftInput C)) (ys : List (Step (RaftInput C))) → ArePairsUnused c (ss ++ s ∷ ys) → In (step.In n i) ss →
      (m : ℕ) (z : RaftInput C) → s ≡ step.In m z → is_named i.client i.request z ≡ true → ⊥
  none_comes ss s ys u there m z is named =
      let unused = unused_at c ss (step.In m z) ys n i (rw is at u) there in
      let other = other_name c m i z unused (or_first (c.is_read i.cmd) (c.is_read z.cmd) reads) in
      false≢true (sym other ∙ named_trans i.client i.request z i named (named_itself i))

  gone_run : (ss xs : List (Step (RaftInput C))) → IsRun c (ss ++ xs) → ArePairsUnused c (ss ++ xs) → In (step.In n i) ss →
      NoneLeft c i.client i.request ss (world_after c ss) → NoneLeft c i.client i.request (ss ++ xs) (world_after c (ss ++ xs))
  gone_run ss [] r u there g = rw (append-nil ss) g
  gone_run ss (x ∷ xs) r u there g =
      let r' : IsRun c ((ss ++ x ∷ []) ++ xs) = rw (append_assoc ss (x ∷ []) xs) r in
      let next = gone_on c i.client i.request ss x (run_front c (ss ++ x ∷ []) xs r') g (none_comes ss x xs u there) in
      rw (append_assoc ss (x ∷ []) xs) at (gone_run (ss ++ x ∷ []) xs r' (rw (append_assoc ss (x ∷ []) xs) u) (in_front (step.In n i) ss (x ∷ []) there) next)

pub dropped_is_gone : (S C O : Type 0) → DroppedIsGone S C O
dropped_is_gone S C O c early late n i r u reads there g =
    let f : RaftInput C → Bool = is_named i.client i.request in
    let none : NoneLeft c i.client i.request early (world_after c early) = record {
      waits = λ j. none_waiting (is_named i.client i.request) ((world_after c early).state j).reads.waiting (g.nowhere j);
      answers = none_answered (is_named i.client i.request) (answered c early) g.unanswered;
    } in
    let later = gone_run c n i reads early late r u there none in
    record {
      nowhere = λ j. each_waiting (is_named i.client i.request) ((world_after c (early ++ late)).state j).reads.waiting (later.waits j);
      unanswered = each_answered (is_named i.client i.request) (answered c (early ++ late)) later.answers;
    }
