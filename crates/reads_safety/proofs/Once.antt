-- Each read is answered once.
use Rattle.std.proofs.Common.{◌≡◌, ◌≢◌, ℕ, suc, ◌+◌, ◌≤◌, ◌⊎◌, inl, inr, Bool, true, false, not, ◌||◌, List, [], ◌∷◌, ◌++◌, map, Some, cond, refl, sym, ap, ◌∙◌, append_assoc, append-nil, arith}
use Rattle.std.proofs.lemmas.Bool.{cases_Bool, eq-eqb, false≢true}
use Rattle.std.proofs.lemmas.Bool.Decides.{eqb_tells}
use Rattle.std.specs.List.{filter}
use Rattle.net_semantics.specs.Steps.{after_event, with_packets}
use Rattle.vst_base.specs.declared.step.Step.{Step}
use Rattle.vst_base.specs.declared.step.Step.TheVariants as step
use Rattle.raft_free.specs.Events.{In}
use Rattle.raft_types.specs.declared.client.RaftInput.{RaftInput}
use Rattle.lists.specs.Each.{Each}
use Rattle.linearizability.specs.Linearizable.{AreDistinct, AreOther, is_named}
use Rattle.raft_reads.specs.ReadRaft.{reads_after, with_reads}
use Rattle.raft_reads.specs.Reads.{ReadView, Reads, Waiting, is_ready, still_leads}
use Rattle.raft_reads.specs.Clusters.{ReadCluster, ReadWorld, next_world, world_after}
use Rattle.reads_safety.specs.Orders.{answered, answered_at, answered_in}
use Rattle.reads_safety.specs.Runs.{ArePairsUnused, IsRun}
use Rattle.reads_safety.proofs.Acts.{Act, Comes, Quiet, act, count_waiting}
use Rattle.reads_safety.proofs.Reading.{answered_last}
use Rattle.reads_safety.proofs.Rounds.{after_step, run_front, taken_last}
use Rattle.reads_safety.proofs.Placing.{asked, named_itself}
use Rattle.reads_safety.proofs.Tracing.{in_front, in_split, named_trans, other_back, other_name, unused_at}

abbrev pub count : {C : Type 0} → (RaftInput C → Bool) → List (ℕ × RaftInput C) → ℕ
count f [] = 0
count f (x ∷ xs) = cond (f x.1) (suc (count f xs)) (count f xs)

pub count_nil : {C : Type 0} (f : RaftInput C → Bool) → count {C = C} f [] ≡ 0
count_nil f = refl

pub count_append : {C : Type 0} (f : RaftInput C → Bool) (xs ys : List (ℕ × RaftInput C)) → count f (xs ++ ys) ≡ count f xs + count f ys
count_append f [] ys = omega arith
count_append f (x ∷ xs) ys = go (f x.1) (count_append f xs ys)
  where
    go : (b : Bool) → count f (xs ++ ys) ≡ count f xs + count f ys → cond b (suc (count f (xs ++ ys))) (count f (xs ++ ys)) ≡ cond b (suc (count f xs)) (count f xs) + count f ys
    go true h = omega (arith, h)
    go false h = h

-- what is answered and what goes on waiting
pub count_parts : {C : Type 0} (f : RaftInput C → Bool) (ready : Waiting C → Bool) (a : ℕ) (xs : List (Waiting C)) →
    count_waiting f (filter (λ x. not (ready x)) xs) + count f (map (λ x. (a, x.input)) (filter ready xs)) ≡ count_waiting f xs
count_parts f ready a [] = refl
count_parts {C = C} f ready a (x ∷ xs) = go (ready x) (count_parts f ready a xs)
  where
    left : List (Waiting C)
    left = filter (λ x. not (ready x)) xs

    done : List (Waiting C)
    done = filter ready xs

    one : (b : Bool) (k n m : ℕ) → k + n ≡ m → k + cond b (suc n) n ≡ cond b (suc m) m
    one true k n m h = omega (arith, h)
    one false k n m h = h

    other : (b : Bool) (k n m : ℕ) → k + n ≡ m → cond b (suc k) k + n ≡ cond b (suc m) m
    other true k n m h = omega (arith, h)
    other false k n m h = h

    go : (r : Bool) → count_waiting f (filter (λ x. not (ready x)) xs) + count f (map (λ x. (a, x.input)) (filter ready xs)) ≡ count_waiting f xs →
        count_waiting f (cond (not r) (x ∷ filter (λ x. not (ready x)) xs) (filter (λ x. not (ready x)) xs)) + count f (map (λ x. (a, x.input)) (cond r (x ∷ filter ready xs) (filter ready xs))) ≡ count_waiting f (x ∷ xs)
    go true h = one (f x.input) _ _ _ h
    go false h = other (f x.input) _ _ _ h

cases_same : (a b : ℕ) → (a ≡ b) ⊎ (a ≢ b)
cases_same a b = elim (eqb_tells a b) [ inl t ↦ inl t.1 | inr t ↦ inr t.1 ]

either : (a b : Bool) → b ≡ true → (a || b) ≡ true
either true b h = refl
either false b h = h

module _ {S C O : Type 0} (c : ReadCluster S C O) (client request : ℕ) where
  -- no client put in a request of this name
  abbrev pub NoName : List (Step (RaftInput C)) → Type 0
  NoName ss = (j : ℕ) (z : RaftInput C) → In (step.In j z) ss → is_named client request z ≡ false

  abbrev named : RaftInput C → Bool
  named z = is_named client request z

  abbrev waiting : ReadWorld S C O → ℕ → ℕ
  waiting w j = count_waiting (is_named client request) (w.state j).reads.waiting

  -- one node alone may have a read of this name, and it waits or was answered at most once
  pub record IsOnce (ss : List (Step (RaftInput C))) (w : ReadWorld S C O) : Type 0 where
    pub home : ℕ
    pub elsewhere : (j : ℕ) → j ≢ home → count_waiting (is_named client request) (w.state j).reads.waiting ≡ 0
    pub once : count_waiting (is_named client request) (w.state home).reads.waiting + count (is_named client request) (answered c ss) ≤ 1
    pub none : NoName ss → count_waiting (is_named client request) (w.state home).reads.waiting + count (is_named client request) (answered c ss) ≡ 0

  fewer : (ss : List (Step (RaftInput C))) (s : Step (RaftInput C)) → NoName (ss ++ s ∷ []) → NoName ss
  fewer ss s h j z i = h j z (in_front (step.In j z) ss (s ∷ []) i)

  -- no read of the name waits or was answered
  pub record NoneLeft (ss : List (Step (RaftInput C))) (w : ReadWorld S C O) : Type 0 where
    pub waits : (j : ℕ) → count_waiting (is_named client request) (w.state j).reads.waiting ≡ 0
    pub answers : count (is_named client request) (answered c ss) ≡ 0

  -- an event
  module _ (ss : List (Step (RaftInput C))) (s : Step (RaftInput C)) (a : Act c (world_after c ss) s) where
    abbrev W : ReadWorld S C O
    W = after_event (with_packets (world_after c ss) a.packets) (Some (record { node = a.node; input = a.input; effect = with_reads c.machine c.nodes a.node ((world_after c ss).state a.node).raft a.effect a.reads a.term a.round }))

    abbrev rest : Reads C
    rest = reads_after c.nodes ((world_after c ss).state a.node).raft a.effect.state a.reads

    here : W.state a.node ≡ (with_reads c.machine c.nodes a.node ((world_after c ss).state a.node).raft a.effect a.reads a.term a.round).state
    here = rw (eq-eqb a.node a.node refl) refl

    others : (j : ℕ) → j ≢ a.node → W.state j ≡ (world_after c ss).state j
    others j ne = elim (eqb_tells j a.node) [ inl t ↦ absurd (ne t.1) | inr t ↦ rw (t.0) refl ]

    same_count : (j : ℕ) → j ≢ a.node → waiting W j ≡ waiting (world_after c ss) j
    same_count j ne = ap (λ (x : ReadView S C O). count_waiting (is_named client request) x.reads.waiting) (others j ne)

    -- what waits and what is answered at the node
    abbrev done : ℕ
    done = count (is_named client request) (answered_at c (world_after c ss) s)

    parts : waiting W a.node + done ≤ count_waiting (is_named client request) a.reads.waiting
    parts = rw (here, a.event) (go (still_leads ((world_after c ss).state a.node).raft a.effect.state) refl)
      where
        go : (b : Bool) → still_leads ((world_after c ss).state a.node).raft a.effect.state ≡ b →
            count_waiting (is_named client request) (filter (λ x. not (is_ready c.nodes a.node a.effect.state rest x)) rest.waiting)
            + count (is_named client request) (map (λ x. (a.effect.state.applied, x.input)) (filter (is_ready c.nodes a.node a.effect.state rest) rest.waiting)) ≤ count_waiting (is_named client request) a.reads.waiting
        go true e = let k = count_parts (is_named client request) (is_ready c.nodes a.node a.effect.state rest) a.effect.state.applied rest.waiting in
            let same : count_waiting (is_named client request) rest.waiting ≡ count_waiting (is_named client request) a.reads.waiting = rw e refl in omega (arith, k, same)
        go false e = rw e (omega arith)

    in_all : count (is_named client request) (answered c (ss ++ s ∷ [])) ≡ count (is_named client request) (answered c ss) + done
    in_all = ap (count (is_named client request)) (answered_last c ss s) ∙ count_append (is_named client request) (answered c ss) (answered_at c (world_after c ss) s)

    module _ (ys : List (Step (RaftInput C))) (unused : ArePairsUnused c (ss ++ s ∷ ys)) (o : IsOnce ss (world_after c ss)) where
      -- no read of the name comes
      no_new : count_waiting (is_named client request) a.reads.waiting ≤ waiting (world_after c ss) a.node → IsOnce (ss ++ s ∷ []) W
      no_new le = go (cases_same o.home a.node)
        where
          go : (o.home ≡ a.node) ⊎ (o.home ≢ a.node) → IsOnce (ss ++ s ∷ []) W
          go (inl e) =
              let was : waiting (world_after c ss) o.home ≡ waiting (world_after c ss) a.node = ap (waiting (world_after c ss)) e in
              record {
                home = a.node;
                elsewhere = λ j ne. same_count j ne ∙ o.elsewhere j (λ q. ne (q ∙ e));
                once = omega (arith, parts, in_all, o.once, was, le);
                none = λ h. let z = o.none (fewer ss s h) in omega (arith, parts, in_all, was, le);
              }
          go (inr ne) =
              let empty : waiting (world_after c ss) a.node ≡ 0 = o.elsewhere a.node (λ q. ne (sym q)) in
              let same = same_count o.home ne in
              record {
                home = o.home;
                elsewhere = λ j other. elim (cases_same j a.node) [
                  | inl q ↦ (let w : waiting W j ≡ waiting W a.node = ap (waiting W) q in omega (arith, parts, le, empty, w))
                  | inr q ↦ same_count j q ∙ o.elsewhere j other
                ];
                once = omega (arith, parts, in_all, o.once, same, empty, le);
                none = λ h. let z = o.none (fewer ss s h) in omega (arith, parts, in_all, same, empty, le);
              }

      -- one comes, which is the first request of its name
      new : Comes c a.node s (is_named client request) (waiting (world_after c ss) a.node) (count_waiting (is_named client request) a.reads.waiting) → IsOnce (ss ++ s ∷ []) W
      new k = record {
        home = a.node;
        elsewhere = λ j ne. same_count j ne ∙ zero_at j;
        once = omega (arith, parts, in_all, answered_zero, zero_at a.node, k.more);
        none = λ h. absurd (false≢true (sym (h a.node k.input (rw (k.step) (in_split ss (step.In a.node k.input) []))) ∙ k.passes));
      }
        where
          first_one : NoName ss
          first_one j z h = elim (cases_Bool (is_named client request z)) [
            | inr e ↦ e
            | inl e ↦
                (let u = unused_at c ss (step.In a.node k.input) ys j z (rw (k.step) at unused) h in
                let d = other_name c a.node z k.input u (either (c.is_read z.cmd) (c.is_read k.input.cmd) k.reads) in
                absurd (false≢true (sym d ∙ named_trans client request k.input z k.passes e)))
          ]

          both : waiting (world_after c ss) o.home + count (is_named client request) (answered c ss) ≡ 0
          both = o.none first_one

          answered_zero : count (is_named client request) (answered c ss) ≡ 0
          answered_zero = omega (arith, both)

          zero_at : (j : ℕ) → waiting (world_after c ss) j ≡ 0
          zero_at j = elim (cases_same j o.home) [ inl e ↦ (let w : waiting (world_after c ss) j ≡ waiting (world_after c ss) o.home = ap (waiting (world_after c ss)) e in omega (arith, both, w)) | inr ne ↦ o.elsewhere j ne ]

      pub event_once : IsOnce (ss ++ s ∷ []) W
      event_once = elim (a.counted (is_named client request)) [ inl le ↦ no_new le | inr k ↦ new k ]

    -- where none of the name is left, and none comes, none is answered
    event_gone : NoneLeft ss (world_after c ss) → (Comes c a.node s (is_named client request) (waiting (world_after c ss) a.node) (count_waiting (is_named client request) a.reads.waiting) → ⊥) → NoneLeft (ss ++ s ∷ []) W
    event_gone g none = elim (a.counted (is_named client request)) [ inl le ↦ stays le | inr k ↦ absurd (none k) ]
      where
        stays : count_waiting (is_named client request) a.reads.waiting ≤ waiting (world_after c ss) a.node → NoneLeft (ss ++ s ∷ []) W
        stays le = record {
          waits = λ j. elim (cases_same j a.node) [
            | inl e ↦ (let same : waiting W j ≡ waiting W a.node = ap (waiting W) e in omega (arith, parts, le, g.waits a.node, same))
            | inr ne ↦ same_count j ne ∙ g.waits j
          ];
          answers = omega (arith, parts, le, g.waits a.node, in_all, g.answers);
        }

  quiet_less : (ss : List (Step (RaftInput C))) (s : Step (RaftInput C)) → Quiet c (world_after c ss) s → (j : ℕ) → waiting (next_world c (world_after c ss) s) j ≤ waiting (world_after c ss) j
  quiet_less ss s q j = elim (q.each j) [
    | inl e ↦ (let k : waiting (next_world c (world_after c ss) s) j ≡ waiting (world_after c ss) j = ap (λ (x : ReadView S C O). count_waiting (is_named client request) x.reads.waiting) e in omega (arith, k))
    | inr e ↦ (let k : waiting (next_world c (world_after c ss) s) j ≡ 0 = ap (count_waiting (is_named client request)) e in omega (arith, k))
  ]

  quiet_same : (ss : List (Step (RaftInput C))) (s : Step (RaftInput C)) → Quiet c (world_after c ss) s → count (is_named client request) (answered c (ss ++ s ∷ [])) ≡ count (is_named client request) (answered c ss)
  quiet_same ss s q = ap (count (is_named client request)) (answered_last c ss s ∙ (ap (λ o. answered c ss ++ answered_in o) q.none ∙ append-nil (answered c ss)))

  quiet_once : (ss : List (Step (RaftInput C))) (s : Step (RaftInput C)) → IsOnce ss (world_after c ss) → Quiet c (world_after c ss) s → IsOnce (ss ++ s ∷ []) (next_world c (world_after c ss) s)
  quiet_once ss s o q = record {
    home = o.home;
    elsewhere = λ j ne. let a = quiet_less ss s q j in let b = o.elsewhere j ne in omega arith;
    once = let a = quiet_less ss s q o.home in let b = o.once in omega (arith, quiet_same ss s q);
    none = λ h. let a = quiet_less ss s q o.home in let b = o.none (fewer ss s h) in omega (arith, quiet_same ss s q);
  }

  -- a step after which none of the name is left either
  pub gone_on : (ss : List (Step (RaftInput C))) (s : Step (RaftInput C)) → IsRun c (ss ++ s ∷ []) → NoneLeft ss (world_after c ss) →
      ((n : ℕ) (z : RaftInput C) → s ≡ step.In n z → is_named client request z ≡ true → ⊥) → NoneLeft (ss ++ s ∷ []) (world_after c (ss ++ s ∷ []))
  gone_on ss s r g none = elim (act c (world_after c ss) s (taken_last c ss s r)) [
    | inl a ↦ rw (after_step c ss s, a.is) (event_gone ss s a g (λ k. none a.node k.input k.step k.passes))
    | inr q ↦ rw (after_step c ss s) (record {
      waits = λ j. let l = quiet_less ss s q j in let z = g.waits j in omega (arith, l, z);
      answers = quiet_same ss s q ∙ g.answers;
    })
  ]

  once_on : (ss : List (Step (RaftInput C))) (s : Step (RaftInput C)) (ys : List (Step (RaftInput C))) → ArePairsUnused c (ss ++ s ∷ ys) → IsRun c (ss ++ s ∷ []) → IsOnce ss (world_after c ss) → IsOnce (ss ++ s ∷ []) (world_after c (ss ++ s ∷ []))
  once_on ss s ys u r o = elim (act c (world_after c ss) s (taken_last c ss s r)) [
    | inl a ↦ rw (after_step c ss s, a.is) (event_once ss s a ys u o)
    | inr q ↦ rw (after_step c ss s) (quiet_once ss s o q)
  ]

  once_run : (ss xs : List (Step (RaftInput C))) → ArePairsUnused c (ss ++ xs) → IsRun c (ss ++ xs) → IsOnce ss (world_after c ss) → IsOnce (ss ++ xs) (world_after c (ss ++ xs))
  once_run ss [] u r o = rw (append-nil ss) o
  once_run ss (x ∷ xs) u r o =
      let r' : IsRun c ((ss ++ x ∷ []) ++ xs) = rw (append_assoc ss (x ∷ []) xs) r in
      rw (append_assoc ss (x ∷ []) xs) at (once_run (ss ++ x ∷ []) xs (rw (append_assoc ss (x ∷ []) xs) u) r' (once_on ss x xs u (run_front c (ss ++ x ∷ []) xs r') o))

  pub at_most_once : (ss : List (Step (RaftInput C))) → ArePairsUnused c ss → IsRun c ss → count (is_named client request) (answered c ss) ≤ 1
  at_most_once ss u r =
      let o = once_run [] ss u r (record { home = 0; elsewhere = λ j ne. refl; once = omega arith; none = λ h. omega arith }) in
      omega (arith, o.once)

-- so no two answered reads have one name
pub distinct_of : {C : Type 0} (xs : List (ℕ × RaftInput C)) → ((client request : ℕ) → count (is_named client request) xs ≤ 1) → AreDistinct (asked xs)
distinct_of [] h = tt
distinct_of {C = C} (x ∷ xs) h = (none xs (zero x.1.client x.1.request (h x.1.client x.1.request)), distinct_of xs (λ client request. less (is_named client request x.1) _ (h client request)))
  where
    less : (b : Bool) (k : ℕ) → cond b (suc k) k ≤ 1 → k ≤ 1
    less true k le = omega (arith, le)
    less false k le = le

    zero : (client request : ℕ) → count (is_named x.1.client x.1.request) (x ∷ xs) ≤ 1 → count (is_named x.1.client x.1.request) xs ≡ 0
    zero client request le = let k : suc (count (is_named x.1.client x.1.request) xs) ≤ 1 = rw (named_itself x.1) at le in omega (arith, k)

    none : (ys : List (ℕ × RaftInput C)) → count (is_named x.1.client x.1.request) ys ≡ 0 → Each (AreOther x.1) (asked ys)
    none [] e = tt
    none (y ∷ ys) e = one (is_named x.1.client x.1.request y.1) refl e (none ys)
      where
        one : (b : Bool) → is_named x.1.client x.1.request y.1 ≡ b → cond b (suc (count (is_named x.1.client x.1.request) ys)) (count (is_named x.1.client x.1.request) ys) ≡ 0 →
            (count (is_named x.1.client x.1.request) ys ≡ 0 → Each (AreOther x.1) (asked ys)) → Each (AreOther x.1) (asked (y ∷ ys))
        one true b e rest = absurd (omega (arith, e))
        one false b e rest = (other_back y.1 x.1 b, rest e)
