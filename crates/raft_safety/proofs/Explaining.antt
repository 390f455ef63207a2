-- The executions of a log stay where it grows at its end.
use Rattle.std.proofs.Common.{◌≡◌, ℕ, zero, suc, ◌<◌, ◌≤◌, Bool, true, false, List, [], ◌∷◌, ◌++◌, length, cond, drop, Option, None, Some, slice_get, zip, inl, inr, refl, sym, ap, ◌∙◌, arith}
use Rattle.std.proofs.lemmas.List.Elements.{filter_map-append}
use Rattle.std.specs.List.{cons_option}
use Rattle.vst_base.specs.Machines.{MachineMeaning, state_after}
use Rattle.vst_base.specs.declared.entry.Entry.{Entry}
use Rattle.raft_clients.proofs.Executing.{outcomes}
use Rattle.raft_clients.proofs.Listed.{executed-append}
use Rattle.raft_clients.specs.Executed.{exceeds, executed, executed_after, commands, request_of, requests}
use Rattle.raft_clients.specs.Executions.{IsExecution, executions}
use Rattle.raft_free.specs.Events.{In}
use Rattle.raft_types.specs.declared.client.RaftInput.{RaftInput}
use Rattle.linearizability.specs.Linearizable.{HasInput, Told}
use Rattle.lists.specs.Places.{slice_get-front, slice_get_front}
use Rattle.lists.specs.Prefixes.{IsPrefix, prefix_append, prefix_joined}

-- an output that a client was told is that of an execution, and the requests that were executed up to it were put in
-- before
pub record IsExplained {S C O : Type 0} (m : MachineMeaning S C O) (rs : List (RaftInput C)) (t : Told C O) : Type 0 where
  pub execution : IsExecution (executions m rs) t.client t.request t.output
  pub in_time : (k : ℕ) (x : RaftInput C) → k ≤ execution.place → slice_get (executed rs) k ≡ Some x → HasInput t.before x

outcomes-append : {S C O : Type 0} (m : MachineMeaning S C O) (s : S) (xs ys : List (RaftInput C)) → outcomes m s (xs ++ ys) ≡ outcomes m s xs ++ outcomes m (state_after m s (commands xs)) ys
outcomes-append m s [] ys = refl
outcomes-append m s (x ∷ xs) ys = ap (λ zs. (x, (m.apply s x.cmd).1) ∷ zs) (outcomes-append m (m.apply s x.cmd).0 xs ys)

executed-in : {C : Type 0} (x : RaftInput C) (earlier rs : List (RaftInput C)) → In x (executed_after Some earlier rs) → In x rs
executed-in x earlier [] h = h
executed-in {C = C} x earlier (r ∷ rs) h = go (exceeds earlier r.client r.request) h (executed-in x (earlier ++ r ∷ []) rs)
  where
    later : List (RaftInput C)
    later = executed_after Some (earlier ++ r ∷ []) rs

    go : (b : Bool) → In x (cond b (r ∷ later) later) → (In x later → In x rs) → In x (r ∷ rs)
    go true (inl q) rest = inl q
    go true (inr i) rest = inr (rest i)
    go false i rest = inr (rest i)

-- only requests of the list are executed
pub in_executed : {C : Type 0} (x : RaftInput C) (rs : List (RaftInput C)) → In x (executed rs) → In x rs
in_executed x rs h = executed-in x [] rs h

-- a request of a log is that of one of its entries
pub record IsAsked {C : Type 0} (x : RaftInput C) (es : List (Entry C)) : Type 0 where
  pub entry : Entry C
  pub one : In entry es
  pub by : request_of entry ≡ Some x

pub in_requests : {C : Type 0} (x : RaftInput C) (es : List (Entry C)) → In x (requests es) → IsAsked x es
in_requests x [] h = absurd h
in_requests {C = C} x (e ∷ es) h = go (request_of e) refl (in_requests x es) h
  where
    later : IsAsked x es → IsAsked x (e ∷ es)
    later a = record { entry = a.entry; one = inr a.one; by = a.by }

    go : (o : Option (RaftInput C)) → request_of e ≡ o → (In x (requests es) → IsAsked x es) → In x (cons_option o (requests es)) → IsAsked x (e ∷ es)
    go None is rest h = later (rest h)
    go (Some r) is rest (inl q) = record { entry = e; one = inl refl; by = is ∙ ap (λ r. Some r) (sym q) }
    go (Some r) is rest (inr h) = later (rest h)

pub requests_front : {C : Type 0} {es : List (Entry C)} (fs : List (Entry C)) → IsPrefix es fs → IsPrefix (requests es) (requests fs)
requests_front {es = es} fs f = rw (← prefix_joined f, filter_map-append) (prefix_append (requests es) (requests (drop (length es) fs)))

zip_within : {A B : Type 0} (xs : List A) (ys : List B) (k : ℕ) (p : A × B) → slice_get (zip xs ys) k ≡ Some p → k < length xs
zip_within [] ys k p e = absurd (cc (e))
zip_within (x ∷ xs) [] k p e = absurd (cc (e))
zip_within (x ∷ xs) (y ∷ ys) zero p e = omega arith
zip_within (x ∷ xs) (y ∷ ys) (suc k) p e = let h = zip_within xs ys k p e in omega arith

pub explained_more : {S C O : Type 0} (m : MachineMeaning S C O) (rs qs : List (RaftInput C)) (t : Told C O) → IsPrefix rs qs → IsExplained m rs t → IsExplained m qs t
explained_more {S = S} {C = C} {O = O} m rs qs t f e = rw (← prefix_joined f) (record {
  execution = record {
    place = x.place;
    executed = x.executed;
    there = rw (executed-append rs rest, outcomes-append m m.init (executed rs) later) (slice_get_front (executions m rs) (outcomes m (state_after m m.init (commands (executed rs))) later) x.place (x.executed, t.output) x.there);
    client = x.client;
    request = x.request;
  };
  in_time = λ k y le at. e.in_time k y le (sym (slice_get-front (executed rs) later k (within k le)) ∙ (ap (λ xs. slice_get xs k) (sym (executed-append rs rest)) ∙ at));
})
  where
    rest : List (RaftInput C)
    rest = drop (length rs) qs

    later : List (RaftInput C)
    later = executed_after Some rs rest

    x : IsExecution (executions m rs) t.client t.request t.output
    x = e.execution

    within : (k : ℕ) → k ≤ x.place → k < length (executed rs)
    within k le = let h = zip_within (executed rs) _ x.place (x.executed, t.output) x.there in omega arith
