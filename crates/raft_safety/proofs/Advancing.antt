-- What a node does with the machine: it applies the entries that its log has after those that it had applied, and
-- tells its clients what these are answered.
use Rattle.std.proofs.Common.{◌≡◌, ℕ, ◌-◌, ◌≤◌, Bool, true, false, List, [], ◌∷◌, take, drop, eqb, cond, Some, inl, inr, ap, refl, arith}
use Rattle.vst_base.specs.Machines.{MachineMeaning}
use Rattle.vst_base.specs.declared.entry.Entry.{Entry}
use Rattle.vst_base.specs.declared.what.What.{What}
use Rattle.vst_base.specs.declared.what.What.TheVariants.{Noop, Request}
use Rattle.raft_clients.specs.Executed.{asked_by, request_of}
use Rattle.raft_clients.specs.Sessions.{AppliedAll, applied_all}
use Rattle.raft_free.specs.Events.{In}
use Rattle.raft_free.proofs.Stepping.{in_append}
use Rattle.raft_types.specs.declared.client.RaftInput.{RaftInput}
use Rattle.raft_types.specs.declared.client.RaftOut.{RaftOut}
use Rattle.raft_types.specs.declared.client.RaftOut.TheVariants as told
use Rattle.raft_xform.specs.Applying.{replies, reply}
use Rattle.raft_xform.specs.Nodes.{RaftEffect, RaftView}

-- one of these answers is told to this client
pub record Tells {C O : Type 0} (answers : List (Entry C × O)) (client request : ℕ) (output : O) : Type 0 where
  pub answer : Entry C × O
  pub one : In answer answers
  pub asked : RaftInput C
  pub by : request_of answer.0 ≡ Some asked
  pub whom : asked.client ≡ client
  pub number : asked.request ≡ request
  pub with_it : answer.1 ≡ output

abbrev pub IsAnswer : {C O : Type 0} → List (Entry C × O) → RaftOut O → Type 0
IsAnswer answers (told.Reply client request output) = Tells answers client request output
IsAnswer answers (told.NotLeader client request) = Unit {0}
IsAnswer answers (told.Full client request) = Unit {0}

module _ {C O : Type 0} where
  pub silent : (answers : List (Entry C × O)) (x : RaftOut O) → In x [] → IsAnswer answers x
  silent answers x h = absurd h

  reply_answers : (me : ℕ) (e : Entry C) (output : O) (rest : List (Entry C × O)) (x : RaftOut O) → In x (reply me e.what output) → IsAnswer ((e, output) ∷ rest) x
  reply_answers me e output rest x = by_what e.what refl
    where
      by_what : (w : What C) → e.what ≡ w → In x (reply me w output) → IsAnswer ((e, output) ∷ rest) x
      by_what Noop is h = absurd h
      by_what (Request client request origin cmd) is h = go (eqb origin me) h
        where
          asked : RaftInput C
          asked = record { client = client; request = request; cmd = cmd }

          go : (b : Bool) → In x (cond b (told.Reply client request output ∷ []) []) → IsAnswer ((e, output) ∷ rest) x
          go true (inl q) = rw q (record { answer = (e, output); one = inl refl; asked = asked; by = ap asked_by is; whom = refl; number = refl; with_it = refl })
          go true (inr h) = absurd h
          go false h = absurd h

  answers_more : (a : Entry C × O) (rest : List (Entry C × O)) (x : RaftOut O) → IsAnswer rest x → IsAnswer (a ∷ rest) x
  answers_more a rest (told.Reply client request output) t = record { answer = t.answer; one = inr t.one; asked = t.asked; by = t.by; whom = t.whom; number = t.number; with_it = t.with_it }
  answers_more a rest (told.NotLeader client request) t = tt
  answers_more a rest (told.Full client request) t = tt

  pub replies_answer : (me : ℕ) (answers : List (Entry C × O)) (x : RaftOut O) → In x (replies me answers) → IsAnswer answers x
  replies_answer me [] x h = absurd h
  replies_answer me (a ∷ rest) x h =
      elim (in_append x (reply me a.0.what a.1) (replies me rest) h) [ inl q ↦ reply_answers me a.0 a.1 rest x q | inr q ↦ answers_more a rest x (replies_answer me rest x q) ]

module _ {S C O : Type 0} where
  -- what a node that had applied so much applies, once it is in this state
  abbrev pub news : MachineMeaning S C O → RaftView S C O → RaftView S C O → AppliedAll S C O
  news m s t = applied_all m s.machine s.sessions (take (t.applied - s.applied) (drop s.applied t.log))

  pub record Advances (m : MachineMeaning S C O) (s : RaftView S C O) (e : RaftEffect S C O) : Type 0 where
    pub no_less : s.applied ≤ e.state.applied
    pub machine : e.state.machine ≡ (news m s e.state).state
    pub sessions : e.state.sessions ≡ (news m s e.state).sessions
    pub told : (x : RaftOut O) → In x e.outputs → IsAnswer (news m s e.state).answers x

  -- nothing is applied, and no client is told an output
  pub advances_none : (m : MachineMeaning S C O) (s : RaftView S C O) (e : RaftEffect S C O) → e.state.applied ≡ s.applied → e.state.machine ≡ s.machine → e.state.sessions ≡ s.sessions →
      ((answers : List (Entry C × O)) (x : RaftOut O) → In x e.outputs → IsAnswer answers x) → Advances m s e
  advances_none m s e a q r quiet =
      let z : e.state.applied - s.applied ≡ 0 = omega arith in
      record { no_less = omega arith; machine = rw z q; sessions = rw z r; told = λ x h. quiet _ x h }
