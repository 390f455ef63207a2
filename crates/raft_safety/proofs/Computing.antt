-- The machine and the sessions of a node are what its applied entries make of the first ones.
use Rattle.std.proofs.Common.{◌≡◌, ◌-◌, List, ◌++◌, take, drop, sym, ap, ◌∙◌}
use Rattle.std.specs.FinMap.{empty}
use Rattle.vst_base.specs.Machines.{MachineMeaning}
use Rattle.vst_base.specs.declared.entry.Entry.{Entry}
use Rattle.raft_clients.proofs.Once.{applied-append}
use Rattle.raft_clients.specs.Sessions.{AppliedAll, Sessions, applied_all}
use Rattle.raft_free.specs.Events.{In}
use Rattle.raft_xform.specs.Nodes.{RaftEffect, RaftView}
use Rattle.raft_safety.specs.Applied.{applied_list}
use Rattle.raft_safety.proofs.Acting.{in_right}
use Rattle.raft_safety.proofs.Advancing.{Advances, news}
use Rattle.lists.specs.Places.{take_on}

module _ {S C O : Type 0} (m : MachineMeaning S C O) where
  -- from the first state and no sessions on
  abbrev pub all_of : List (Entry C) → AppliedAll S C O
  all_of es = applied_all m m.init empty es

  pub record Computes (s : RaftView S C O) : Type 0 where
    pub machine : (all_of (applied_list s)).state ≡ s.machine
    pub sessions : (all_of (applied_list s)).sessions ≡ s.sessions

  -- an event of the node keeps what it had applied: it goes on, and tells what entries that it has applied are answered
  pub record GoesOn (s : RaftView S C O) (e : RaftEffect S C O) : Type 0 where
    pub computes : Computes e.state
    pub answers : (a : Entry C × O) → In a (news m s e.state).answers → In a (all_of (applied_list e.state)).answers

  pub goes_on : (s : RaftView S C O) (e : RaftEffect S C O) → Computes s → Advances m s e → take s.applied e.state.log ≡ take s.applied s.log → GoesOn s e
  goes_on s e k adv same = record {
    computes = record { machine = ap (λ a. a.state) whole ∙ sym adv.machine; sessions = ap (λ a. a.sessions) whole ∙ sym adv.sessions };
    answers = λ a h. rw whole (in_right a before.answers (news m s e.state).answers h);
  }
    where
      before : AppliedAll S C O
      before = all_of (applied_list s)

      more : List (Entry C)
      more = take (e.state.applied - s.applied) (drop s.applied e.state.log)

      split : applied_list e.state ≡ applied_list s ++ more
      split = take_on s.applied e.state.applied e.state.log adv.no_less ∙ ap (λ xs. xs ++ more) same

      from : S → Sessions O → AppliedAll S C O
      from x y = record (applied_all m x y more) { answers = before.answers ++ (applied_all m x y more).answers }

      whole : all_of (applied_list e.state) ≡ record (news m s e.state) { answers = before.answers ++ (news m s e.state).answers }
      whole = ap all_of split ∙ (applied-append m m.init empty (applied_list s) more ∙ (λ i. from (k.machine i) (k.sessions i)))
